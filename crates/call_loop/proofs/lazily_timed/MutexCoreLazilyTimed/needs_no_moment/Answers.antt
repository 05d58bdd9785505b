use Rattle.std.proofs.Common.{◌≡◌, sym, ◌∙◌, subst}
use Rattle.mutex_core.specs.Word.{told_by}
use Rattle.call_loop.specs.Lazy.{mutex_settles}
use Rattle.call_loop.proofs.OpenLocks.{mutex_at_any, mutex_ends}
use Rattle.call_loop.proofs.lazily_timed.MutexCoreLazilyTimed.needs_no_moment.Goals as goal

pub returns-in-Lock-clause-exact : goal.returns-in-Lock-clause-exact
returns-in-Lock-clause-exact c = subst (λ stage. c.tells_open.result ≡ mutex_settles stage (told_by c.args.kept.now c.args.word)) (sym c.in-Lock.is) c.tells_open.ensures

pub returns-in-Lock-clause-ends : goal.returns-in-Lock-clause-ends
returns-in-Lock-clause-ends c told caller now = mutex_ends (told_by c.args.kept.now c.args.word) c.args.stage c.in-Lock.is (sym c.tells_open.ensures ∙ told) c.newcomers.ensures.unqueued caller now

pub returns-in-Lock-clause-any_moment : goal.returns-in-Lock-clause-any_moment
returns-in-Lock-clause-any_moment c told caller now other = mutex_at_any (told_by c.args.kept.now c.args.word) c.args.stage c.in-Lock.is (sym c.tells_open.ensures ∙ told) c.newcomers.ensures.any_moment caller now other
