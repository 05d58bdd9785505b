use Rattle.std.proofs.Common.{◌≡◌, sym, ◌∙◌, subst}
use Rattle.call_loop.specs.Lazy.{rw_settles}
use Rattle.call_loop.proofs.OpenLocks.{rw_at_any, rw_ends}
use Rattle.call_loop.proofs.lazily_timed.RwCoreLazilyTimed.needs_no_moment.Goals as goal

pub returns-in-Lock-clause-exact : goal.returns-in-Lock-clause-exact
returns-in-Lock-clause-exact c = subst (λ stage. c.is_open.result ≡ rw_settles stage c.args.kept.now) (sym c.in-Lock.is) c.is_open.ensures.open

pub returns-in-Lock-clause-ends : goal.returns-in-Lock-clause-ends
returns-in-Lock-clause-ends c told caller now = rw_ends c.args.kept.now c.args.stage c.in-Lock.is (sym c.is_open.ensures.open ∙ told) c.is_open.ensures.valid c.newcomers.ensures.unqueued caller now

pub returns-in-Lock-clause-any_moment : goal.returns-in-Lock-clause-any_moment
returns-in-Lock-clause-any_moment c told caller now other = rw_at_any c.args.kept.now c.args.stage c.in-Lock.is (sym c.is_open.ensures.open ∙ told) c.newcomers.ensures.any_moment caller now other
