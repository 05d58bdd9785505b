use Rattle.std.proofs.Common.{ℕ, sym, ◌∙◌}
use Rattle.script_calls.specs.declared.call.Reply.{Reply}
use Rattle.script_calls.specs.declared.call.Reply.TheVariants as replies
use Rattle.protocols.specs.declared.cond.CondStage.TheVariants as stage
use Rattle.protocols.specs.declared.mutex.MutexStage.TheVariants as mutex_stage
use Rattle.run_record.specs.CondKind.{cond_part}
use Rattle.run_record.specs.MutexKind.{mutex_part}
use Rattle.run_record.specs.Parts.{Part, and_then, read_as}
use Rattle.thread_runner.proofs.Working.{ended_first, gone_first, reads}
use Rattle.thread_runner.proofs.wait.wait.Goals as goal

-- what comes behind the cond's leaving, behind the unlock, and behind the ticket
abbrev locks : ℕ → Part (Reply ℕ)
locks mutex = read_as (λ locked. replies.Returned) (mutex_part mutex mutex_stage.Lock)

abbrev leaves : ℕ → ℕ → Part (Reply ℕ)
leaves cond mutex = and_then (cond_part cond stage.Leave) (λ left. locks mutex)

abbrev unlocks : ℕ → ℕ → Part (Reply ℕ)
unlocks cond mutex = and_then (mutex_part mutex mutex_stage.Unlock) (λ unlocked. leaves cond mutex)

pub returns-in-Err-clause-works : goal.returns-in-Err-clause-works
returns-in-Err-clause-works g c =
    ended_first c.moves.ensures.none c.moves.ensures.joined (cond_part c.args.cond stage.Ticket) (λ ticket. unlocks c.args.cond c.args.mutex) _ _ _ _ (sym c.gone_on-ticket.ensures ∙ c.in-Err.is) c.cond_at.ensures.works

pub returns-in-Err-unlocked-clause-works : goal.returns-in-Err-unlocked-clause-works
returns-in-Err-unlocked-clause-works g c =
    gone_first c.moves.ensures.none c.moves.ensures.joined (cond_part c.args.cond stage.Ticket) (λ ticket. unlocks c.args.cond c.args.mutex) _ _ _ _ _ _ (sym c.gone_on-ticket.ensures ∙ c.in_default.is) c.cond_at.ensures.works
    (ended_first c.moves.ensures.none c.moves.ensures.joined (mutex_part c.args.mutex mutex_stage.Unlock) (λ unlocked. leaves c.args.cond c.args.mutex) _ _ _ _ (sym c.gone_on-unlocked.ensures ∙ c.in-Err-unlocked.is) c.mutex_at.ensures.works)

pub returns-in-Err-left-clause-works : goal.returns-in-Err-left-clause-works
returns-in-Err-left-clause-works g c =
    gone_first c.moves.ensures.none c.moves.ensures.joined (cond_part c.args.cond stage.Ticket) (λ ticket. unlocks c.args.cond c.args.mutex) _ _ _ _ _ _ (sym c.gone_on-ticket.ensures ∙ c.in_default.is) c.cond_at.ensures.works
    (gone_first c.moves.ensures.none c.moves.ensures.joined (mutex_part c.args.mutex mutex_stage.Unlock) (λ unlocked. leaves c.args.cond c.args.mutex) _ _ _ _ _ _ (sym c.gone_on-unlocked.ensures ∙ c.in_default-unlocked.is) c.mutex_at.ensures.works
    (ended_first c.moves.ensures.none c.moves.ensures.joined (cond_part c.args.cond stage.Leave) (λ left. locks c.args.mutex) _ _ _ _ (sym c.gone_on-left.ensures ∙ c.in-Err-left.is) c.cond_at-2.ensures.works))

pub returns-clause-works : goal.returns-clause-works
returns-clause-works g c =
    gone_first c.moves.ensures.none c.moves.ensures.joined (cond_part c.args.cond stage.Ticket) (λ ticket. unlocks c.args.cond c.args.mutex) _ _ _ _ _ _ (sym c.gone_on-ticket.ensures ∙ c.in_default.is) c.cond_at.ensures.works
    (gone_first c.moves.ensures.none c.moves.ensures.joined (mutex_part c.args.mutex mutex_stage.Unlock) (λ unlocked. leaves c.args.cond c.args.mutex) _ _ _ _ _ _ (sym c.gone_on-unlocked.ensures ∙ c.in_default-unlocked.is) c.mutex_at.ensures.works
    (gone_first c.moves.ensures.none c.moves.ensures.joined (cond_part c.args.cond stage.Leave) (λ left. locks c.args.mutex) _ _ _ _ _ _ (sym c.gone_on-left.ensures ∙ c.in_default-left.is) c.cond_at-2.ensures.works
    (reads _ _ _ _ _ _ c.locked_again.ensures c.mutex_at-2.ensures.works)))
