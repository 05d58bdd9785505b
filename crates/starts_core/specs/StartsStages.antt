-- The calls of a worker on Starts, stage by stage.
use Rattle.std.specs.Prelude.{◌≡◌, ℕ, Bool, true, false, Option, None, Result, Ok, Err}
use Rattle.sync_types.specs.declared.misuse.Misuse.{Misuse}
use Rattle.protocols.specs.declared.step.Step.{Step}
use Rattle.protocols.specs.declared.step.Step.TheVariants.{Finished, Waits, Never}
use Rattle.starts_core.specs.declared.protocol.StartsOutcome.{StartsOutcome}
use Rattle.starts_core.specs.declared.protocol.StartsOutcome.TheVariants as outcome
use Rattle.starts_core.specs.declared.protocol.StartsStage.{StartsStage}
use Rattle.starts_core.specs.declared.protocol.StartsStage.TheVariants as stage
use Rattle.starts_core.specs.declared.starts.StartEvent.{StartEvent}
use Rattle.starts_core.specs.declared.starts.StartEvent.TheVariants as event
use Rattle.starts_core.specs.declared.starts.StartReply.{StartReply}
use Rattle.starts_core.specs.declared.starts.StartReply.TheVariants as reply
use Rattle.starts_core.specs.StartsMachine.{StartsState, callers_of}

-- the event that a stage makes
abbrev pub starts_event : StartsStage → ℕ → StartEvent
starts_event (stage.Start worker) now = event.Start worker
starts_event stage.End now = event.End
starts_event stage.WaitStart now = event.Leave

-- a start and an end are one event each
abbrev pub made_meaning : StartReply → Step StartsStage StartsOutcome
made_meaning reply.Done = Finished outcome.Done
made_meaning reply.Go = Never
made_meaning reply.Never = Never
made_meaning reply.Still = Never

-- a worker goes where it was started, doesn't where it never will be, and else sleeps on
abbrev pub wait_meaning : StartReply → Step StartsStage StartsOutcome
wait_meaning reply.Done = Never
wait_meaning reply.Go = Finished (outcome.Started true)
wait_meaning reply.Never = Finished (outcome.Started false)
wait_meaning reply.Still = Waits stage.WaitStart

abbrev pub starts_meaning : StartsStage → StartReply → Step StartsStage StartsOutcome
starts_meaning (stage.Start worker) reply = made_meaning reply
starts_meaning stage.End reply = made_meaning reply
starts_meaning stage.WaitStart reply = wait_meaning reply

-- Nothing is asked of a caller: each event is one that any worker may make.
abbrev pub starts_stands : (Unit {0}) → StartEvent → StartReply → (Unit {0})
starts_stands stand event reply = tt

abbrev pub starts_allows : StartsState → (Unit {0}) → StartsStage → Bool
starts_allows start stand stage = true

abbrev pub is_done : StartsOutcome → Bool
is_done outcome.Done = true
is_done (outcome.Started was) = false

abbrev pub is_started : StartsOutcome → Bool
is_started outcome.Done = false
is_started (outcome.Started was) = true

-- no call is a misuse
abbrev pub starts_gives : StartsStage → Result StartsOutcome Misuse → Bool
starts_gives stage (Err misuse) = false
starts_gives (stage.Start worker) (Ok outcome) = is_done outcome
starts_gives stage.End (Ok outcome) = is_done outcome
starts_gives stage.WaitStart (Ok outcome) = is_started outcome

-- a worker that goes knows what the one knew that started it
abbrev pub has_started : StartsOutcome → Bool
has_started outcome.Done = false
has_started (outcome.Started was) = was

abbrev pub starts_gains : StartsStage → StartsOutcome → Bool
starts_gains (stage.Start worker) outcome = false
starts_gains stage.End outcome = false
starts_gains stage.WaitStart outcome = has_started outcome

-- so many workers, of whom any may wait to be started
abbrev pub StartsBegins : ℕ → StartsState → Type 0
StartsBegins callers state = callers_of state ≡ callers

-- no event carries a moment
abbrev pub starts_moment : StartEvent → Option ℕ
starts_moment event = None
