-- What calls answer, by what their protocol gives.
use Rattle.std.specs.Prelude.{◌≡◌, ℕ, Bool, false, Result, Ok, Err}
use Rattle.sync_types.specs.declared.misuse.Misuse.{Misuse}
use Rattle.sync_model.specs.declared.answer.Answer.{Answer}
use Rattle.sync_model.specs.declared.answer.Answer.TheVariants.{Done, Halted}
use Rattle.protocols.specs.declared.once.OnceOutcome.{OnceOutcome}
use Rattle.protocols.specs.declared.once.OnceOutcome.TheVariants as outcome
use Rattle.protocols.specs.Spelling.{CallAnswer}
use Rattle.starts_core.specs.declared.protocol.StartsOutcome.{StartsOutcome}
use Rattle.starts_core.specs.declared.protocol.StartsOutcome.TheVariants as start
use Rattle.go_waits.specs.declared.once_begun.OnceBegun.{OnceBegun}
use Rattle.go_waits.specs.declared.once_begun.OnceBegun.TheVariants.{Run, Already}

-- a call that gives nothing but that it is done
abbrev pub done_answer : {O : Type 0} → CallAnswer O → Answer Unit
done_answer (Done given) = Done tt
done_answer (Halted misuse) = Halted misuse

-- this caller's beginning
abbrev pub IsBegunBy : {T : Type 0} → CallAnswer (OnceOutcome T) → ℕ → Answer (OnceBegun T) → Type 0
IsBegunBy answer caller (Done (Run running)) = (answer ≡ Done (Ok outcome.Run)) × (running.caller ≡ caller)
IsBegunBy answer caller (Done (Already kept)) = answer ≡ Done (Ok (outcome.Already kept))
IsBegunBy answer caller (Halted misuse) = answer ≡ Halted misuse

-- whether a worker that waited was started. Such a call gives nothing else: `starts_gives` says so
abbrev pub started_of : Result StartsOutcome Misuse → Bool
started_of (Ok (start.Started was)) = was
started_of (Ok start.Done) = false
started_of (Err misuse) = false
