-- What the calls of a group answer, by what their protocol gives.
use Rattle.std.specs.Prelude.{◌≡◌, ℕ, Bool, false, Result, Ok, Err}
use Rattle.sync_types.specs.declared.misuse.Misuse.{Misuse}
use Rattle.sync_model.specs.declared.answer.Answer.{Answer}
use Rattle.sync_model.specs.declared.answer.Answer.TheVariants.{Done, Halted}
use Rattle.flight_core.specs.declared.calls.FlightOutcome.{FlightOutcome}
use Rattle.flight_core.specs.declared.calls.FlightOutcome.TheVariants as outcome
use Rattle.protocols.specs.Spelling.{CallAnswer}
use Rattle.call_loop.specs.Calls.{told}
use Rattle.single_flight.specs.declared.begun.Begun.{Begun}
use Rattle.single_flight.specs.declared.begun.Begun.TheVariants.{Lead, Got}

-- a landing answers whether somebody joined
abbrev pub land_of : Result FlightOutcome Misuse → Bool
land_of (Ok (outcome.Landed shared)) = shared
land_of (Ok outcome.Lead) = false
land_of (Ok (outcome.Got value)) = false
land_of (Err misuse) = false

abbrev pub land_answer : CallAnswer FlightOutcome → Answer Bool
land_answer answer = told land_of answer

-- this caller's coming for a key
abbrev pub IsBegunBy : CallAnswer FlightOutcome → ℕ → Answer Begun → Type 0
IsBegunBy answer caller (Done (Lead flight)) = (answer ≡ Done (Ok outcome.Lead)) × (flight.caller ≡ caller)
IsBegunBy answer caller (Done (Got value)) = answer ≡ Done (Ok (outcome.Got value))
IsBegunBy answer caller (Halted misuse) = answer ≡ Halted misuse
