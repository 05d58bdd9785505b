-- How a call of a group of flights is cut from a list.
use Rattle.std.specs.Prelude.{ℕ, ℤ, Bool, true, false, ◌==◌, Option, Some, None}
use Rattle.std.specs.Ordering.{int_eq}
use Rattle.script_calls.specs.declared.call.Reply.{Reply}
use Rattle.script_calls.specs.declared.call.Reply.TheVariants as replies
use Rattle.flight_core.specs.declared.event.FlightEvent.{FlightEvent}
use Rattle.flight_core.specs.declared.event.FlightEvent.TheVariants.{Join, Land, Leave}
use Rattle.flight_core.specs.declared.event.FlightReply.{FlightReply}
use Rattle.flight_core.specs.FlightStages.{flight_meaning}
use Rattle.flight_core.specs.declared.calls.FlightOutcome.{FlightOutcome}
use Rattle.flight_core.specs.declared.calls.FlightOutcome.TheVariants.{Lead, Got, Landed}
use Rattle.flight_core.specs.declared.calls.FlightStage.{FlightStage}
use Rattle.flight_core.specs.declared.calls.FlightStage.TheVariants as stage
use Rattle.run_record.specs.FlightKind.{was_shared}
use Rattle.run_record.specs.declared.entered.ObjectEvent.{ObjectEvent}
use Rattle.run_record.specs.declared.entered.ObjectEvent.TheVariants as event
use Rattle.run_record.specs.declared.entered.ObjectReply.{ObjectReply}
use Rattle.run_record.specs.declared.entered.ObjectReply.TheVariants as reply
use Rattle.run_cuts.specs.Cuts.{Cutter, move, never_cut, read_cut, returns_cut, stages_cut, then_cut}
use Rattle.run_cuts.specs.SharedCuts.{adds_cut}

abbrev pub flight_event_in : ObjectEvent → Option FlightEvent
flight_event_in (event.Flight e) = Some e
flight_event_in other = None

abbrev pub flight_reply_in : ObjectReply → Option FlightReply
flight_reply_in (reply.Flight r) = Some r
flight_reply_in other = None

-- whether the event is the stage's: a joining of its key, a landing with its value
abbrev pub is_flight_event : FlightStage → FlightEvent → Bool
is_flight_event (stage.Join key) (Join told) = told == key
is_flight_event (stage.Land value) (Land told) = int_eq told value
is_flight_event stage.Leave Leave = true
is_flight_event from event = false

abbrev pub flight_cut : ℕ → FlightStage → Cutter FlightOutcome
flight_cut object from = stages_cut (move flight_event_in flight_reply_in is_flight_event flight_meaning) object from

module _ (part : FlightStage → Cutter FlightOutcome) (function : Cutter ℤ) where
  abbrev pub goes_on_cut : FlightOutcome → Cutter (Reply ℕ)
  goes_on_cut Lead = then_cut function (λ value. read_cut (λ outcome. replies.Flown value (was_shared outcome)) (part (stage.Land value)))
  goes_on_cut (Got value) = returns_cut (replies.Flown value true)
  goes_on_cut (Landed shared) = never_cut

abbrev pub fly_cut : (object a : ℕ) → ℤ → (key : ℕ) → Cutter (Reply ℕ)
fly_cut object a amount key = then_cut (flight_cut object (stage.Join key)) (goes_on_cut (flight_cut object) (adds_cut a amount))
