-- The calls of a group of flights and its journal in a record.
use Rattle.std.specs.Prelude.{ℕ, ℤ, Bool, true, false, List}
use Rattle.script_calls.specs.declared.call.Reply.{Reply}
use Rattle.script_calls.specs.declared.call.Reply.TheVariants as replies
use Rattle.flight_core.specs.FlightMachine.{next, start}
use Rattle.flight_core.specs.FlightEdges.{flight_releases, flight_acquires}
use Rattle.flight_core.specs.declared.calls.FlightOutcome.{FlightOutcome}
use Rattle.flight_core.specs.declared.calls.FlightOutcome.TheVariants.{Lead, Got, Landed}
use Rattle.flight_core.specs.declared.calls.FlightStage.{FlightStage}
use Rattle.flight_core.specs.declared.calls.FlightStage.TheVariants as stage
use Rattle.flight_core.specs.FlightStages.{flight_event, flight_meaning}
use Rattle.run_record.specs.declared.entered.ObjectEvent.TheVariants as event
use Rattle.run_record.specs.declared.entered.ObjectReply.TheVariants as reply
use Rattle.run_record.specs.AtomicKind.{adds}
use Rattle.run_record.specs.Journals.{FollowsFrom}
use Rattle.run_record.specs.Parts.{Part, and_then, never, read_as, returns, stages}
use Rattle.run_record.specs.Record.{ObjectEntry}

-- whether a flight that landed had a joiner
abbrev pub was_shared : FlightOutcome → Bool
was_shared (Landed shared) = shared
was_shared Lead = false
was_shared (Got value) = false

module _ (part : FlightStage → Part FlightOutcome) (function : Part ℤ) where
  -- the caller that leads runs the function, lands with what it came to, and tells whether that was shared; one that joined a flight returns with what that came to
  abbrev pub goes_on_flight : FlightOutcome → Part (Reply ℕ)
  goes_on_flight Lead = and_then function (λ value. read_as (λ outcome. replies.Flown value (was_shared outcome)) (part (stage.Land value)))
  goes_on_flight (Got value) = returns (replies.Flown value true)
  goes_on_flight (Landed shared) = never

-- a call on a group, from a stage on
abbrev pub flight_part : ℕ → FlightStage → Part FlightOutcome
flight_part object from = stages event.Flight reply.Flight flight_event flight_meaning object from

-- A call comes for the key of this number, and goes on by what that comes to. The group's function adds this amount to atomic number a
abbrev pub fly_call : (object a : ℕ) → ℤ → (key : ℕ) → Part (Reply ℕ)
fly_call object a amount key = and_then (flight_part object (stage.Join key)) (goes_on_flight (flight_part object) (adds a amount))

-- there is no flight at the start
abbrev pub IsFlightJournal : ℕ → List ObjectEntry → Type 0
IsFlightJournal workers journal = FollowsFrom event.Flight reply.Flight next flight_releases flight_acquires (start workers) journal
