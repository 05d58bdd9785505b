-- A group of flights `f` adds 3 to an int64 `a`, and both workers come for the key `k`.
use Rattle.std.specs.Prelude.{ℕ, ℤ, pos, Bool, true, false, List, [], ◌∷◌}
use Rattle.flight_core.specs.declared.event.FlightEvent.{FlightEvent}
use Rattle.flight_core.specs.declared.event.FlightEvent.TheVariants.{Join, Land, Leave}
use Rattle.flight_core.specs.declared.event.FlightReply.{FlightReply}
use Rattle.flight_core.specs.declared.event.FlightReply.TheVariants.{Lead, Queued, Landed, Left}
use Rattle.script_calls.specs.declared.call.Call.{Call}
use Rattle.script_calls.specs.declared.call.Operation.TheVariants as operations
use Rattle.script_calls.specs.declared.call.Reply.TheVariants.{Flown}
use Rattle.script_calls.specs.declared.outcome.Outcome.{Outcome}
use Rattle.script_calls.specs.declared.outcome.Outcome.TheVariants as outcomes
use Rattle.sync_model.specs.declared.journal.Deed.TheVariants.{Event}
use Rattle.sync_types.specs.declared.atomic_object.AtomicKind.TheVariants as types
use Rattle.sync_types.specs.declared.atomic_object.Number.TheVariants.{Int64}
use Rattle.sync_types.specs.declared.end.End.TheVariants.{Number}
use Rattle.workload.specs.declared.object.ObjectKind.TheVariants as kinds
use Rattle.workload.specs.Plan.{Plan}
use Rattle.run_record.specs.declared.entered.ObjectEvent.TheVariants as event
use Rattle.run_record.specs.declared.entered.ObjectReply.TheVariants as reply
use Rattle.run_record.specs.declared.made.Made.TheVariants.{Shared, Entered}
use Rattle.run_record.specs.Record.{Record, ObjectEntry}
use Rattle.run_laws.specs.Examples.{declared, on, plan_of, none_known}
use Rattle.run_laws.specs.ExamplesOnce.{adds, added, first_known, both_known}

abbrev pub flies : Call
flies = on 1 (operations.Fly (107 ∷ []))

abbrev pub plan : Plan
plan = plan_of (declared 97 (kinds.Atomic types.Int64) ∷ declared 102 (kinds.Flight 0 (pos 3)) ∷ []) (flies ∷ []) (flies ∷ [])

-- both workers have what the one flight came to, and 3 is left
abbrev pub outcome : Outcome
outcome = outcomes.Done (record { replies = (Flown (pos 3) true ∷ []) ∷ (Flown (pos 3) true ∷ []) ∷ []; ends = Number 0 (Int64 (pos 3)) ∷ [] })

-- an entry of the group's journal, with what its worker knew then
abbrev pub flight_entry : ℕ → FlightEvent → FlightReply → List ℕ → ObjectEntry
flight_entry worker e r front = record { caller = worker; deed = Event (event.Flight e) (reply.Flight r); front = front; knew = 0; time = 0 }

-- a worker leads a flight of the key, whose number is 0; it lands with a sum
abbrev pub leads : ℕ → List ℕ → ObjectEntry
leads worker front = flight_entry worker (Join 0) Lead front

abbrev pub lands : ℕ → ℤ → Bool → List ℕ → ObjectEntry
lands worker sum shared front = flight_entry worker (Land sum) (Landed shared) front

-- worker 1 joins the flight of worker 0; it leaves with a value
abbrev pub joins : ObjectEntry
joins = flight_entry 1 (Join 0) Queued none_known

abbrev pub leaves : ℕ → ObjectEntry
leaves value = flight_entry 1 Leave (Left (pos value)) first_known

-- worker 0 leads the flight and adds, and worker 1, who joined it, leaves with a value
abbrev pub left_with : ℕ → Record
left_with value = record {
  history = added 0 (pos 3) ∷ [];
  journals = [] ∷ [] ∷ (leads 0 none_known ∷ joins ∷ lands 0 (pos 3) true first_known ∷ leaves value ∷ []) ∷ [];
  lists = (Entered 2 (leads 0 none_known) ∷ Shared (adds 0 (pos 3) none_known) ∷ Entered 2 (lands 0 (pos 3) true first_known) ∷ []) ∷ (Entered 2 joins ∷ Entered 2 (leaves value) ∷ []) ∷ [];
}

-- worker 1 leads a flight of the key, too, while that of worker 0 is under way, and 6 is left
abbrev pub led_by_two : Record
led_by_two = record {
  history = added 0 (pos 3) ∷ added 1 (pos 6) ∷ [];
  journals = [] ∷ [] ∷ (leads 0 none_known ∷ leads 1 none_known ∷ lands 0 (pos 3) false first_known ∷ lands 1 (pos 6) false both_known ∷ []) ∷ [];
  lists =
      (Entered 2 (leads 0 none_known) ∷ Shared (adds 0 (pos 3) none_known) ∷ Entered 2 (lands 0 (pos 3) false first_known) ∷ [])
      ∷ (Entered 2 (leads 1 none_known) ∷ Shared (adds 1 (pos 6) none_known) ∷ Entered 2 (lands 1 (pos 6) false both_known) ∷ []) ∷ [];
}
