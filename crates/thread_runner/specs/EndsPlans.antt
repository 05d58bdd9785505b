-- What is made before the start of a run.
use Rattle.std.specs.Prelude.{◌≡◌, ℕ, ◌+◌, ◌*◌, ◌<◌, ◌≤◌, List, [], Contains, Option, Some, length, get_or, slice_get}
use Rattle.std.specs.Option.{ForSome}
use Rattle.sync_model.specs.declared.caller.Caller.{Caller}
use Rattle.sync_types.specs.declared.end.End.{End}
use Rattle.sync_model.specs.Note.{Holding}
use Rattle.sync_model.specs.Shared.{items_of}
use Rattle.workload.specs.Keys.{keys_in, key_number, key_name}
use Rattle.workload.specs.Plan.{Plan}
use Rattle.run_record.specs.Objects.{is_map, is_atomic, places_from}
use Rattle.sync_model.specs.EndsByName.{AreInNameOrder}
use Rattle.thread_runner.specs.Sites.{cost_of_calls}

module _ {N : Type 0} (own : N → Option Holding) where
  -- no caller has made a call
  abbrev pub HaveMadeNone : List (Caller N) → Type 0
  HaveMadeNone callers = (i : ℕ) (caller : Caller N) → slice_get callers i ≡ Some caller → items_of (own caller.note) ≡ []

  -- each caller has spare entries for its worker's script
  abbrev pub HaveSpare : Plan → List (Caller N) → Type 0
  HaveSpare plan callers = (i : ℕ) (caller : Caller N) → slice_get callers i ≡ Some caller → ForSome (own caller.note) (λ holding. cost_of_calls (get_or plan.scripts i []) ≤ holding.spare)

-- the places of the workload's atomics and maps, all its keys in byte order of their names, and room for what a report shows of them
pub record IsEndsPlan (plan : Plan) (atomics maps order : List ℕ) (ends : List End) (room : ℕ) : Type 0 where
  pub atomics_are : atomics ≡ places_from 0 is_atomic plan.objects
  pub maps_are : maps ≡ places_from 0 is_map plan.objects
  pub in_order : AreInNameOrder (key_name (keys_in plan.scripts)) (key_number (keys_in plan.scripts)) order
  pub all_keys : (key : ℕ) → key < length (keys_in plan.scripts) → Contains order key
  pub none : ends ≡ []
  pub enough : length atomics + length maps * length order ≤ room
