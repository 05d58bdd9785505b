-- What the reply of a range has to do with the map.
use Rattle.std.specs.Prelude.{◌≡◌, ℕ, ◌^◌, ◌<◌, ◌≤◌, ◌==◌, List, Some, None, Contains, count_by, slice_get}
use Rattle.sync_model.specs.declared.item.Item.{Item}
use Rattle.sync_model.specs.SharedCalls.{WasSo}
use Rattle.workload.specs.Plan.{Plan}
use Rattle.run_record.specs.declared.made.Made.{Made}
use Rattle.run_record.specs.declared.made.Made.TheVariants.{Shared}
use Rattle.run_record.specs.Objects.{contents_of}
use Rattle.run_record.specs.Record.{Record, calls_of}

-- A range over a map, which made these items, shows just what was there meanwhile: after all that its worker knew when it began, and up to its last step.
pub record ShowsWhatWasThere (plan : Plan) (r : Record) (m : ℕ) (items : List Made) (pairs : List (ℕ × ℕ)) : Type 0 where
  pub begin : Item
  pub last : Item
  pub i : ℕ
  pub begins : slice_get items 0 ≡ Some (Shared begin)
  pub ends : slice_get items i ≡ Some (Shared last)
  -- a key that is shown had its value at some moment
  pub shown : (key value : ℕ) → Contains pairs (key, value) → WasSo (contents_of plan) r.history (calls_of r) begin.front last.place m key (Some value)
  -- one that isn't shown was absent at some moment, so each key that stood all the while is shown
  pub missed : (key : ℕ) → key < 2 ^ 32 → ((value : ℕ) → Contains pairs (key, value) → ⊥) → WasSo (contents_of plan) r.history (calls_of r) begin.front last.place m key None
  -- and none is shown twice
  pub once : (key : ℕ) → count_by (λ pair. pair.0 == key) pairs ≤ 1
