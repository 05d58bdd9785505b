-- The passes of all workers to all objects, by column and by row.
use Rattle.std.specs.Prelude.{◌≡◌, ℕ, ◌+◌, ◌<◌, ◌≤◌, true, List, [], length, Option, Some, slice_get}
use Rattle.sync_model.specs.declared.caller.Caller.{Caller}
use Rattle.sync_model.specs.Note.{Holding, SameHome}
use Rattle.workload.specs.declared.object.ObjectKind.TheVariants.{Pool}
use Rattle.workload.specs.declared.object.ObjectLine.{ObjectLine}
use Rattle.workload.specs.Plan.{Plan, has_dormant}
use Rattle.run_record.specs.Objects.{first_part, starts_number}
use Rattle.run_record.specs.Record.{stop, object_number}
use Rattle.thread_objects.specs.declared.column.AnyColumn.{AnyColumn}
use Rattle.thread_objects.specs.declared.object.AnyObject.{AnyObject}
use Rattle.thread_objects.specs.declared.pass.AnyPass.{AnyPass}
use Rattle.thread_objects.specs.AsDeclared.{IsStopOf, IsDeclared, IsPartOf, IsStartsOf}
use Rattle.thread_objects.specs.ByKind.{passes_in}
use Rattle.thread_objects.specs.Columns.{IsColumnOf}
use Rattle.thread_objects.specs.Desks.{AreSeats}
use Rattle.thread_objects.specs.Passes.{owns_of}
use Rattle.thread_objects.specs.Rows.{made_on}

-- nobody whose number isn't below this one made an entry, by the passes that are in these columns
abbrev pub MadeNothingFrom : {N : Type 0} → ℕ → List (AnyColumn N) → Type 0
MadeNothingFrom from all = (object worker : ℕ) → from ≤ worker → made_on all object worker ≡ []

module _ {N H : Type 0} (at : H → N → Type 0) (home : H) (workers : ℕ) (plan : Plan) where
  -- The first objects of a run, so many, with the passes of all workers, none of whom made an entry: Stop, the objects that the workload declares, the parts of its pools, and Starts where some workers wait to be started
  pub record AreMade (count : ℕ) (objects : List (AnyObject N H)) (all : List (AnyColumn N)) : Type 0 where
    pub objects_count : length objects ≡ count
    pub columns_count : length all ≡ count
    pub stops : (object : AnyObject N H) → slice_get objects stop ≡ Some object → IsStopOf at home workers object
    pub declared : (place : ℕ) (line : ObjectLine) (object : AnyObject N H) → slice_get plan.objects place ≡ Some line → slice_get objects (object_number place) ≡ Some object → IsDeclared at home plan place line.kind object
    pub parts : (place part : ℕ) (line : ObjectLine) (object : AnyObject N H) → slice_get plan.objects place ≡ Some line → line.kind ≡ Pool → part < plan.workers → slice_get objects (first_part plan place + part) ≡ Some object → IsPartOf at home plan place object
    pub starts : (object : AnyObject N H) → has_dormant plan ≡ true → slice_get objects (starts_number plan) ≡ Some object → IsStartsOf at home plan object
    pub columns : (number : ℕ) (object : AnyObject N H) (column : AnyColumn N) → slice_get objects number ≡ Some object → slice_get all number ≡ Some column → IsColumnOf at home workers workers object column
    pub nothing : (number : ℕ) (column : AnyColumn N) (worker : ℕ) → slice_get all number ≡ Some column → owns_of (passes_in column) worker ≡ []

-- the worker's passes to all objects, on which it made nothing
pub record IsRow {N H : Type 0} (at : H → N → Type 0) (home : H) (workers worker : ℕ) (objects : List (AnyObject N H)) (row : List (AnyPass N)) : Type 0 where
  pub seats : AreSeats at home workers worker objects row
  pub none : (object : ℕ) → owns_of row object ≡ []

-- the rows of all workers, in order of number
pub record AreRows {N H : Type 0} (at : H → N → Type 0) (home : H) (workers : ℕ) (objects : List (AnyObject N H)) (rows : List (List (AnyPass N))) : Type 0 where
  pub count : length rows ≡ workers
  pub each : (worker : ℕ) (row : List (AnyPass N)) → slice_get rows worker ≡ Some row → IsRow at home workers worker objects row

-- the same callers: each note is of the homes of which it was one, and its caller's still
pub record SameNotes {N H : Type 0} (at : H → N → Type 0) (own : N → Option Holding) (old new : List (Caller N)) : Type 0 where
  pub count : length new ≡ length old
  pub same : (i : ℕ) (before after : Caller N) → slice_get old i ≡ Some before → slice_get new i ≡ Some after → SameHome at before.note after.note × (own after.note ≡ own before.note)
