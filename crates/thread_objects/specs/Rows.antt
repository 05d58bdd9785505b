-- The passes of all workers to all objects of a run, and the journals of the objects.
use Rattle.std.specs.Prelude.{◌≡◌, ℕ, ◌+◌, ◌<◌, true, List, [], ◌∷◌, ◌++◌, length, get_or, Some, slice_get}
use Rattle.sync_model.specs.Journal.{TimesRise}
use Rattle.workload.specs.declared.object.ObjectKind.TheVariants.{Pool}
use Rattle.workload.specs.declared.object.ObjectLine.{ObjectLine}
use Rattle.workload.specs.Plan.{Plan, has_dormant}
use Rattle.workload.specs.Puts.{puts_at}
use Rattle.run_record.specs.Calls.{IsJournalOf}
use Rattle.run_record.specs.Journals.{IsStops}
use Rattle.run_record.specs.Objects.{first_part, object_count, starts_number}
use Rattle.run_record.specs.PoolKind.{IsPartJournal}
use Rattle.run_record.specs.Record.{ObjectEntry, stop, object_number}
use Rattle.run_record.specs.StartsKind.{IsStartsJournal}
use Rattle.thread_objects.specs.declared.column.AnyColumn.{AnyColumn}
use Rattle.thread_objects.specs.declared.column.AnyColumn.TheVariants as columns
use Rattle.thread_objects.specs.declared.object.AnyObject.{AnyObject}
use Rattle.thread_objects.specs.declared.pass.AnyPass.{AnyPass}
use Rattle.thread_objects.specs.declared.pass.AnyPass.TheVariants as passes
use Rattle.thread_objects.specs.ByKind.{passes_in}
use Rattle.thread_objects.specs.Columns.{IsColumnOf}
use Rattle.thread_objects.specs.Passes.{owns_of}

-- one column for each object, by its number, each with the passes of so many workers, the first ones
pub record AreColumns {N H : Type 0} (at : H → N → Type 0) (home : H) (workers count : ℕ) (objects : List (AnyObject N H)) (all : List (AnyColumn N)) : Type 0 where
  pub sized : length all ≡ length objects
  pub each : (number : ℕ) (object : AnyObject N H) (column : AnyColumn N) → slice_get objects number ≡ Some object → slice_get all number ≡ Some column → IsColumnOf at home workers count object column

-- the entries that a worker made on an object, by the pass that is in the object's column; none, where no such pass is there
abbrev pub made_on : {N : Type 0} → List (AnyColumn N) → (object worker : ℕ) → List ObjectEntry
made_on all object worker = owns_of (passes_in (get_or all object (columns.None 0))) worker

-- the journals of a run's objects: one of Stop, one of each object of the workload, in order of declaration, one of each part of its pools, and one of Starts where some workers wait to be started. In each the numbers of the entries rise
pub record AreJournals (plan : Plan) (journals : List (List ObjectEntry)) : Type 0 where
  pub count : length journals ≡ object_count plan
  pub stops : IsStops (get_or journals stop [])
  pub each : (place : ℕ) (object : ObjectLine) → slice_get plan.objects place ≡ Some object → IsJournalOf plan place object.kind (get_or journals (object_number place) [])
  pub parts : (place part : ℕ) (object : ObjectLine) → slice_get plan.objects place ≡ Some object → object.kind ≡ Pool → part < plan.workers → IsPartJournal (puts_at place plan.scripts) (get_or journals (first_part plan place + part) [])
  pub starts : has_dormant plan ≡ true → IsStartsJournal plan.dormant (get_or journals (starts_number plan) [])
  pub times : (object : ℕ) → TimesRise (get_or journals object [])

-- from each of these columns one pass was taken, the last one: these, in order of the objects. What is left is in those
abbrev pub AreDealt : {N : Type 0} → List (AnyColumn N) → List (AnyColumn N) → List (AnyPass N) → Type 0
AreDealt full rest row = (number : ℕ) → number < length row → passes_in (get_or full number (columns.None 0)) ≡ passes_in (get_or rest number (columns.None 0)) ++ get_or row number passes.None ∷ []
