-- A caller's note: what contracts see of it.
use Rattle.std.specs.Prelude.{◌≡◌, ◌≢◌, ℕ, ◌-◌, ◌^◌, List, [], Option, Some, None}
use Rattle.sync_model.specs.declared.item.SharedEntry.{SharedEntry}
use Rattle.sync_model.specs.Front.{Front}
use Rattle.sync_model.specs.Note.{Holding}
use Rattle.sync_model.specs.Journal.{by}
use Rattle.ruled_object.specs.Notes.{held_by, IsNoteOf}
use Rattle.ruled_object.specs.Passes.{callers_of, number_of, seen_by}
use Rattle.shared_plain.specs.declared.mark.Mark.{Mark}
use Rattle.shared_plain.specs.declared.plain.Plain.{Plain}
use Rattle.shared_plain.specs.PlainHistory.{Step, calls_counted, front_of, history_of, items_by, times_by}
use Rattle.shared_plain.specs.Walks.{AreInOrder}

-- for each caller the number of its shared calls that are known
abbrev pub counts_by : Mark → List ℕ
counts_by mark = front_of mark.callers (seen_by mark.pass)

-- the counts, and the number of the last event
abbrev pub front_by : Mark → Front
front_by mark = record { counts = counts_by mark; time = mark.stamp.time }

-- the holder, with its calls, of a pass that holds entries
abbrev pub holding : Mark → Option (List Step) → Option Holding
holding mark None = None
holding mark (Some own) = Some (record { number = number_of mark.pass; items = items_by mark.callers (number_of mark.pass) (seen_by mark.pass); times = times_by (number_of mark.pass) (seen_by mark.pass); spare = mark.spare })

abbrev pub own_by : Mark → Option Holding
own_by mark = holding mark (held_by mark.pass)

-- what a caller's note keeps of the caller's own calls, of which these are in the pass
pub record KeepsOwn (mark : Mark) (own : List Step) : Type 0 where
  -- a caller has seen all that it did
  pub own_is : own ≡ by (number_of mark.pass) (seen_by mark.pass)
  -- and knew it each time, and where its cursors stood
  pub order : AreInOrder mark.callers (number_of mark.pass) [] (seen_by mark.pass)
  -- so many they are, unless the count stands at its last value
  pub done : mark.done ≢ 2 ^ 64 - 1 → mark.done ≡ calls_counted (number_of mark.pass) (seen_by mark.pass)

-- it is the note of a caller of these maps and atomics, or a copy of one, which is nobody's
pub record IsMarkOf (plain : Plain) (mark : Mark) : Type 0 where
  pub pass : IsNoteOf plain.object mark.pass
  pub callers : mark.callers ≡ callers_of plain.object
  pub keeps : (own : List Step) → held_by mark.pass ≡ Some own → KeepsOwn mark own

-- how much of the shared history the note's holder has seen
abbrev pub seen_of : Mark → List SharedEntry
seen_of mark = history_of (seen_by mark.pass)
