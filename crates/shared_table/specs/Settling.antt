-- All callers' seats are brought together, and dealt out again.
use Rattle.std.specs.Prelude.{◌≡◌, ℕ, ◌<◌, true, List, [], ◌∷◌, drop, Some, length, slice_get}
use Rattle.atomic_table.specs.Table.{Me}
use Rattle.sync_model.specs.declared.caller.Caller.{Caller}
use Rattle.sync_model.specs.Front.{AtLeast}
use Rattle.shared_table.specs.declared.note.SharedNote.{SharedNote}
use Rattle.shared_table.specs.declared.table.SharedTable.{SharedTable}
use Rattle.table_rule.specs.declared.view.Own.{Own}
use Rattle.table_rule.specs.declared.view.View.{View}
use Rattle.shared_table.specs.Notes.{counts_by, seen_by}
use Rattle.table_words.specs.Seats.{begin_of, IsSeatOf}
use Rattle.table_rule.specs.Views.{next_in, spare_in, dealt, IsIdle}

-- it is the same caller's note, with the same room and the same number, whatever its seat knows
pub record IsSameCaller (old new : SharedNote) : Type 0 where
  pub number : new.number ≡ old.number
  pub next : new.next ≡ old.next
  pub spare : new.spare ≡ old.spare
  pub time : new.stamp.time ≡ old.stamp.time

pub record AreSameCallers (old new : List (Caller SharedNote)) : Type 0 where
  pub count : length new ≡ length old
  pub each : (i : ℕ) (before after : Caller SharedNote) → slice_get old i ≡ Some before → slice_get new i ≡ Some after → IsSameCaller before.note after.note

-- one seat knows all that the first n of these callers knew, and stands for them
pub record Gathered (table : SharedTable) (callers : List (Caller SharedNote)) (n : ℕ) (me : Me (Unit {0}) View) : Type 0 where
  pub empty : me.1 ≡ []
  pub live : me.0.live ≡ true
  pub begin : me.0.begin ≡ begin_of table.words
  pub idle : IsIdle me.0
  pub number : me.0.number ≡ 0
  pub count : length me.0.owns ≡ n
  pub owns : (i : ℕ) (caller : Caller SharedNote) → i < n → slice_get callers i ≡ Some caller → (own : Own) × (slice_get me.0.owns i ≡ Some own) × (caller.note.seat.me.0.owns ≡ own ∷ [])
  pub heard : (i : ℕ) (caller : Caller SharedNote) → i < n → slice_get callers i ≡ Some caller → (j : ℕ) × (slice_get me.0.heard j ≡ Some (seen_by caller.note))
  pub fronts : (i : ℕ) (caller : Caller SharedNote) → i < n → slice_get callers i ≡ Some caller → AtLeast me.0.front (counts_by caller.note)

-- the view of one seat for all callers, when it has let the first n go
abbrev pub after_first : View → ℕ → View
after_first all n = record all { number = n; owns = drop n all.owns }

-- a caller's note may take back what the seat for all callers has of it
pub record MayTake (all : View) (i : ℕ) (note : SharedNote) : Type 0 where
  pub number : note.number ≡ i
  pub next : next_in note.next (drop i all.owns) ≡ note.next
  pub spare : spare_in note.spare (drop i all.owns) ≡ note.spare

-- a caller's note has what the seat for all callers had of it
pub record IsBack (table : SharedTable) (all : View) (i : ℕ) (note : SharedNote) : Type 0 where
  pub table_is : IsSeatOf table.words note.seat
  pub me : note.seat.me ≡ (dealt (after_first all i), [])
