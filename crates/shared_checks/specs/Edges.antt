-- What the edge law asks of the entries of a journal.
use Rattle.std.specs.Prelude.{◌≡◌, ℕ, Bool, List, length, Some, slice_get, slice_index}
use Rattle.sync_model.specs.declared.journal.Deed.TheVariants.{Event}
use Rattle.sync_model.specs.declared.journal.Entry.{Entry}
use Rattle.sync_model.specs.Journal.{is_such}
use Rattle.shared_checks.specs.declared.edges.Note.{Note}

-- the note as an entry of a journal: its event says whether it releases, and its answer whether it acquires
abbrev pub entry_of : Note → Entry Bool Bool
entry_of note = record { caller = 0; deed = Event note.frees note.takes; front = note.front.of; knew = 0; time = 0 }

abbrev pub is_freeing : Bool → Bool → Bool
is_freeing frees takes = frees

abbrev pub is_taking : Bool → Bool → Bool
is_taking frees takes = takes

-- notes of the entries of a journal: whether each releases, whether it acquires, and what it knew
pub record AreNotes {E R : Type 0} (frees takes : E → R → Bool) (journal : List (Entry E R)) (notes : List Note) : Type 0 where
  pub count : length notes ≡ length journal
  pub frees_alike : (i : ℕ) (x : Entry E R) (note : Note) → slice_get journal i ≡ Some x → slice_get notes i ≡ Some note → is_such frees x.deed ≡ note.frees
  pub takes_alike : (i : ℕ) (x : Entry E R) (note : Note) → slice_get journal i ≡ Some x → slice_get notes i ≡ Some note → is_such takes x.deed ≡ note.takes
  pub knows_alike : (i : ℕ) (x : Entry E R) (note : Note) → slice_get journal i ≡ Some x → slice_get notes i ≡ Some note → (c : ℕ) → slice_index x.front c ≡ slice_index note.front.of c
