-- A caller's note: what contracts see of it.
use Rattle.std.specs.Prelude.{◌≡◌, ℕ, ◌≤◌, true, List, [], Option, Some, length, slice_get, slice_index}
use Rattle.sync_types.specs.declared.atomic_object.AtomicCall.{AtomicCall}
use Rattle.sync_types.specs.declared.atomic_object.AtomicKind.{AtomicKind}
use Rattle.sync_model.specs.declared.item.SharedCall.TheVariants.{Atomic}
use Rattle.sync_model.specs.declared.item.SharedEntry.{SharedEntry}
use Rattle.sync_model.specs.declared.item.Item.{Item}
use Rattle.sync_model.specs.declared.item.SharedReply.TheVariants as replies
use Rattle.sync_model.specs.Front.{Front}
use Rattle.sync_model.specs.Note.{Holding, IsCounted}
use Rattle.sync_types.specs.SequentialAtomic.{atomic_reply}
use Rattle.sync_model.specs.SharedCalls.{Lawful}
use Rattle.sync_model.specs.Shared.{Called, state_of}
use Rattle.sync_types.specs.WordLayout.{is_word, number_in}
use Rattle.shared_table.specs.declared.note.SharedNote.{SharedNote}
use Rattle.shared_table.specs.declared.table.SharedTable.{SharedTable}
use Rattle.table_rule.specs.declared.view.Own.{Own}
use Rattle.table_rule.specs.Operations.{IsOperation}
use Rattle.shared_table.specs.Tables.{kinds_of, caller_count, first_of}
use Rattle.table_words.specs.Seats.{begin_of, IsSeatOf}
use Rattle.table_rule.specs.Values.{AreInRange}
use Rattle.table_rule.specs.Views.{held_in, IsIdle}

-- for each caller the number of its shared calls that are known
abbrev pub counts_by : SharedNote → List ℕ
counts_by note = note.seat.me.0.front

-- the counts, and the number of the last event
abbrev pub front_by : SharedNote → Front
front_by note = record { counts = counts_by note; time = note.stamp.time }

-- the holder, with its calls; a copy has none
abbrev pub own_by : SharedNote → Option Holding
own_by note = held_in note.seat.me.0.number note.seat.me.0.owns

-- how much of the shared history the note's holder has seen
abbrev pub seen_by : SharedNote → List SharedEntry
seen_by note = note.seat.me.0.seen

-- It is the note of a caller of this table, or a copy of one, which is nobody's. Between two calls it stands nowhere, holds no lock, and is outside of all gates.
pub record IsNoteOf (table : SharedTable) (note : SharedNote) : Type 0 where
  pub table_is : IsSeatOf table.words note.seat
  pub empty : note.seat.me.1 ≡ []
  pub live : note.seat.me.0.live ≡ true
  pub begin : note.seat.me.0.begin ≡ begin_of table.words
  pub idle : IsIdle note.seat.me.0
  pub few : length note.seat.me.0.owns ≤ 1
  pub unwritten : (i : ℕ) (own : Own) → slice_get note.seat.me.0.owns i ≡ Some own → own.draft ≡ []
  pub counted : IsCounted (own_by note) (counts_by note)

-- an operation that makes this of an atomic's word is the call
pub record IsOperationOn (table : SharedTable) (atomic : ℕ) (call : AtomicCall) (f : ℕ → ℕ) : Type 0 where
  pub kind : AtomicKind
  pub at : slice_get (kinds_of table) atomic ≡ Some kind
  pub is : IsOperation kind call f

-- an operation on an atomic's word was the call of a note's holder, and answered by the number that it found. What is found is the word before the operation; of a store, whose reply doesn't tell, the word stored
abbrev pub Operated : SharedTable → ℕ → AtomicCall → ℕ → SharedNote → SharedNote → Type 0
Operated table atomic call found old new = (kind : AtomicKind) → slice_get (kinds_of table) atomic ≡ Some kind
    → (is_word kind found ≡ true) × Called (first_of table) (Atomic atomic call) (replies.Atomic (atomic_reply call (number_in kind found))) 0 (state_of own_by front_by seen_by old) (state_of own_by front_by seen_by new)

-- What the note's holder has seen is lawful with some lists of calls, of the table's callers alone. The holder's own list is among them, and the front counts no call that wasn't made
pub record IsLawfulFor (table : SharedTable) (note : SharedNote) : Type 0 where
  pub calls : ℕ → List Item
  pub lawful : Lawful (first_of table) (seen_by note) calls
  pub none_else : (c : ℕ) → caller_count table ≤ c → calls c ≡ []
  pub mine : (holding : Holding) → own_by note ≡ Some holding → calls holding.number ≡ holding.items
  pub made : (c : ℕ) → slice_index (counts_by note) c ≤ length (calls c)
  pub values : AreInRange (seen_by note)
