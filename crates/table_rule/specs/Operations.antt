-- Operations on the words of atomics.
use Rattle.std.specs.Prelude.{◌≡◌, ℕ, true, List, [], ◌∷◌, ◌++◌, length, Some, slice_get}
use Rattle.atomic_table.specs.Table.{Me}
use Rattle.sync_types.specs.declared.atomic_object.AtomicCall.{AtomicCall}
use Rattle.sync_types.specs.declared.atomic_object.AtomicKind.{AtomicKind}
use Rattle.sync_model.specs.declared.item.Item.{Item}
use Rattle.sync_model.specs.declared.item.SharedCall.{SharedCall}
use Rattle.sync_model.specs.declared.item.SharedCall.TheVariants.{Atomic}
use Rattle.sync_model.specs.declared.item.SharedEntry.{SharedEntry}
use Rattle.sync_model.specs.declared.item.SharedReply.{SharedReply}
use Rattle.sync_model.specs.declared.item.SharedReply.TheVariants as replies
use Rattle.sync_types.specs.SequentialAtomic.{atomic_reply, atomic_after}
use Rattle.sync_model.specs.Note.{Holding}
use Rattle.sync_model.specs.Shared.{CallerState, Called}
use Rattle.sync_model.specs.SharedCalls.{bound}
use Rattle.sync_types.specs.WordLayout.{is_word, number_in}
use Rattle.table_rule.specs.declared.view.View.{View}
use Rattle.table_rule.specs.Shape.{start_of}
use Rattle.table_rule.specs.Views.{at_time, with_item, called_view, view_state, Looks}

-- what an operation makes of a word is what the call makes of the number that the word stands for
pub record IsOperation (kind : AtomicKind) (call : AtomicCall) (f : ℕ → ℕ) : Type 0 where
  pub keeps : (word : ℕ) → is_word kind word ≡ true → is_word kind (f word) ≡ true
  pub leads : (word : ℕ) → is_word kind word ≡ true → number_in kind (f word) ≡ atomic_after call (number_in kind word)

-- a seat's step placed a call of its first caller, who has its room as before. The seat has then seen the whole history
pub record PlacesCall (call : SharedCall) (reply : SharedReply) (v w : View) : Type 0 where
  pub item : Item
  pub time : ℕ
  pub seen : List SharedEntry
  pub is : w ≡ called_view v (with_item v.owns item time) seen time
  pub called : Called (start_of v.begin) call reply 0 (view_state v) (view_state w)
  pub looks : Looks w w

-- a caller's last call lies at the end of all that the caller has seen: an entry is the last one there, and any other call lies behind all of them
pub record IsAtEnd (state : CallerState) : Type 0 where
  pub holding : Holding
  pub own : state.own ≡ Some holding
  pub earlier : List Item
  pub item : Item
  pub items : holding.items ≡ earlier ++ item ∷ []
  pub last : bound item ≡ length state.seen

-- the step is a call on an atomic, which found this word, by a caller whose last event has this number. The call lies at the end of all that the seat has then seen
abbrev pub Operates : ℕ → AtomicCall → ℕ → Me (Unit {0}) View → ℕ → Me (Unit {0}) View → Type 0
Operates a call time before found after =
    (after.1 ≡ before.1) × ((kind : AtomicKind) → slice_get before.0.begin.kinds a ≡ Some kind
    → (is_word kind found ≡ true) × PlacesCall (Atomic a call) (replies.Atomic (atomic_reply call (number_in kind found))) (at_time before.0 time) after.0 × IsAtEnd (view_state after.0))
