-- The shared history in the one order of all events. Each call on a map or an atomic has a number of that order, and so has each event of every other object.
use Rattle.std.specs.Prelude.{◌≡◌, ℕ, ◌<◌, ◌≤◌, true, false, List, Some, length, slice_get}
use Rattle.sync_model.specs.declared.item.SharedEntry.{SharedEntry}
use Rattle.sync_model.specs.declared.item.Item.{Item}

-- a call has this number among the entries of a history, of which these are the numbers: it is past the entries before its place; an entry has that of its place, and any other call comes before the entries from its place on
pub record IsAmong (entry_times : List ℕ) (x : Item) (time : ℕ) : Type 0 where
  pub past : (n earlier : ℕ) → n < x.place → slice_get entry_times n ≡ Some earlier → earlier < time
  pub is : x.entry ≡ true → slice_get entry_times x.place ≡ Some time
  pub before : x.entry ≡ false → (n later : ℕ) → x.place ≤ n → slice_get entry_times n ≡ Some later → time < later

-- the history's entries have these numbers, and each caller's calls these, in its own order: the numbers rise along the history, and each call has its place in it by its number
pub record InOrder (history : List SharedEntry) (calls : ℕ → List Item) (entry_times : List ℕ) (times : ℕ → List ℕ) : Type 0 where
  pub entries : length entry_times ≡ length history
  pub rise : (n i earlier later : ℕ) → n < i → slice_get entry_times n ≡ Some earlier → slice_get entry_times i ≡ Some later → earlier < later
  pub all : (c : ℕ) → length (times c) ≡ length (calls c)
  pub among : (c j time : ℕ) (x : Item) → slice_get (calls c) j ≡ Some x → slice_get (times c) j ≡ Some time → IsAmong entry_times x time
