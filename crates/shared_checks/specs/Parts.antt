-- What the law of a shared history says, in parts: of the history, of the cursors' begins, and of what the cursors show. The part that speaks of fronts is `LawfulFronts`.
use Rattle.std.specs.Prelude.{◌≡◌, ℕ, ◌<◌, ◌≤◌, true, List, length, Option, Some, slice_get}
use Rattle.sync_model.specs.declared.item.SharedCall.TheVariants.{Begin, Next}
use Rattle.sync_model.specs.declared.item.SharedEntry.{SharedEntry}
use Rattle.sync_model.specs.declared.item.Item.{Item}
use Rattle.sync_model.specs.SharedHistory.{Contents, value_at, contents_at, IsReply, is_entry, IsLegal, entry_of}
use Rattle.sync_model.specs.SharedCalls.{KeepsRange}
use Rattle.shared_checks.specs.Fronts.{LawfulFronts}

-- a call at its place: the place is a length of the history, and the call is answered, and is an entry, as by the objects for one thread there
pub record IsPlaced (start : Contents) (history : List SharedEntry) (x : Item) : Type 0 where
  pub place : x.place ≤ length history
  pub reply : IsReply x.call x.reply (contents_at start history x.place)
  pub entry : x.entry ≡ is_entry x.call (contents_at start history x.place)

-- each call at its place
abbrev pub ArePlaced : Contents → List SharedEntry → (ℕ → List Item) → Type 0
ArePlaced start history calls = (c j : ℕ) (x : Item) → slice_get (calls c) j ≡ Some x → IsPlaced start history x

-- the calls that are entries are the history's, each at its place and once. In which order a caller's list has them is the front law's
pub record AreEntries (history : List SharedEntry) (calls : ℕ → List Item) : Type 0 where
  pub entered : (c j : ℕ) (x : Item) → slice_get (calls c) j ≡ Some x → x.entry ≡ true → slice_get history x.place ≡ Some (entry_of c x)
  pub called : (n : ℕ) (entry : SharedEntry) → slice_get history n ≡ Some entry → (j : ℕ) × (x : Item) × (slice_get (calls entry.caller) j ≡ Some x) × (x.entry ≡ true) × (x.place ≡ n)
  pub once : (c i j : ℕ) (x y : Item) → slice_get (calls c) i ≡ Some x → slice_get (calls c) j ≡ Some y → x.entry ≡ true → y.entry ≡ true → x.place ≡ y.place → i ≡ j

-- the history is legal, and it is that of these calls
pub record LawfulHistory (start : Contents) (history : List SharedEntry) (calls : ℕ → List Item) : Type 0 where
  pub legal : IsLegal start history
  pub entries : AreEntries history calls
  pub placed : ArePlaced start history calls

-- call number j, where it is a step of a cursor, follows the call that began the cursor
pub record HasBegun (items : List Item) (j : ℕ) (x : Item) : Type 0 where
  pub begun : (b : ℕ) → x.call ≡ Next b → (y : Item) × (m : ℕ) × (b < j) × (slice_get items b ≡ Some y) × (y.call ≡ Begin m)

-- each step of a cursor follows the call that began the cursor
abbrev pub LawfulBegins : (ℕ → List Item) → Type 0
LawfulBegins calls = (c j : ℕ) (x : Item) → slice_get (calls c) j ≡ Some x → HasBegun (calls c) j x

-- the key of the map had this value, or none, at a length of the history between two
abbrev pub StoodBetween : Contents → List SharedEntry → ℕ → ℕ → ℕ → ℕ → Option ℕ → Type 0
StoodBetween start history from to m key value = (n : ℕ) × (from ≤ n) × (n ≤ to) × (value_at (contents_at start history n) m key ≡ value)

-- each cursor keeps the Range law
abbrev pub LawfulRanges : Contents → List SharedEntry → (ℕ → List Item) → Type 0
LawfulRanges start history calls = (c b m : ℕ) (x : Item) → slice_get (calls c) b ≡ Some x → x.call ≡ Begin m → KeepsRange start history calls c b m x.front

-- all of them
pub record AllParts (start : Contents) (history : List SharedEntry) (calls : ℕ → List Item) : Type 0 where
  pub history_part : LawfulHistory start history calls
  pub fronts_part : LawfulFronts calls
  pub begins_part : LawfulBegins calls
  pub ranges_part : LawfulRanges start history calls
