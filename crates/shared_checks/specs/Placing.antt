-- Objects that a history is played on, and the calls on them.
use Rattle.std.specs.Prelude.{◌≡◌, ◌≢◌, ◌⊎◌, ℕ, ◌+◌, ◌<◌, true, false, List, [], ◌∷◌, ◌++◌, length, Some, slice_get}
use Rattle.std.specs.List.{Contains}
use Rattle.sync_types.specs.SequentialAtomic.{kind_of, is_atomic_call}
use Rattle.sync_model.specs.declared.item.SharedCall.{SharedCall}
use Rattle.sync_model.specs.declared.item.SharedCall.TheVariants.{Map, Begin, Next, Atomic}
use Rattle.sync_model.specs.SharedHistory.{Contents, number_at, contents_at, IsReply, is_entry, entry_of}
use Rattle.sync_model.specs.declared.item.SharedEntry.{SharedEntry}
use Rattle.sync_model.specs.declared.item.Item.{Item}
use Rattle.shared_checks.specs.declared.placed.Placed.{Placed}
use Rattle.shared_checks.specs.Calls.{calls_in}
use Rattle.shared_checks.specs.declared.objects.Objects.{Objects}

-- what objects contain
abbrev pub contents_of : Objects → Contents
contents_of objects = record { maps = objects.maps.items; numbers = objects.numbers.items }

-- there is the map that a call is on, or the atomic, which has the call
abbrev pub IsOn : Contents → SharedCall → Type 0
IsOn contents (Map m call) = m < length contents.maps
IsOn contents (Begin m) = m < length contents.maps
IsOn contents (Next begin) = Unit {0}
IsOn contents (Atomic a call) = (a < length contents.numbers) × (is_atomic_call (kind_of (number_at contents a)) call ≡ true)

-- there is what each call is on
abbrev pub AreOn : Contents → (ℕ → List Item) → Type 0
AreOn contents calls = (c j : ℕ) (x : Item) → slice_get (calls c) j ≡ Some x → IsOn contents x.call

-- a call is answered, and is an entry, as by objects that contain this
abbrev pub Stands : Contents → Item → Type 0
Stands contents x = IsReply x.call x.reply contents × (x.entry ≡ is_entry x.call contents)

-- one of the entries is no entry where those before it were made
abbrev pub IsStopped : Contents → List SharedEntry → Type 0
IsStopped contents entries = (k : ℕ) × (entry : SharedEntry) × (slice_get entries k ≡ Some entry) × (is_entry entry.call (contents_at contents entries k) ≡ false)

-- a caller's calls from number k on
abbrev pub placed_from : ℕ → ℕ → List Item → List Placed
placed_from c k [] = []
placed_from c k (x ∷ items) = record { caller = c; index = k; place = x.place } ∷ placed_from c (k + 1) items

-- the calls of all lists, of which the first is that of caller c
abbrev pub all_from : ℕ → List (List Item) → List Placed
all_from c [] = []
all_from c (items ∷ lists) = placed_from c 0 items ++ all_from (c + 1) lists

-- this is a call in its caller's list
abbrev pub IsCallOf : List (List Item) → Placed → Type 0
IsCallOf lists p = (x : Item) × (slice_get (calls_in lists p.caller) p.index ≡ Some x) × (p.place ≡ x.place)

-- these are the calls of the lists
pub record AreAllOf (lists : List (List Item)) (placed : List Placed) : Type 0 where
  pub call : (p : Placed) → Contains placed p → IsCallOf lists p
  pub all : (p : Placed) → IsCallOf lists p → Contains placed p

-- the call is marked as an entry
abbrev pub IsMarked : List (List Item) → Placed → Type 0
IsMarked lists p = (x : Item) × (slice_get (calls_in lists p.caller) p.index ≡ Some x) × (x.place ≡ p.place) × (x.entry ≡ true)

-- these are the marked calls, each at its place
pub record AreOwners (lists : List (List Item)) (owners : List Placed) : Type 0 where
  pub marked : (n : ℕ) (p : Placed) → slice_get owners n ≡ Some p → (p.place ≡ n) × IsMarked lists p
  pub all : (p : Placed) → IsMarked lists p → slice_get owners p.place ≡ Some p

-- a call is taken in at its place, behind all others, or stands there already
abbrev pub Takes : Placed → List Placed → List Placed → Type 0
Takes p old new = ((new ≡ old ++ p ∷ []) × (p.place ≡ length old)) ⊎ ((new ≡ old) × (slice_get old p.place ≡ Some p))

-- the next call is taken in where it is marked, and passed over where it isn't
abbrev pub GoesOn : List (List Item) → Placed → List Placed → List Placed → Type 0
GoesOn lists p old new = (IsMarked lists p × Takes p old new) ⊎ ((IsMarked lists p → ⊥) × (new ≡ old))

-- a marked call has another place than the next, and doesn't stand there yet
pub record MayNotFollow (lists : List (List Item)) (p : Placed) (owners : List Placed) : Type 0 where
  pub marked : IsMarked lists p
  pub not_next : p.place ≢ length owners
  pub not_there : slice_get owners p.place ≢ Some p

-- the entry that a marked call is
abbrev pub IsEntryOf : List (List Item) → Placed → SharedEntry → Type 0
IsEntryOf lists p entry = (x : Item) × (slice_get (calls_in lists p.caller) p.index ≡ Some x) × (entry ≡ entry_of p.caller x)
