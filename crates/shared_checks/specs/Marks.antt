-- Which calls on maps and atomics are entries of their history, where calls, replies and places are told and this isn't.
use Rattle.std.specs.Prelude.{◌≡◌, ℕ, ◌+◌, Bool, true, false, ◌&&◌, ◌==◌, List, [], ◌∷◌, ◌++◌, length, map, Some, slice_get, ◌⊎◌}
use Rattle.std.specs.Option.{option_map_or}
use Rattle.sync_model.specs.declared.item.Item.{Item}
use Rattle.sync_model.specs.declared.item.SharedEntry.{SharedEntry}
use Rattle.sync_model.specs.SharedHistory.{Contents, is_entry, entry_of}
use Rattle.shared_checks.specs.declared.placed.Placed.{Placed}
use Rattle.shared_checks.specs.Calls.{calls_in}
use Rattle.shared_checks.specs.Parts.{LawfulHistory}

-- the call as it is told: it isn't marked as an entry
abbrev pub unmarked : Item → Item
unmarked x = record { call = x.call; reply = x.reply; place = x.place; entry = false; front = x.front }

-- the same calls, but for their marks
abbrev pub AreSameCalls : List (List Item) → (ℕ → List Item) → Type 0
AreSameCalls lists calls = (c : ℕ) → map unmarked (calls c) ≡ map unmarked (calls_in lists c)

-- whatever marks the calls have, they have no lawful history
abbrev pub HaveNoHistory : Contents → List (List Item) → Type 0
HaveNoHistory start lists = (calls : ℕ → List Item) (history : List SharedEntry) → AreSameCalls lists calls → LawfulHistory start history calls → ⊥

-- The calls with marks, without which they have no lawful history: whatever marks they have a lawful history with, it is these
pub record AreMarked (start : Contents) (lists marked : List (List Item)) : Type 0 where
  pub count : length marked ≡ length lists
  pub same : AreSameCalls lists (calls_in marked)
  pub only : (calls : ℕ → List Item) (history : List SharedEntry) → AreSameCalls lists calls → LawfulHistory start history calls → (c : ℕ) → calls c ≡ calls_in marked c

-- whether the call of this caller and number is the entry at a place
abbrev pub owns : List Placed → (caller index place : ℕ) → Bool
owns owners caller index place = option_map_or (λ (p : Placed). (p.caller == caller) && (p.index == index)) (slice_get owners place) false

-- the call, marked so
abbrev pub mark : List Placed → (caller index : ℕ) → Item → Item
mark owners caller index x = record { call = x.call; reply = x.reply; place = x.place; entry = owns owners caller index x.place; front = x.front }

-- a caller's calls from this number on
abbrev pub marked_from : List Placed → (caller index : ℕ) → List Item → List Item
marked_from owners caller index [] = []
marked_from owners caller index (x ∷ items) = mark owners caller index x ∷ marked_from owners caller (index + 1) items

-- the calls of all callers from this one on
abbrev pub all_marked_from : List Placed → ℕ → List (List Item) → List (List Item)
all_marked_from owners caller [] = []
all_marked_from owners caller (items ∷ lists) = marked_from owners caller 0 items ∷ all_marked_from owners (caller + 1) lists

-- the entries found so far, and the calls that they are
pub record Found : Type 0 where
  pub owners : List Placed
  pub history : List SharedEntry

-- a call that is an entry is found at its place: it is the next one, or stands there already
abbrev pub Takes : Placed → Item → Found → Found → Type 0
Takes p x old new = ((p.place ≡ length old.owners) × (new.owners ≡ old.owners ++ p ∷ []) × (new.history ≡ old.history ++ entry_of p.caller x ∷ []))
    ⊎ ((slice_get old.owners p.place ≡ Some p) × (new ≡ old))

-- a call is looked at where the objects contain this: it is an entry there, and is found; or it is none
abbrev pub LooksAt : Contents → List (List Item) → Placed → Found → Found → Type 0
LooksAt contents lists p old new = (x : Item) × (slice_get (calls_in lists p.caller) p.index ≡ Some x)
    × (((is_entry x.call contents ≡ true) × Takes p x old new) ⊎ ((is_entry x.call contents ≡ false) × (new ≡ old)))

-- a call is an entry at a place where another one is
pub record Collides (contents : Contents) (lists : List (List Item)) (p : Placed) (owners : List Placed) : Type 0 where
  pub x : Item
  pub at : slice_get (calls_in lists p.caller) p.index ≡ Some x
  pub entry : is_entry x.call contents ≡ true
  pub not_last : p.place ≡ length owners → ⊥
  pub not_there : slice_get owners p.place ≡ Some p → ⊥

-- these are the calls that are marked, each at its place
pub record AreOwnedBy (owners : List Placed) (calls : ℕ → List Item) : Type 0 where
  pub marked : (c j : ℕ) (x : Item) → slice_get (calls c) j ≡ Some x → x.entry ≡ true → slice_get owners x.place ≡ Some (record { caller = c; index = j; place = x.place })
  pub owned : (k : ℕ) (p : Placed) → slice_get owners k ≡ Some p → (p.place ≡ k) × ((x : Item) × (slice_get (calls p.caller) p.index ≡ Some x) × (x.entry ≡ true) × (x.place ≡ k))
