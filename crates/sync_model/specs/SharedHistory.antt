-- The shared history: the calls of all callers on all maps and atomics that are entries, in one order, and what the maps and atomics contain after them.
use Rattle.std.specs.Prelude.{◌≡◌, ℕ, ◌+◌, Bool, true, false, ◌==◌, cond, List, [], ◌∷◌, ◌++◌, map, replicate, take, Option, slice_index_or, slice_set}
use Rattle.std.specs.Ordering.{nat_cmp}
use Rattle.std.specs.FinMap.{FinMap, empty, get}
use Rattle.sync_types.specs.declared.atomic_object.AtomicKind.{AtomicKind}
use Rattle.sync_types.specs.declared.atomic_object.Number.{Number}
use Rattle.sync_types.specs.declared.atomic_object.Number.TheVariants.{Bool as Truth}
use Rattle.sync_model.specs.declared.item.SharedCall.{SharedCall}
use Rattle.sync_model.specs.declared.item.SharedCall.TheVariants as calls
use Rattle.sync_model.specs.declared.item.SharedReply.{SharedReply}
use Rattle.sync_model.specs.declared.item.SharedReply.TheVariants as replies
use Rattle.sync_model.specs.declared.item.SharedEntry.{SharedEntry}
use Rattle.sync_model.specs.declared.item.Item.{Item}
use Rattle.sync_types.specs.SequentialMap.{map_reply, map_after, is_map_entry}
use Rattle.sync_types.specs.SequentialAtomic.{zero_of, atomic_reply, atomic_after, is_atomic_entry}

-- what all maps and atomics contain
pub record Contents : Type 0 where
  pub maps : List (FinMap nat_cmp ℕ)
  pub numbers : List Number

-- at the start no map has a key, and each atomic is 0, or false: the zero values of Go's types
abbrev pub first_contents : ℕ → List AtomicKind → Contents
first_contents maps kinds = record { maps = replicate maps empty; numbers = map zero_of kinds }

-- what a map contains; no key, where there is no map of this number
abbrev pub map_at : Contents → ℕ → FinMap nat_cmp ℕ
map_at contents m = slice_index_or contents.maps m empty

-- what an atomic holds; false, where there is no atomic of this number
abbrev pub number_at : Contents → ℕ → Number
number_at contents a = slice_index_or contents.numbers a (Truth false)

-- the value of a key of a map, if it has one
abbrev pub value_at : Contents → ℕ → ℕ → Option ℕ
value_at contents m key = get (map_at contents m) key

-- this is what a call answers where the maps and atomics contain this, as the map or the atomic answers one thread; a cursor's step shows a pair, or none, and the Range law says which
abbrev pub IsReply : SharedCall → SharedReply → Contents → Type 0
IsReply (calls.Map m call) reply contents = reply ≡ replies.Map (map_reply call (map_at contents m))
IsReply (calls.Begin m) reply contents = reply ≡ replies.Begun
IsReply (calls.Next begin) reply contents = (shown : Option (ℕ × ℕ)) × (reply ≡ replies.Shown shown)
IsReply (calls.Atomic a call) reply contents = reply ≡ replies.Atomic (atomic_reply call (number_at contents a))

-- whether a call is an entry of the history; a cursor's calls never are
abbrev pub is_entry : SharedCall → Contents → Bool
is_entry (calls.Map m call) contents = is_map_entry call (map_at contents m)
is_entry (calls.Begin m) contents = false
is_entry (calls.Next begin) contents = false
is_entry (calls.Atomic a call) contents = is_atomic_entry call (number_at contents a)

-- what the maps and atomics contain after a call
abbrev pub shared_after : SharedCall → Contents → Contents
shared_after (calls.Map m call) contents = record contents { maps = slice_set contents.maps m (map_after call (map_at contents m)) }
shared_after (calls.Begin m) contents = contents
shared_after (calls.Next begin) contents = contents
shared_after (calls.Atomic a call) contents = record contents { numbers = slice_set contents.numbers a (atomic_after call (number_at contents a)) }

-- what they contain after all entries of a history
abbrev pub contents_after : Contents → List SharedEntry → Contents
contents_after contents [] = contents
contents_after contents (entry ∷ later) = contents_after (shared_after entry.call contents) later

-- what they contain after the first n entries
abbrev pub contents_at : Contents → List SharedEntry → ℕ → Contents
contents_at start history n = contents_after start (take n history)

-- a legal history: each of its calls is an entry after those before it, and is answered as by the objects for one thread
abbrev pub IsLegal : Contents → List SharedEntry → Type 0
IsLegal contents [] = Unit {0}
IsLegal contents (entry ∷ later) = (is_entry entry.call contents ≡ true) × IsReply entry.call entry.reply contents × IsLegal (shared_after entry.call contents) later

-- one caller's entries in a history whose first entry is number n, each with its number
abbrev pub entries_from : ℕ → ℕ → List SharedEntry → List (ℕ × SharedEntry)
entries_from n c [] = []
entries_from n c (entry ∷ later) = cond (entry.caller == c) ((n, entry) ∷ entries_from (n + 1) c later) (entries_from (n + 1) c later)

-- one caller's entries, each with its number, counted from 0
abbrev pub entries_by : ℕ → List SharedEntry → List (ℕ × SharedEntry)
entries_by c history = entries_from 0 c history

-- a call of a caller, as the history has it
abbrev pub entry_of : ℕ → Item → SharedEntry
entry_of c x = record { caller = c; call = x.call; reply = x.reply }

-- the calls in a caller's own list that are entries, each with its place
abbrev pub marked_in : ℕ → List Item → List (ℕ × SharedEntry)
marked_in c [] = []
marked_in c (x ∷ xs) = cond x.entry ((x.place, entry_of c x) ∷ marked_in c xs) (marked_in c xs)

-- the history after one more call of a caller
abbrev pub history_with : List SharedEntry → ℕ → Item → List SharedEntry
history_with history c x = cond x.entry (history ++ entry_of c x ∷ []) history
