-- One map as slots: slot number k has the value of key k, if it has one.
use Rattle.std.specs.Prelude.{ℕ, ◌+◌, Bool, true, nat_lt, List, [], ◌∷◌, length, replicate, drop, Option, Some, None, slice_get, slice_set}
use Rattle.std.specs.Option.{option_map_or}
use Rattle.std.specs.Ordering.{nat_cmp}
use Rattle.std.specs.FinMap.{FinMap, empty, insert}
use Rattle.sync_types.specs.declared.map_object.MapCall.{MapCall}
use Rattle.sync_types.specs.KeyCalls.{key_after}
use Rattle.sync_types.specs.SequentialMap.{map_key}

-- a map with what one slot says of its key
abbrev pub with_slot : ℕ → Option ℕ → FinMap nat_cmp ℕ → FinMap nat_cmp ℕ
with_slot key None m = m
with_slot key (Some value) m = insert m key value

-- the map whose slots begin at this key
abbrev pub map_from : ℕ → List (Option ℕ) → FinMap nat_cmp ℕ
map_from key [] = empty
map_from key (slot ∷ slots) = with_slot key slot (map_from (key + 1) slots)

-- the map that the slots are
abbrev pub map_of : List (Option ℕ) → FinMap nat_cmp ℕ
map_of slots = map_from 0 slots

-- the slots after a call on this key
abbrev pub keyed_after : MapCall ℕ → ℕ → Option (Option ℕ) → List (Option ℕ) → List (Option ℕ)
keyed_after call key None slots = slots
keyed_after call key (Some held) slots = slice_set slots key (key_after call held)

-- the slots after a call on its key, or on all
abbrev pub slots_at : MapCall ℕ → Option ℕ → List (Option ℕ) → List (Option ℕ)
slots_at call None slots = replicate (length slots) None
slots_at call (Some key) slots = keyed_after call key (slice_get slots key) slots

-- the slots after a call
abbrev pub slots_after : MapCall ℕ → List (Option ℕ) → List (Option ℕ)
slots_after call slots = slots_at call (map_key call) slots

-- whether a call's key has a slot
abbrev pub has_slot : MapCall ℕ → List (Option ℕ) → Bool
has_slot call slots = option_map_or (λ key. nat_lt key (length slots)) (map_key call) true

-- the first key from this one on that has a value, with it; the slots begin at this key
abbrev pub pair_from : ℕ → List (Option ℕ) → Option (ℕ × ℕ)
pair_from key [] = None
pair_from key (None ∷ slots) = pair_from (key + 1) slots
pair_from key (Some value ∷ slots) = Some (key, value)

-- the least key that is there and is at least this one, with its value
abbrev pub next_pair : ℕ → List (Option ℕ) → Option (ℕ × ℕ)
next_pair key slots = pair_from key (drop key slots)
