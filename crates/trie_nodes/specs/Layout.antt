-- Where things stand in the row of words of a shared table. First word 0, which nothing uses, so that no node and no entry has the place 0. Then the atomics, a word each; for each map its root word and its gate word, with 15 words that nothing uses before and behind each of them, so that no other word shares its cache line; the nodes that are the maps' first roots; and last the room of the callers, in units. A place is the number of the first word of a node or an entry.
use Rattle.std.specs.Prelude.{ℕ, ◌+◌, ◌*◌, ◌^◌}

-- the word of atomic number a
abbrev pub atomic_word : ℕ → ℕ
atomic_word a = 1 + a

-- the root word of map number m, beside so many atomics: it holds the place of the map's root node
abbrev pub root_word : ℕ → ℕ → ℕ
root_word atomics m = 1 + atomics + 16 + 32 * m

-- the word of the writers' gate of map number m
abbrev pub gate_word : ℕ → ℕ → ℕ
gate_word atomics m = 1 + atomics + 32 + 32 * m

-- the first word behind word 0, the atomics, and the maps' roots and gates: from here on there are nodes and entries alone
abbrev pub heads : ℕ → ℕ → ℕ
heads atomics maps = 1 + atomics + 16 + 32 * maps

-- the place of the node that is the first root of map number m
abbrev pub first_root : ℕ → ℕ → ℕ → ℕ
first_root atomics maps m = heads atomics maps + 18 * m

-- the first word of the callers' room
abbrev pub first_room : ℕ → ℕ → ℕ
first_room atomics maps = heads atomics maps + 18 * maps

-- the words of one unit of room: an entry and seven nodes, the most that a call adds to a map
abbrev pub unit_words : ℕ
unit_words = 128

-- the words of a node: its lock, its parent's place (0 for a root), and slots 0 to 15
abbrev pub lock_word : ℕ → ℕ
lock_word node = node

abbrev pub parent_word : ℕ → ℕ
parent_word node = node + 1

abbrev pub slot_word : ℕ → ℕ → ℕ
slot_word node slot = node + 2 + slot

-- the words of an entry: its key and its value
abbrev pub key_word : ℕ → ℕ
key_word entry = entry

abbrev pub value_word : ℕ → ℕ
value_word entry = entry + 1

-- what a lock holds where a caller has it; 0 where nobody has it
abbrev pub held_word : ℕ → ℕ
held_word caller = caller + 1

-- what the lock of a dead node holds, beyond the numbers of callers
abbrev pub dead_word : ℕ
dead_word = 2 ^ 32
