-- What contracts see of a trie.
use Rattle.std.specs.Prelude.{◌≢◌, ℕ, ◌^◌, ◌<◌, List, [], ◌∷◌, ◌++◌}
use Rattle.sync_types.specs.declared.atomic_object.AtomicKind.{AtomicKind}
use Rattle.sync_model.specs.declared.item.Item.{Item}
use Rattle.sync_model.specs.declared.item.SharedCall.TheVariants.{Next}
use Rattle.shared_table.specs.declared.cursor.TableCursor.{TableCursor}
use Rattle.shared_table.specs.CursorStays as still
use Rattle.shared_table.specs.Ranging.{IsCursor}
use Rattle.shared_table.specs.Tables.{kinds_of, maps_of, caller_count}
use Rattle.go_map.specs.declared.trie.Trie.{Trie}

-- the types of the atomics, by number
abbrev pub kinds_in : Trie → List AtomicKind
kinds_in trie = kinds_of trie.0

-- how many maps there are
abbrev pub maps_in : Trie → ℕ
maps_in trie = maps_of trie.0

-- how many callers there are
abbrev pub count_in : Trie → ℕ
count_in trie = caller_count trie.0

-- its maps take all keys of 32 bits
abbrev pub Takes : Trie → ℕ → Type 0
Takes trie key = key < 2 ^ 32

-- the walk goes over this map for a caller who made these calls, of which the one with this number began it
abbrev pub Stands : Trie → TableCursor → ℕ → ℕ → List Item → Type 0
Stands trie cursor map begin items = IsCursor trie.0.words cursor map begin items

pub stays : (trie : Trie) (cursor : TableCursor) (map begin : ℕ) (items : List Item) (item : Item) → item.call ≢ Next begin → Stands trie cursor map begin items → Stands trie cursor map begin (items ++ item ∷ [])
stays trie cursor map begin items item other stands = still.stays trie.0.words cursor map begin items item other stands
