-- The second part of the rule: what the words mean. It speaks of words and of the history, and of no seat.
use Rattle.std.specs.Prelude.{◌≡◌, ◌≢◌, ℕ, suc, ◌+◌, ◌^◌, ◌<◌, ◌≤◌, Bool, true, List, [], length, Option, Some, None, slice_get, slice_index}
use Rattle.sync_types.specs.declared.atomic_object.AtomicKind.{AtomicKind}
use Rattle.sync_types.specs.declared.atomic_object.Number.{Number}
use Rattle.sync_model.specs.declared.item.SharedEntry.{SharedEntry}
use Rattle.sync_model.specs.SharedHistory.{Contents, first_contents, number_at, value_at, contents_after, contents_at}
use Rattle.sync_types.specs.WordLayout.{is_word, number_in}
use Rattle.table_rule.specs.declared.begin.Begin.{Begin}
use Rattle.trie_nodes.specs.Layout.{parent_word, slot_word, atomic_word, dead_word}
use Rattle.table_rule.specs.Layout.{root_word, heads, size_of}
use Rattle.trie_nodes.specs.declared.slot.Slot.TheVariants.{Node, Entry}
use Rattle.trie_nodes.specs.Nodes.{Shows}
use Rattle.trie_nodes.specs.Slots.{slot_in}
use Rattle.trie_nodes.specs.Paths.{nibble, route}

-- what the blocks of words are, which no word tells alone
pub record Shape : Type 0 where
  -- the node that is reachable by this path from a map's root
  pub node_at : ℕ → List ℕ → Option ℕ
  -- what begins at a place: 1 a node, 2 an entry, 0 neither
  pub kind_of : ℕ → ℕ
  -- the place of the block that a word is part of, 0 of none
  pub part_of : ℕ → ℕ
  -- the map of a node, and its path from the root when it was reachable
  pub map_of : ℕ → ℕ
  pub path_of : ℕ → List ℕ
  -- how long the history was when the node was cut off
  pub cut_of : ℕ → Option ℕ
  -- who holds a node's lock, to whose room a word belongs, and who closed the gate of a map: a caller's number and one more, 0 for nobody
  pub held_by : ℕ → ℕ
  pub area_of : ℕ → ℕ
  pub closed_by : ℕ → ℕ
  -- whether a caller is counted as a writer of a map
  pub inside : ℕ → ℕ → Bool

-- what the maps and atomics contain at the start
abbrev pub start_of : Begin → Contents
start_of k = first_contents k.maps k.kinds

-- the value of a key of a map after the first n entries
abbrev pub held_at : Begin → List SharedEntry → ℕ → ℕ → ℕ → Option ℕ
held_at k log n m key = value_at (contents_at (start_of k) log n) m key

-- a moment where it stands still, or else the end
abbrev pub till : Option ℕ → ℕ → ℕ
till None end = end
till (Some moment) end = moment

-- for what length of the history a node stands: all of it while it is reachable, and else where it was cut off
abbrev pub time : Shape → List SharedEntry → ℕ → ℕ
time sh log p = till (sh.cut_of p) (length log)

-- the word of an atomic of this type stands for the number
abbrev pub IsNumber : AtomicKind → ℕ → Number → Type 0
IsNumber kind word number = (is_word kind word ≡ true) × (number ≡ number_in kind word)

module _ (k : Begin) (sh : Shape) where
  -- where a node lies
  pub record IsNode (p : ℕ) : Type 0 where
    pub lies : heads k ≤ p
    pub within : p + 18 ≤ size_of k
    pub words : (i : ℕ) → i < 18 → sh.part_of (p + i) ≡ p
    pub map : sh.map_of p < k.maps
    pub level : ℕ
    pub key : ℕ
    pub below : level < 8
    pub is_key : key < 2 ^ 32
    pub path : sh.path_of p ≡ route k.seed level key

  -- where an entry lies
  pub record IsEntry (ws : List ℕ) (p : ℕ) : Type 0 where
    pub lies : heads k ≤ p
    pub within : p + 2 ≤ size_of k
    pub key_part : sh.part_of p ≡ p
    pub value_part : sh.part_of (p + 1) ≡ p
    pub is_key : slice_index ws p < 2 ^ 32

module _ (k : Begin) (sh : Shape) (log : List SharedEntry) (ws : List ℕ) where
  -- the node below p on a key's path, which stands for as long as p
  abbrev pub IsBelow : ℕ → ℕ → ℕ → ℕ → Type 0
  IsBelow p d key node = (sh.kind_of node ≡ 1) × (sh.map_of node ≡ sh.map_of p) × (sh.path_of node ≡ route k.seed (suc d) key) × (sh.cut_of node ≡ sh.cut_of p)

  -- what the slot of node p for a key, on whose path the node stands at level d, says of the key
  pub record ShowsAt (p d key word : ℕ) : Type 0 where
    pub shows : Shows ws k.seed (IsBelow p d key) d key (held_at k log (time sh log p) (sh.map_of p) key) (slot_in word)
    pub entry : (place : ℕ) → slot_in word ≡ Entry place → sh.kind_of place ≡ 2
    -- where the slot has no node, none is reachable
    pub childless : ((node : ℕ) → slot_in word ≢ Node node) → sh.cut_of p ≡ None → sh.node_at (sh.map_of p) (route k.seed (suc d) key) ≡ None

  -- the words are those of this shape after this history
  pub record Fine : Type 0 where
    pub wide : length ws ≡ size_of k
    pub numbers : (a : ℕ) (kind : AtomicKind) → slice_get k.kinds a ≡ Some kind → IsNumber kind (slice_index ws (atomic_word a)) (number_at (contents_after (start_of k) log) a)
    -- blocks lie behind the heads
    pub headed : (i : ℕ) → i < heads k → sh.part_of i ≡ 0
    pub nodes : (p : ℕ) → sh.kind_of p ≡ 1 → IsNode k sh p
    pub leaves : (p : ℕ) → sh.kind_of p ≡ 2 → IsEntry k sh ws p
    -- the root word names the map's root
    pub roots : (m : ℕ) → m < k.maps → sh.node_at m [] ≡ Some (slice_index ws (root_word k m))
    -- a reachable node is the one of its map and path that isn't cut off
    pub live : (m : ℕ) (path : List ℕ) (p : ℕ) → sh.node_at m path ≡ Some p → (sh.kind_of p ≡ 1) × (sh.map_of p ≡ m) × (sh.path_of p ≡ path) × (sh.cut_of p ≡ None)
    pub there : (p : ℕ) → sh.kind_of p ≡ 1 → sh.cut_of p ≡ None → sh.node_at (sh.map_of p) (sh.path_of p) ≡ Some p
    -- a root has no parent, and the parent of another reachable node is the node above it
    pub top : (p : ℕ) → sh.kind_of p ≡ 1 → sh.path_of p ≡ [] → slice_index ws (parent_word p) ≡ 0
    pub parent : (p d key : ℕ) → sh.kind_of p ≡ 1 → sh.cut_of p ≡ None → key < 2 ^ 32 → sh.path_of p ≡ route k.seed (suc d) key → sh.node_at (sh.map_of p) (route k.seed d key) ≡ Some (slice_index ws (parent_word p))
    -- a node was cut off at some moment of the history
    pub cut : (p moment : ℕ) → sh.kind_of p ≡ 1 → sh.cut_of p ≡ Some moment → moment ≤ length log
    -- a node's lock word says who holds it, unless the node is dead, and a dead node is empty
    pub held : (p : ℕ) → sh.kind_of p ≡ 1 → slice_index ws p ≢ dead_word → sh.held_by p ≡ slice_index ws p
    pub dead : (p i : ℕ) → sh.kind_of p ≡ 1 → slice_index ws p ≡ dead_word → i < 16 → slice_index ws (slot_word p i) ≡ 0
    pub slots : (p d key : ℕ) → sh.kind_of p ≡ 1 → d < 8 → key < 2 ^ 32 → sh.path_of p ≡ route k.seed d key → ShowsAt p d key (slice_index ws (slot_word p (nibble key k.seed d)))
