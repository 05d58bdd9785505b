-- The third part of the rule: what the words owe each seat.
use Rattle.std.specs.Prelude.{◌≡◌, ◌⊎◌, ℕ, suc, ◌+◌, ◌*◌, ◌^◌, ◌<◌, ◌≤◌, Bool, true, false, cond, List, Contains, length, take, Some, None, slice_get, slice_index}
use Rattle.sync_model.specs.declared.item.SharedEntry.{SharedEntry}
use Rattle.sync_model.specs.declared.item.Item.{Item}
use Rattle.sync_model.specs.Journal.{Begins}
use Rattle.sync_model.specs.SharedCalls.{Knows}
use Rattle.table_rule.specs.declared.begin.Begin.{Begin}
use Rattle.table_rule.specs.declared.view.Own.{Own}
use Rattle.table_rule.specs.declared.view.Walk.{Walk}
use Rattle.table_rule.specs.declared.view.Leaf.{Leaf}
use Rattle.table_rule.specs.declared.view.Lock.{Lock}
use Rattle.table_rule.specs.declared.view.CutNode.{CutNode}
use Rattle.table_rule.specs.declared.view.Spot.{Spot}
use Rattle.table_rule.specs.declared.view.Gate.{Gate}
use Rattle.table_rule.specs.declared.view.Gate.TheVariants.{Outside, Inside, Closed}
use Rattle.table_rule.specs.declared.view.View.{View}
use Rattle.trie_nodes.specs.Layout.{parent_word, slot_word, unit_words, dead_word}
use Rattle.table_rule.specs.Layout.{heads, size_of}
use Rattle.trie_nodes.specs.Paths.{route, Passed}
use Rattle.table_rule.specs.Shape.{Shape, held_at, time}

-- a seat stands at a node of its key's path, which stands for no less than what the seat saw when it read the root
pub record Walks (k : Begin) (sh : Shape) (log : List SharedEntry) (w : Walk) : Type 0 where
  pub node : sh.kind_of w.node ≡ 1
  pub map : sh.map_of w.node ≡ w.map
  pub key : w.key < 2 ^ 32
  pub level : w.level < 8
  pub path : sh.path_of w.node ≡ route k.seed w.level w.key
  pub since : w.since ≤ time sh log w.node

-- a seat has read an entry
pub record IsLeaf (sh : Shape) (ws : List ℕ) (l : Leaf) : Type 0 where
  pub entry : sh.kind_of l.place ≡ 2
  pub key : slice_index ws l.place ≡ l.key
  pub value : slice_index ws (l.place + 1) ≡ l.value

-- a caller holds the lock of a reachable node of a map: what it read there is still so
pub record Locks (k : Begin) (sh : Shape) (ws : List ℕ) (caller m : ℕ) (l : Lock) : Type 0 where
  pub node : sh.kind_of l.node ≡ 1
  pub map : sh.map_of l.node ≡ m
  pub key : l.key < 2 ^ 32
  pub level : l.level < 8
  pub path : sh.path_of l.node ≡ route k.seed l.level l.key
  pub reachable : sh.cut_of l.node ≡ None
  pub mine : sh.held_by l.node ≡ suc caller
  pub word : slice_index ws l.node ≡ cond l.dead dead_word (suc caller)
  pub parent : slice_index ws (parent_word l.node) ≡ l.up
  pub found : (slot word : ℕ) → l.found ≡ Some (slot, word) → (slot < 16) × (slice_index ws (slot_word l.node slot) ≡ word)
  pub few : l.empty ≤ 16
  pub empty_so_far : (slot : ℕ) → slot < l.empty → slice_index ws (slot_word l.node slot) ≡ 0

-- a node of a map, on a key's path, was cut off at this moment of the history, and has the words that it had then
pub record IsCutOff (k : Begin) (sh : Shape) (log : List SharedEntry) (ws : List ℕ) (d : CutNode) : Type 0 where
  pub node : sh.kind_of d.node ≡ 1
  pub map : sh.map_of d.node ≡ d.map
  pub key : d.key < 2 ^ 32
  pub level : d.level < 8
  pub path : sh.path_of d.node ≡ route k.seed d.level d.key
  pub history : Begins log d.before
  pub cut : sh.cut_of d.node ≡ Some (length d.before)
  pub words : (n : ℕ) → n < 18 → slice_index ws (d.node + n) ≡ slice_index d.words n

-- a caller's room: words that belong to it alone and are part of nothing, which hold its draft, and behind that 0
pub record HasRoom (k : Begin) (sh : Shape) (ws : List ℕ) (caller : ℕ) (own : Own) : Type 0 where
  pub lies : heads k ≤ own.next
  pub within : own.next + unit_words * own.spare ≤ size_of k
  pub mine : (i : ℕ) → i < unit_words * own.spare → sh.area_of (own.next + i) ≡ suc caller
  pub unused : (i : ℕ) → i < unit_words * own.spare → sh.part_of (own.next + i) ≡ 0
  pub words : (i : ℕ) → i < unit_words * own.spare → slice_index ws (own.next + i) ≡ slice_index own.draft i

-- a cursor's nodes are those of a path, and stand for no less than what was seen at its begin. It has passed each key that it showed, and each other key that it passed was absent at some moment since then
pub record Stands (k : Begin) (sh : Shape) (log : List SharedEntry) (calls : ℕ → List Item) (s : Spot) : Type 0 where
  pub since : s.since ≤ length log
  pub knows : Knows calls s.front s.since
  pub sized : length s.nodes ≡ length s.slots
  pub some : 0 < length s.nodes
  pub nodes : (i p : ℕ) → slice_get s.nodes i ≡ Some p → (sh.kind_of p ≡ 1) × (sh.map_of p ≡ s.map) × (sh.path_of p ≡ take i s.slots) × (s.since ≤ time sh log p)
  pub slots : (i slot : ℕ) → slice_get s.slots i ≡ Some slot → slot ≤ 16
  pub entered : (i slot : ℕ) → slice_get s.slots i ≡ Some slot → suc i < length s.slots → slot < 16
  pub shown : (key : ℕ) → Contains s.shown key → (key < 2 ^ 32) × Passed k.seed 0 s.slots key
  pub passed : (key : ℕ) → key < 2 ^ 32 → Passed k.seed 0 s.slots key → Contains s.shown key ⊎ ((moment : ℕ) × (s.since ≤ moment) × (moment ≤ length log) × (held_at k log moment s.map key ≡ None))

-- how a caller stands to a gate
abbrev pub AtGate : Begin → Shape → ℕ → Gate → Type 0
AtGate k sh caller Outside = Unit {0}
AtGate k sh caller (Inside m) = (m < k.maps) × (sh.inside m caller ≡ true)
AtGate k sh caller (Closed m alone) = (m < k.maps) × (sh.closed_by m ≡ suc caller) × (alone ≡ true → (c : ℕ) → sh.inside m c ≡ false)

-- the seat holds the lock of a node
abbrev pub HoldsLock : View → ℕ → Type 0
HoldsLock v p = (l : Lock) × ((v.lock ≡ Some l) ⊎ (v.upper ≡ Some l)) × (l.node ≡ p)

-- what a seat holds and where it stands is so
pub record Suits (k : Begin) (sh : Shape) (log : List SharedEntry) (calls : ℕ → List Item) (ws : List ℕ) (v : View) : Type 0 where
  pub begin : v.begin ≡ k
  pub walk : (w : Walk) → v.walk ≡ Some w → Walks k sh log w
  -- a node that a writer inside came by is reachable, or dead: it was not cleared away
  pub steady : (w : Walk) → v.walk ≡ Some w → v.gate ≡ Inside w.map → (sh.cut_of w.node ≡ None) ⊎ (slice_index ws w.node ≡ dead_word)
  pub leaf : (l : Leaf) → v.leaf ≡ Some l → IsLeaf sh ws l
  pub spot : (s : Spot) → v.spot ≡ Some s → Stands k sh log calls s
  -- a node that it cut off stays as it was then
  pub cut : (d : CutNode) → Contains v.cut d → IsCutOff k sh log ws d
  pub room : (i : ℕ) (own : Own) → slice_get v.owns i ≡ Some own → HasRoom k sh ws (v.number + i) own
  pub gate : AtGate k sh v.number v.gate
  -- a caller that is counted as a writer knows it
  pub only : (m i : ℕ) (own : Own) → slice_get v.owns i ≡ Some own → sh.inside m (v.number + i) ≡ true → v.gate ≡ Inside m
  -- a caller that holds the lock of a reachable node knows it, and so does one that closed a gate
  pub holder : (p i : ℕ) (own : Own) → slice_get v.owns i ≡ Some own → sh.cut_of p ≡ None → sh.held_by p ≡ suc (v.number + i) → HoldsLock v p
  pub closer : (m i : ℕ) (own : Own) → slice_get v.owns i ≡ Some own → sh.closed_by m ≡ suc (v.number + i) → (alone : Bool) × (v.gate ≡ Closed m alone)
  -- only a writer inside holds locks, its first caller's
  pub lock : (l : Lock) → v.lock ≡ Some l → (m : ℕ) × (v.gate ≡ Inside m) × Locks k sh ws v.number m l
  pub upper : (l : Lock) → v.upper ≡ Some l → (m : ℕ) × (v.gate ≡ Inside m) × Locks k sh ws v.number m l
  -- a seat that stands for nobody is outside of all gates
  pub nobody : length v.owns ≡ 0 → v.gate ≡ Outside
