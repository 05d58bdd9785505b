-- A seat that prunes: what it knows of a node whose slots it looked at, and where it comes to.
use Rattle.std.specs.Prelude.{◌≡◌, ◌≢◌, ◌⊎◌, ℕ, ◌-◌, ◌<◌, true, false, List, [], ◌∷◌, Option, Some, None, IsSome, slice_index}
use Rattle.atomic_table.specs.Table.{Me}
use Rattle.table_rule.specs.declared.begin.Begin.{Begin}
use Rattle.table_rule.specs.declared.view.CutNode.{CutNode}
use Rattle.table_rule.specs.declared.view.Lock.{Lock}
use Rattle.table_rule.specs.declared.view.View.{View}
use Rattle.sync_types.specs.declared.map_object.MapCall.{MapCall}
use Rattle.sync_types.specs.KeyCalls.{is_key_entry, key_after}
use Rattle.trie_nodes.specs.Plans.{HasOnlyEmptySlots, HasAFullSlot}
use Rattle.table_rule.specs.Making.{IsLockAt}
use Rattle.table_rule.specs.Pruning.{having_cut}
use Rattle.table_rule.specs.Walking.{HasWords}
use Rattle.table_rule.specs.Writing.{holding, Holds}

-- a lock under which so many of the first slots are known to be empty, and this of one slot
abbrev pub knowing : Lock → ℕ → Option (ℕ × ℕ) → Lock
knowing l slots found = record l { empty = slots; found = found }

-- under the lock a slot is known that isn't empty
abbrev pub IsInUse : Lock → Type 0
IsInUse l = (slot : ℕ) × (word : ℕ) × (l.found ≡ Some (slot, word)) × (word ≢ 0)

-- a seat looked at the slots of the node whose lock it holds, up to the first that isn't empty, and has these words of the node
pub record LooksAtSlots (l : Lock) (words : List ℕ) (before after : Me (Unit {0}) View) : Type 0 where
  pub slots : after.1 ≡ before.1
  pub empty : ℕ
  pub found : Option (ℕ × ℕ)
  pub is : after.0 ≡ holding before.0 before.0.gate (Some (knowing l empty found)) None
  pub all : HasOnlyEmptySlots words → (empty ≡ 16) × (found ≡ l.found)
  pub full : HasAFullSlot words → IsInUse (knowing l empty found)
  pub parent : slice_index words 1 ≡ l.up
  pub above : 0 < l.level → (0 < slice_index words 1) × HasWords before.0 (slice_index words 1) 18

-- a seat holds the lock of a node in which a slot is known that isn't empty
abbrev pub HoldsInUse : View → Type 0
HoldsInUse v = (l : Lock) × (v.lock ≡ Some l) × IsInUse l

-- a seat holds the lock of a node that is not to be cut off: a root, or one in which a slot isn't empty
abbrev pub HoldsToStay : View → Type 0
HoldsToStay v = (l : Lock) × (v.lock ≡ Some l) × ((l.level ≡ 0) ⊎ IsInUse l)

-- an entry of the history that leaves its key with a value
abbrev pub NeverRemoves : MapCall ℕ → Type 0
NeverRemoves call = (held : Option ℕ) → is_key_entry call held ≡ true → IsSome (key_after call held)

-- a seat holds a lock of which nothing was read, of the node of this level on a key's path
pub record HoldsAt (k : Begin) (me : Me (Unit {0}) View) (key node level : ℕ) : Type 0 where
  pub lock : Lock
  pub at : IsLockAt lock key node level
  pub fresh : lock.empty ≡ 0
  pub holds : Holds k me lock
  pub words : HasWords me.0 node 18

-- a seat holds the lock of a node, has cut off these nodes, and else has what it had
pub record NowHolds (node : ℕ) (cut : List CutNode) (before after : Me (Unit {0}) View) : Type 0 where
  pub slots : after.1 ≡ before.1
  pub lock : Lock
  pub node_is : lock.node ≡ node
  pub living : lock.dead ≡ false
  pub is : after.0 ≡ having_cut (holding before.0 before.0.gate (Some lock) None) cut
  pub words : HasWords before.0 node 18

-- a node was cut off, and the seat holds the lock of its parent; or it stays, and the seat holds its lock still
abbrev pub PrunesAt : Begin → ℕ → ℕ → ℕ → Option ℕ → Me (Unit {0}) View → Me (Unit {0}) View → Type 0
PrunesAt k key node level None before after = NowHolds node [] before after
PrunesAt k key node level (Some parent) before after = (d : CutNode) × (d.node ≡ node) × NowHolds parent (d ∷ []) before after × HoldsAt k after key parent (level - 1)
