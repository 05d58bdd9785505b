-- A seat that cuts off an empty node: it has looked at all slots under the node's lock, takes the lock of the node's parent too, marks the node dead, and empties the parent's slot.
use Rattle.std.specs.Prelude.{◌≡◌, ℕ, suc, ◌-◌, ◌<◌, ◌==◌, Bool, true, false, List, [], ◌∷◌, ◌++◌, length, replicate, Some, None, MatchBool}
use Rattle.atomic_table.specs.Table.{Me}
use Rattle.table_rule.specs.declared.begin.Begin.{Begin}
use Rattle.sync_model.specs.Journal.{Begins}
use Rattle.table_rule.specs.declared.view.CutNode.{CutNode}
use Rattle.table_rule.specs.declared.view.Gate.TheVariants.{Inside}
use Rattle.table_rule.specs.declared.view.Lock.{Lock}
use Rattle.table_rule.specs.declared.view.View.{View}
use Rattle.trie_nodes.specs.Layout.{dead_word}
use Rattle.table_rule.specs.Making.{bare, found_lock}
use Rattle.table_rule.specs.Walking.{HasWords}
use Rattle.table_rule.specs.Writing.{holding}

-- one more of the first slots is known to be empty
abbrev pub with_empty : Lock → Lock
with_empty l = record l { empty = suc l.empty }

-- the lock of the parent of a lock's node, of which nothing was read
abbrev pub upper_lock : Lock → ℕ → Lock
upper_lock l up = record { node = l.up; up = up; key = l.key; level = l.level - 1; found = None; empty = 0; dead = false }

-- the lock of a node that is marked dead
abbrev pub marked : Lock → Lock
marked l = record l { dead = true }

-- a seat looked at the first slot of which it doesn't know under its lock that it is empty: it knows so now, or knows the word that is there
abbrev pub SeesSlot : Lock → ℕ → Bool → Me (Unit {0}) View → Me (Unit {0}) View → Type 0
SeesSlot l found empty before after =
    (after.1 ≡ before.1)
    × MatchBool empty (after.0 ≡ holding before.0 before.0.gate (Some (with_empty l)) None) (after.0 ≡ holding before.0 before.0.gate (Some (found_lock l l.empty found)) None)

abbrev pub LooksAtSlot : Me (Unit {0}) View → ℕ → Me (Unit {0}) View → Type 0
LooksAtSlot before found after = (l : Lock) → before.0.lock ≡ Some l → SeesSlot l found (found == 0) before after

-- a seat read the parent's place of the node whose lock it holds. The parent of a node below the root is a node
abbrev pub ReadsParent : Me (Unit {0}) View → ℕ → Me (Unit {0}) View → Type 0
ReadsParent before found after = (after ≡ before) × ((l : Lock) → before.0.lock ≡ Some l → (found ≡ l.up) × (0 < l.level → (0 < found) × HasWords before.0 found 18))

-- a seat tried the lock of the parent, and holds it too where it was free
abbrev pub TriedUpper : Lock → Bool → Me (Unit {0}) View → Me (Unit {0}) View → Type 0
TriedUpper l free before after = (after.1 ≡ before.1) × MatchBool free ((up : ℕ) × (after.0 ≡ holding before.0 before.0.gate (Some l) (Some (upper_lock l up)))) (after.0 ≡ before.0)

abbrev pub TriesUpper : Me (Unit {0}) View → ℕ → Me (Unit {0}) View → Type 0
TriesUpper before found after = (l : Lock) → before.0.lock ≡ Some l → TriedUpper l (found == 0) before after

-- a seat holds the locks of an empty node and of its parent. The node is marked dead, or isn't yet
pub record HoldsBoth (k : Begin) (me : Me (Unit {0}) View) (l u : Lock) (dead : Bool) : Type 0 where
  pub live : me.0.live ≡ true
  pub begin : me.0.begin ≡ k
  pub some : 0 < length me.0.owns
  pub lock : me.0.lock ≡ Some l
  pub upper : me.0.upper ≡ Some u
  pub empty : l.empty ≡ 16
  pub marked_is : l.dead ≡ dead
  pub living : u.dead ≡ false
  pub above : u.node ≡ l.up
  pub key : u.key ≡ l.key
  pub level : l.level ≡ suc u.level

-- a seat marked the node dead
abbrev pub Marks : Me (Unit {0}) View → Me (Unit {0}) View → Type 0
Marks before after = (after.1 ≡ before.1) × ((l : Lock) → before.0.lock ≡ Some l → after.0 ≡ holding before.0 before.0.gate (Some (marked l)) before.0.upper)

-- the words of a dead node: its lock says so, it names its parent, and its slots are empty
abbrev pub dead_words : ℕ → List ℕ
dead_words up = dead_word ∷ up ∷ replicate 16 0

-- the view of a seat that has cut off these nodes too
abbrev pub having_cut : View → List CutNode → View
having_cut v nodes = record v { cut = nodes ++ v.cut }

-- the node of a lock was pruned, when the history was no shorter than what the seat has seen
pub record IsPruned (v : View) (l : Lock) (d : CutNode) : Type 0 where
  pub node : d.node ≡ l.node
  pub map : v.gate ≡ Inside d.map
  pub level : d.level ≡ l.level
  pub key : d.key ≡ l.key
  pub seen : Begins d.before v.seen
  pub words : d.words ≡ dead_words l.up

-- a seat emptied the parent's slot: it holds the parent's lock alone, and has cut off the node
abbrev pub CutsOff : Me (Unit {0}) View → Me (Unit {0}) View → Type 0
CutsOff before after =
    (after.1 ≡ before.1)
    × ((l u : Lock) → before.0.lock ≡ Some l → before.0.upper ≡ Some u
    → (d : CutNode) × IsPruned before.0 l d × (after.0 ≡ having_cut (holding before.0 before.0.gate (Some (bare u)) None) (d ∷ [])))
