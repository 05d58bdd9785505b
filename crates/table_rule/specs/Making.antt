-- A call that writes a map: what its seat knows under a node's lock, what it may write there, and what the call leaves.
use Rattle.std.specs.Prelude.{◌≡◌, ◌⊎◌, ℕ, suc, ◌+◌, ◌-◌, ◌*◌, ◌^◌, ◌<◌, ◌≤◌, true, false, List, [], ◌∷◌, length, Option, Some, None, slice_index}
use Rattle.atomic_table.specs.Table.{Me}
use Rattle.sync_model.specs.declared.item.Item.{Item}
use Rattle.sync_model.specs.declared.item.SharedCall.TheVariants as calls
use Rattle.sync_model.specs.declared.item.SharedEntry.{SharedEntry}
use Rattle.sync_model.specs.declared.item.SharedReply.TheVariants as replies
use Rattle.sync_types.specs.declared.map_object.MapCall.{MapCall}
use Rattle.sync_types.specs.declared.map_object.MapReply.{MapReply}
use Rattle.sync_types.specs.SequentialMap.{map_key}
use Rattle.sync_model.specs.Shared.{Called, cost_of}
use Rattle.table_rule.specs.declared.begin.Begin.{Begin}
use Rattle.table_rule.specs.declared.view.Gate.TheVariants.{Inside}
use Rattle.table_rule.specs.declared.view.Leaf.{Leaf}
use Rattle.table_rule.specs.declared.view.Lock.{Lock}
use Rattle.table_rule.specs.declared.view.Own.{Own}
use Rattle.table_rule.specs.declared.view.View.{View}
use Rattle.table_rule.specs.declared.view.Walk.{Walk}
use Rattle.trie_nodes.specs.declared.plan.Expansion.{Expansion}
use Rattle.trie_nodes.specs.declared.slot.Slot.{Slot}
use Rattle.trie_nodes.specs.declared.slot.Slot.TheVariants.{Empty, Node, Entry}
use Rattle.trie_nodes.specs.Layout.{unit_words}
use Rattle.trie_nodes.specs.Paths.{nibble, route}
use Rattle.trie_nodes.specs.Plans.{IsExpansion}
use Rattle.trie_nodes.specs.Slots.{word_of_slot, slot_in}
use Rattle.sync_types.specs.KeyCalls.{is_key_entry, key_reply, key_after}
use Rattle.table_rule.specs.Layout.{size_of}
use Rattle.table_rule.specs.Shape.{start_of}
use Rattle.table_rule.specs.Units.{link_at, unit_word}
use Rattle.table_rule.specs.Values.{HasSmallValues}
use Rattle.table_rule.specs.Views.{with_item, paid, called_view, view_state, Looks}
use Rattle.table_rule.specs.Walking.{given_by, FindsIn}
use Rattle.table_rule.specs.Writing.{holding, lock_at, HasRoomWithin}

-- what a slot gives a key, by the entry in it, if there is one
abbrev pub leaf_value : Option Leaf → ℕ → Option ℕ
leaf_value None key = None
leaf_value (Some l) key = given_by l key

-- a slot is empty, or has this entry
abbrev pub HasLeaf : Slot → Option Leaf → Type 0
HasLeaf Empty leaf = leaf ≡ None
HasLeaf (Node node) leaf = ⊥
HasLeaf (Entry place) leaf = (l : Leaf) × (leaf ≡ Some l) × (l.place ≡ place)

-- a lock under which this slot was read, and its word
abbrev pub found_lock : Lock → ℕ → ℕ → Lock
found_lock l slot word = record l { found = Some (slot, word) }

-- a caller's seat, inside the gate of a map, holds the lock of a node, and knows what the slot for its key has there; the caller has a unit of room
pub record Sees (k : Begin) (v : View) (own : Own) (owns : List Own) (l : Lock) (m : ℕ) (found : Slot) : Type 0 where
  pub live : v.live ≡ true
  pub begin : v.begin ≡ k
  pub is : v.owns ≡ own ∷ owns
  pub locked : v.lock ≡ Some l
  pub living : l.dead ≡ false
  pub alone : v.upper ≡ None
  pub inside : v.gate ≡ Inside m
  pub word : ℕ
  pub found_is : l.found ≡ Some (nibble l.key k.seed l.level, word)
  pub slot_is : found ≡ slot_in word
  pub shows : HasLeaf found v.leaf
  pub along : (e : Leaf) → v.leaf ≡ Some e → (e.key < 2 ^ 32) × (route k.seed (suc l.level) e.key ≡ route k.seed (suc l.level) l.key)
  pub spare : 0 < own.spare
  pub within : own.next + unit_words * own.spare ≤ size_of k

-- the slot has no entry but the key's own
abbrev pub HasNoOther : Option Leaf → ℕ → Type 0
HasNoOther leaf key = (e : Leaf) → leaf ≡ Some e → e.key ≡ key

-- it may become empty, where the call removes the key
pub record Removes (own : Own) (leaf : Option Leaf) (l : Lock) (call : MapCall ℕ) (x : ℕ) : Type 0 where
  pub is : x ≡ 0
  pub after : key_after call (leaf_value leaf l.key) ≡ None
  pub draft : own.draft ≡ []
  pub free : HasNoOther leaf l.key

-- it may have the caller's drafted entry, where that is what the key has after the call
pub record Stores (own : Own) (leaf : Option Leaf) (l : Lock) (call : MapCall ℕ) (x : ℕ) : Type 0 where
  pub value : ℕ
  pub is : x ≡ word_of_slot (Entry own.next)
  pub after : key_after call (leaf_value leaf l.key) ≡ Some value
  pub draft : own.draft ≡ l.key ∷ value ∷ []
  pub free : HasNoOther leaf l.key

-- and where it has the entry of another key, the caller's drafted chain to both
pub record Expands (k : Begin) (own : Own) (leaf : Option Leaf) (l : Lock) (call : MapCall ℕ) (x : ℕ) : Type 0 where
  pub value : ℕ
  pub plan : Expansion
  pub other : Leaf
  pub other_is : leaf ≡ Some other
  pub is : x ≡ word_of_slot (Node (link_at own.next 0))
  pub after : key_after call (leaf_value leaf l.key) ≡ Some value
  pub planned : IsExpansion other.key l.key k.seed (suc l.level) plan
  pub sized : length own.draft ≡ 2 + 18 * plan.nodes
  pub draft : (i : ℕ) → i < 2 + 18 * plan.nodes → slice_index own.draft i ≡ unit_word k.seed l.key value (suc l.level) l.node other.place own.next plan i

-- a call on a map is placed, at the cost that it has, used so many words of its caller's room, and left its seat with this entry and this lock. The seat has then seen the whole history
pub record Makes (m : ℕ) (call : MapCall ℕ) (reply : MapReply) (words : ℕ) (leaf : Option Leaf) (lock : Option Lock) (v w : View) : Type 0 where
  pub item : Item
  pub time : ℕ
  pub seen : List SharedEntry
  pub is : w ≡ record (called_view v (paid (cost_of call) words (with_item v.owns item time)) seen time) { walk = None; leaf = leaf; lock = lock }
  pub called : Called (start_of v.begin) (calls.Map m call) (replies.Map reply) (cost_of call) (view_state v) (view_state w)
  pub looks : Looks w w

-- a seat may publish this word in the slot for the key of its call
pub record MayPublish (k : Begin) (v : View) (call : MapCall ℕ) (m : ℕ) (l : Lock) (x : ℕ) : Type 0 where
  pub own : Own
  pub owns : List Own
  pub found : Slot
  pub sees : Sees k v own owns l m found
  pub on : map_key call ≡ Some l.key
  pub costs : cost_of call ≡ 1
  pub is_entry : is_key_entry call (leaf_value v.leaf l.key) ≡ true
  pub values : HasSmallValues call
  pub writes : Removes own v.leaf l call x ⊎ (Stores own v.leaf l call x ⊎ Expands k own v.leaf l call x)

-- a lock of which nothing is known any more
abbrev pub bare : Lock → Lock
bare l = record l { found = None; empty = 0 }

-- how many words of its room a caller uses by a write that shows what it drafted: these words, and two at least. A call that removes a key drafts nothing, and leaves two words unused
abbrev pub used_in : List Own → ℕ
used_in [] = 0
used_in (own ∷ owns) = 2 + (length own.draft - 2)

-- a seat wrote a slot, which placed its call: it is an entry of the history there. The call used so many words of its caller's room
abbrev pub Publishes : ℕ → MapCall ℕ → ℕ → Me (Unit {0}) View → Me (Unit {0}) View → Type 0
Publishes m call words before after =
    (after.1 ≡ before.1) × ((l : Lock) → before.0.lock ≡ Some l → Makes m call (key_reply call (leaf_value before.0.leaf l.key)) words None (Some (bare l)) before.0 after.0)

-- a caller's seat holds the lock of the node where it stands, on its way to a key
pub record StandsLocked (k : Begin) (me : Me (Unit {0}) View) (w : Walk) (up : ℕ) : Type 0 where
  pub live : me.0.live ≡ true
  pub begin : me.0.begin ≡ k
  pub some : 0 < length me.0.owns
  pub walk : me.0.walk ≡ Some w
  pub leaf : me.0.leaf ≡ None
  pub locked : me.0.lock ≡ Some (lock_at w up)
  pub alone : me.0.upper ≡ None
  pub inside : me.0.gate ≡ Inside w.map
  pub since : w.since ≡ length me.0.seen

-- a seat looked at its key's slot under the lock of the node where it stands. Its room lies within the table
pub record FindsHeld (call : MapCall ℕ) (w : Walk) (l : Lock) (slot : ℕ) (found : Slot) (before after : View) : Type 0 where
  pub mid : View
  pub word : ℕ
  pub is_slot : found ≡ slot_in word
  pub finds : FindsIn call w found before mid
  pub is : after ≡ holding mid mid.gate (Some (found_lock l slot word)) None
  pub room : HasRoomWithin before

abbrev pub LooksHeld : MapCall ℕ → Me (Unit {0}) View → Slot → Me (Unit {0}) View → Type 0
LooksHeld call before found after =
    (after.1 ≡ before.1) × ((w : Walk) (up : ℕ) → before.0.walk ≡ Some w → before.0.lock ≡ Some (lock_at w up) → FindsHeld call w (lock_at w up) (nibble w.key before.0.begin.seed w.level) found before.0 after.0)

-- the lock is that of this node, of this level, on this key's path
abbrev pub IsLockAt : Lock → ℕ → ℕ → ℕ → Type 0
IsLockAt l key node level = (l.key ≡ key) × (l.node ≡ node) × (l.level ≡ level)

-- a caller's room begins here, has a unit, and nothing is drafted in it
abbrev pub HasUnit : List Own → ℕ → Type 0
HasUnit all next = (own : Own) × (owns : List Own) × (all ≡ own ∷ owns) × (own.draft ≡ []) × (own.next ≡ next) × (0 < own.spare)

-- a seat made a call on a map, which used so many words of its caller's room, and has nothing else than before. The seat has then seen the whole history
pub record MadeCall (m : ℕ) (call : MapCall ℕ) (reply : MapReply) (words : ℕ) (v w : View) : Type 0 where
  pub item : Item
  pub time : ℕ
  pub seen : List SharedEntry
  pub is : w ≡ called_view v (paid (cost_of call) words (with_item v.owns item time)) seen time
  pub called : Called (start_of v.begin) (calls.Map m call) (replies.Map reply) (cost_of call) (view_state v) (view_state w)
  pub looks : Looks w w
