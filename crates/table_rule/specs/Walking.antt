-- A seat on its way to a key of a map, and what the words tell it there.
use Rattle.std.specs.Prelude.{◌≡◌, ◌⊎◌, ℕ, suc, true, ◌+◌, ◌^◌, ◌<◌, ◌≤◌, ◌==◌, cond, List, length, Option, Some, None, IsSome, MatchBool, slice_get}
use Rattle.atomic_table.specs.Table.{Me}
use Rattle.sync_model.specs.declared.item.Item.{Item}
use Rattle.sync_model.specs.declared.item.SharedCall.TheVariants as calls
use Rattle.sync_model.specs.declared.item.SharedEntry.{SharedEntry}
use Rattle.sync_model.specs.declared.item.SharedReply.TheVariants as replies
use Rattle.sync_types.specs.declared.map_object.MapCall.{MapCall}
use Rattle.sync_types.specs.declared.map_object.MapReply.{MapReply}
use Rattle.sync_model.specs.Shared.{Called, cost_of}
use Rattle.table_rule.specs.declared.view.Gate.TheVariants.{Inside}
use Rattle.table_rule.specs.declared.view.Leaf.{Leaf}
use Rattle.table_rule.specs.declared.view.Own.{Own}
use Rattle.table_rule.specs.declared.view.View.{View}
use Rattle.table_rule.specs.declared.view.Walk.{Walk}
use Rattle.trie_nodes.specs.declared.slot.Slot.{Slot}
use Rattle.trie_nodes.specs.declared.slot.Slot.TheVariants.{Empty, Node, Entry}
use Rattle.table_rule.specs.declared.begin.Begin.{Begin}
use Rattle.trie_nodes.specs.Paths.{route}
use Rattle.sync_types.specs.KeyCalls.{is_key_entry, key_reply}
use Rattle.table_rule.specs.Layout.{size_of}
use Rattle.table_rule.specs.Shape.{start_of}
use Rattle.table_rule.specs.Views.{at_time, with_item, paid, MayPay, called_view, view_state, IsIdle, Looks}

-- the view of a seat that stands here, and knows this entry
abbrev pub standing : View → Option Walk → Option Leaf → View
standing v walk leaf = record v { walk = walk; leaf = leaf }

-- a seat stands at the node of a level on a key's path
abbrev pub walk_at : ℕ → ℕ → ℕ → ℕ → ℕ → Walk
walk_at map key node level since = record { map = map; key = key; node = node; level = level; since = since }

-- so many words from a place on are words of the table
abbrev pub HasWords : View → ℕ → ℕ → Type 0
HasWords v place words = (place + words ≤ size_of v.begin) × (place < 2 ^ 32)

-- a seat that was told the number of its caller's last event
abbrev pub told_at : ℕ → Me (Unit {0}) View → Me (Unit {0}) View
told_at time me = (at_time me.0 time, me.1)

-- a seat read a map's root word: it stands at the root
abbrev pub Enters : ℕ → ℕ → Me (Unit {0}) View → ℕ → Me (Unit {0}) View → Type 0
Enters m key before found after =
    (after.1 ≡ before.1) × (after.0 ≡ standing before.0 (Some (walk_at m key found 0 (length before.0.seen))) before.0.leaf) × HasWords before.0 found 18

-- a seat's call on a map is placed, used so many words of its caller's room, and left the seat with this entry. The seat has then seen the whole history
pub record Answers (m : ℕ) (call : MapCall ℕ) (reply : MapReply) (words : ℕ) (leaf : Option Leaf) (v w : View) : Type 0 where
  pub item : Item
  pub time : ℕ
  pub seen : List SharedEntry
  pub is : w ≡ standing (called_view v (paid (cost_of call) words (with_item v.owns item time)) seen time) None leaf
  pub called : Called (start_of v.begin) (calls.Map m call) (replies.Map reply) (cost_of call) (view_state v) (view_state w)
  pub looks : Looks w w

-- the value that an entry gives a key
abbrev pub given_by : Leaf → ℕ → Option ℕ
given_by l key = cond (l.key == key) (Some l.value) None

-- a seat found what the key of its way has. A call that is an entry of the history there isn't placed yet, and any other is placed and answered
abbrev pub Settles : MapCall ℕ → Walk → Option ℕ → Option Leaf → View → View → Type 0
Settles call w held leaf before after = MatchBool (is_key_entry call held) (after ≡ standing before before.walk leaf) (Answers w.map call (key_reply call held) 0 leaf before after)

-- an entry stands in a slot on the key's path
abbrev pub IsAlong : Begin → Walk → Leaf → Type 0
IsAlong k w l = (l.key < 2 ^ 32) × (route k.seed (suc w.level) l.key ≡ route k.seed (suc w.level) w.key)

-- a seat on its way to the key of a call read the key's slot. A node there is the next on the key's path. Else the slot shows what the key has
abbrev pub FindsIn : MapCall ℕ → Walk → Slot → View → View → Type 0
FindsIn call w Empty before after = Settles call w None before.leaf before after
FindsIn call w (Node node) before after = (after ≡ standing before (Some (walk_at w.map w.key node (suc w.level) w.since)) before.leaf) × HasWords before node 18 × (suc w.level < 8)
FindsIn call w (Entry place) before after = (l : Leaf) × (l.place ≡ place) × IsAlong before.begin w l × HasWords before place 2 × Settles call w (given_by l w.key) (Some l) before after

abbrev pub LooksIn : MapCall ℕ → Me (Unit {0}) View → Slot → Me (Unit {0}) View → Type 0
LooksIn call before slot after = (after.1 ≡ before.1) × ((w : Walk) → before.0.walk ≡ Some w → FindsIn call w slot before.0 after.0)

-- the first caller of a seat can pay for a call
abbrev pub Affords : ℕ → List Own → Type 0
Affords cost owns = (own : Own) → slice_get owns 0 ≡ Some own → MayPay cost own

-- a seat read the key of the entry that it knows
abbrev pub ReadsKey : Me (Unit {0}) View → ℕ → Me (Unit {0}) View → Type 0
ReadsKey before found after = (after ≡ before) × ((l : Leaf) → before.0.leaf ≡ Some l → found ≡ l.key)

-- a seat read the value of the entry, and keeps it
abbrev pub KeepsValue : Me (Unit {0}) View → ℕ → Me (Unit {0}) View → Type 0
KeepsValue before found after = (after ≡ before) × ((l : Leaf) → before.0.leaf ≡ Some l → found ≡ l.value)

-- a seat read the value of the entry, and leaves it
abbrev pub ReadsValue : Me (Unit {0}) View → ℕ → Me (Unit {0}) View → Type 0
ReadsValue before found after = (after.1 ≡ before.1) × (after.0 ≡ standing before.0 before.0.walk None) × ((l : Leaf) → before.0.leaf ≡ Some l → found ≡ l.value)

-- a seat that knows no entry may read a root word
abbrev pub MayEnter : Begin → Me (Unit {0}) View → Type 0
MayEnter k me = (me.0.live ≡ true) × (me.0.begin ≡ k) × (me.0.leaf ≡ None)

-- a seat whose call is no load: it is a writer inside of a gate, or it has a cursor
abbrev pub IsUncounted : View → Type 0
IsUncounted v = ((m : ℕ) × (v.gate ≡ Inside m)) ⊎ IsSome v.spot

-- a caller's seat, between two calls
pub record IsFree (k : Begin) (me : Me (Unit {0}) View) : Type 0 where
  pub live : me.0.live ≡ true
  pub begin : me.0.begin ≡ k
  pub idle : IsIdle me.0
  pub some : 0 < length me.0.owns

-- a caller's seat on its way to a key
pub record OnWay (k : Begin) (me : Me (Unit {0}) View) (w : Walk) : Type 0 where
  pub live : me.0.live ≡ true
  pub begin : me.0.begin ≡ k
  pub some : 0 < length me.0.owns
  pub walk : me.0.walk ≡ Some w
  pub leaf : me.0.leaf ≡ None
  pub since : w.since ≡ length me.0.seen

-- a seat knows the entry at this place
pub record AtEntry (me : Me (Unit {0}) View) (place : ℕ) : Type 0 where
  pub live : me.0.live ≡ true
  pub entry : Leaf
  pub is : me.0.leaf ≡ Some entry
  pub place_is : entry.place ≡ place
