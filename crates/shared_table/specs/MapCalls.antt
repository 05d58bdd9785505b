-- A call that writes a map: what it does to its key, what its seat saw under a node's lock, where its way down ended, and what it leaves.
use Rattle.std.specs.Prelude.{◌≡◌, ℕ, ◌<◌, ◌≤◌, true, false, List, length, Option, Some, None, IsSome, MatchBool}
use Rattle.atomic_table.specs.Table.{Me}
use Rattle.sync_types.specs.declared.map_object.MapCall.{MapCall}
use Rattle.sync_types.specs.declared.map_object.MapReply.{MapReply}
use Rattle.table_rule.specs.declared.begin.Begin.{Begin}
use Rattle.table_rule.specs.declared.view.CutNode.{CutNode}
use Rattle.table_rule.specs.declared.view.Gate.TheVariants.{Inside}
use Rattle.table_rule.specs.declared.view.Leaf.{Leaf}
use Rattle.table_rule.specs.declared.view.Lock.{Lock}
use Rattle.table_rule.specs.declared.view.View.{View}
use Rattle.table_rule.specs.declared.view.Walk.{Walk}
use Rattle.sync_types.specs.KeyCalls.{is_key_entry, key_reply, key_after}
use Rattle.table_rule.specs.Making.{leaf_value, IsLockAt, MadeCall, Makes}
use Rattle.table_rule.specs.Pruning.{having_cut}
use Rattle.table_rule.specs.Walking.{standing, walk_at, HasWords, Answers}
use Rattle.shared_table.specs.Drafts.{IsPoised}
use Rattle.shared_table.specs.declared.changes.Change.{Change}
use Rattle.shared_table.specs.declared.changes.Change.TheVariants.{Keep, Put, Remove}
use Rattle.shared_table.specs.declared.map_call.Paid.{Paid}
use Rattle.shared_table.specs.declared.map_call.Reached.{Reached}
use Rattle.shared_table.specs.declared.map_call.Reached.TheVariants.{Answered, Stands}
use Rattle.shared_table.specs.declared.map_call.Sight.{Sight}
use Rattle.shared_table.specs.declared.map_call.Sight.TheVariants.{Below, Shows}

-- what a call does to its key, by what the key has
abbrev pub IsChange : MapCall ℕ → Option ℕ → Change → Type 0
IsChange call held Keep = is_key_entry call held ≡ false
IsChange call held (Put value) = (is_key_entry call held ≡ true) × (key_after call held ≡ Some value)
IsChange call held Remove = (is_key_entry call held ≡ true) × (key_after call held ≡ None) × IsSome held

-- a seat holds the lock of a node still, and has made no call
pub record StillLocked (node : ℕ) (v w : View) : Type 0 where
  pub walk : Option Walk
  pub leaf : Option Leaf
  pub lock : Lock
  pub node_is : lock.node ≡ node
  pub living : lock.dead ≡ false
  pub is : w ≡ record v { walk = walk; leaf = leaf; lock = Some lock }

-- a seat that looked under a lock found that its call is an entry of the history there, and knows what the slot has
pub record IsPoisedAt (k : Begin) (call : MapCall ℕ) (m key node level next : ℕ) (leaf : Option Leaf) (v w : View) : Type 0 where
  pub poised : IsPoised k w call m key node level next
  pub leaf_is : w.leaf ≡ leaf
  pub lock : Lock
  pub node_is : lock.node ≡ node
  pub living : lock.dead ≡ false
  pub is : w ≡ record v { leaf = leaf; lock = Some lock }
  pub places : (e : Leaf) → leaf ≡ Some e → HasWords w e.place 2

-- a seat made its call under the lock of a node, which it holds still. The call used so many words of its caller's room
pub record MadeLocked (m : ℕ) (call : MapCall ℕ) (key node level : ℕ) (reply : MapReply) (words : ℕ) (v w : View) : Type 0 where
  pub leaf : Option Leaf
  pub lock : Lock
  pub at : IsLockAt lock key node level
  pub fresh : lock.empty ≡ 0
  pub living : lock.dead ≡ false
  pub makes : Makes m call reply words leaf (Some lock) v w

-- what a seat saw under a lock: the slot has become a node; or it has this, and the call is answered, or is an entry of the history
abbrev pub IsSight : Begin → MapCall ℕ → ℕ → ℕ → ℕ → ℕ → ℕ → Sight → View → View → Type 0
IsSight k call m key node level next Below v w = StillLocked node v w
IsSight k call m key node level next (Shows leaf) v w = MatchBool (is_key_entry call (leaf_value leaf key)) (IsPoisedAt k call m key node level next leaf v w) (MadeLocked m call key node level (key_reply call (leaf_value leaf key)) 0 v w)

-- a writer of a map that holds no lock, and knows no entry
pub record IsWriting (k : Begin) (me : Me (Unit {0}) View) (m : ℕ) : Type 0 where
  pub live : me.0.live ≡ true
  pub begin : me.0.begin ≡ k
  pub some : 0 < length me.0.owns
  pub few : length me.0.owns ≤ 1
  pub gate : me.0.gate ≡ Inside m
  pub leaf : me.0.leaf ≡ None
  pub lock : me.0.lock ≡ None
  pub upper : me.0.upper ≡ None

-- where a walk ends at a node whose slot gives the key this: a call that is no entry of the history is answered
abbrev pub IsEnd : MapCall ℕ → Option ℕ → ℕ → ℕ → Reached → Type 0
IsEnd call held node level (Answered reply) = (is_key_entry call held ≡ false) × (reply ≡ key_reply call held)
IsEnd call held node level (Stands n l) = (is_key_entry call held ≡ true) × (n ≡ node) × (l ≡ level)

-- the way down to a key ended: its call was answered, or the seat stands at the node whose slot for the key has no node
abbrev pub IsReached : MapCall ℕ → ℕ → ℕ → Reached → View → View → Type 0
IsReached call m key (Answered reply) before after = Answers m call reply 0 None before after
IsReached call m key (Stands node level) before after = (after ≡ standing before (Some (walk_at m key node level (length before.seen))) None) × HasWords before node 18 × (level < 8)

-- a seat made its call inside of a gate, and has cut off these nodes, which it left empty
abbrev pub AnswersAndPrunes : ℕ → MapCall ℕ → MapReply → ℕ → View → View → Type 0
AnswersAndPrunes m call reply words before after = (cut : List CutNode) × Answers m call reply words None (having_cut before cut) after

-- the same of a call from between two calls on
abbrev pub MakesAndPrunes : ℕ → MapCall ℕ → MapReply → ℕ → View → View → Type 0
MakesAndPrunes m call reply words before after = (cut : List CutNode) × MadeCall m call reply words (having_cut before cut) after

-- a seat made its call, or stands somewhere and has made none
abbrev pub MayHaveMade : ℕ → MapCall ℕ → Option Paid → View → View → Type 0
MayHaveMade m call None before after = (walk : Option Walk) × (after ≡ standing before walk None)
MayHaveMade m call (Some paid) before after = AnswersAndPrunes m call paid.reply paid.words before after
