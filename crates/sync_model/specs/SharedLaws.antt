-- The words of the laws of shared histories.
use Rattle.std.specs.Prelude.{◌≡◌, ℕ, ◌+◌, ◌≤◌, Bool, true, false, ◌&&◌, ◌==◌, ◌<◌, cond, List, [], ◌∷◌, ◌++◌, length, take, Option, Some, All, slice_index, max}
use Rattle.std.specs.Option.{option_map_or}
use Rattle.sync_model.specs.declared.item.SharedCall.{SharedCall}
use Rattle.sync_model.specs.declared.item.SharedCall.TheVariants.{Map, Begin, Next, Atomic}
use Rattle.sync_model.specs.declared.item.SharedReply.TheVariants as replies
use Rattle.sync_model.specs.declared.item.SharedEntry.{SharedEntry}
use Rattle.sync_types.specs.declared.atomic_object.Number.{Number}
use Rattle.sync_types.specs.declared.map_object.MapCall.TheVariants.{Load, Store}
use Rattle.sync_types.specs.declared.map_object.MapReply.{MapReply}
use Rattle.sync_types.specs.declared.map_object.MapReply.TheVariants.{Found}
use Rattle.sync_model.specs.declared.item.Item.{Item}
use Rattle.sync_model.specs.Front.{AtLeast}
use Rattle.sync_model.specs.Journal.{Begins}
use Rattle.sync_model.specs.Note.{Holding}
use Rattle.sync_types.specs.KeyCalls.{key_after}
use Rattle.sync_types.specs.SequentialAtomic.{atomic_after}
use Rattle.sync_types.specs.SequentialMap.{map_key}
use Rattle.sync_model.specs.SharedCalls.{bound}
use Rattle.sync_model.specs.Shared.{CallerState, items_of}

-- whether a call is on this key of this map, or on all its keys
abbrev pub is_on_key : ℕ → ℕ → SharedCall → Bool
is_on_key m key (Map n call) = (n == m) && option_map_or (λ k. k == key) (map_key call) true
is_on_key m key (Begin n) = false
is_on_key m key (Next begin) = false
is_on_key m key (Atomic a call) = false

-- whether a call is on this atomic
abbrev pub is_on_atomic : ℕ → SharedCall → Bool
is_on_atomic a (Map m call) = false
is_on_atomic a (Begin m) = false
is_on_atomic a (Next begin) = false
is_on_atomic a (Atomic b call) = b == a

-- no entry here is on this key of this map
abbrev pub LeaveKey : ℕ → ℕ → List SharedEntry → Type 0
LeaveKey m key entries = All (λ entry. is_on_key m key entry.call ≡ false) entries

-- no entry here is on this atomic
abbrev pub LeaveAtomic : ℕ → List SharedEntry → Type 0
LeaveAtomic a entries = All (λ entry. is_on_atomic a entry.call ≡ false) entries

-- what a call that is on a key leaves there, and one that is on an atomic
abbrev pub value_left : SharedCall → Option ℕ → Option ℕ
value_left (Map m call) held = key_after call held
value_left (Begin m) held = held
value_left (Next begin) held = held
value_left (Atomic a call) held = held

abbrev pub number_left : SharedCall → Number → Number
number_left (Map m call) held = held
number_left (Begin m) held = held
number_left (Next begin) held = held
number_left (Atomic a call) held = atomic_after call held

-- what a key of a map has, and what an atomic holds, when entries are played one after the other to it alone: those on other keys, maps and atomics pass it by
abbrev pub value_by : ℕ → ℕ → Option ℕ → List SharedEntry → Option ℕ
value_by m key held [] = held
value_by m key held (entry ∷ later) = value_by m key (cond (is_on_key m key entry.call) (value_left entry.call held) held) later

abbrev pub number_by : ℕ → Number → List SharedEntry → Number
number_by a held [] = held
number_by a held (entry ∷ later) = number_by a (cond (is_on_atomic a entry.call) (number_left entry.call held) held) later

-- a front that counts no more than one of two fronts does: that of a note which took in another
abbrev pub IsWithinBoth : List ℕ → List ℕ → List ℕ → Type 0
IsWithinBoth both first second = (c : ℕ) → slice_index both c ≤ max (slice_index first c) (slice_index second c)

-- two states in which contracts see the same
pub record SameState (one other : CallerState) : Type 0 where
  pub own : other.own ≡ one.own
  pub front : other.front ≡ one.front
  pub time : other.time ≡ one.time
  pub seen : other.seen ≡ one.seen

-- a caller's state takes in one more call of its own: what `Called` says of the state alone
pub record TakesIn (x : Item) (cost : ℕ) (old new : CallerState) : Type 0 where
  pub was : Holding
  pub becomes : Holding
  pub own_old : old.own ≡ Some was
  pub own_new : new.own ≡ Some becomes
  pub number : becomes.number ≡ was.number
  pub items : becomes.items ≡ was.items ++ x ∷ []
  pub spare : becomes.spare + cost ≡ was.spare
  pub is_front : x.front ≡ old.front
  pub counted : slice_index new.front was.number ≡ length becomes.items
  pub rises : AtLeast new.front old.front
  pub time : ℕ
  pub times : becomes.times ≡ was.times ++ time ∷ []
  pub past : old.time < time
  pub reached : time ≤ new.time
  pub begins : Begins new.seen old.seen
  pub from : length old.seen ≤ x.place
  -- it has seen the call's entry, where it is one
  pub to : bound x ≤ length new.seen

-- a caller stored a value and then loaded the key. The load lies behind the store, and answers the value, where no entry between the two is on the key
pub record FindsItsStore (m key value : ℕ) (reply : MapReply) (old new : CallerState) : Type 0 where
  pub store : Item
  pub load : Item
  pub items : items_of new.own ≡ items_of old.own ++ store ∷ load ∷ []
  pub stores : store.call ≡ Map m (Store key value)
  pub loads : load.call ≡ Map m (Load key)
  pub replies : load.reply ≡ replies.Map reply
  pub behind : store.place < load.place
  pub finds : (earlier between : List SharedEntry) (entry : SharedEntry) → take load.place new.seen ≡ earlier ++ entry ∷ between → length earlier ≡ store.place → LeaveKey m key between → reply ≡ Found (Some value)

-- a caller began a cursor over a map, made another call, and then a step of the cursor, which lies behind its begin
pub record StepsOn (m : ℕ) (shown : Option (ℕ × ℕ)) (old new : CallerState) : Type 0 where
  pub begin : Item
  pub other : Item
  pub step : Item
  pub items : items_of new.own ≡ items_of old.own ++ begin ∷ other ∷ step ∷ []
  pub begins : begin.call ≡ Begin m
  pub steps : step.call ≡ Next (length (items_of old.own))
  pub replies : step.reply ≡ replies.Shown shown
  pub behind : begin.place ≤ step.place
