-- What shared maps and atomics promise to each of their callers, and to all of them at the end.
use Rattle.std.specs.Prelude.{◌≡◌, ℕ, zero, suc, ◌+◌, ◌^◌, ◌<◌, ◌≤◌, true, List, [], ◌∷◌, ◌++◌, length, Option, Some, None, IsSome, slice_get, slice_index}
use Rattle.sync_types.specs.declared.atomic_object.AtomicKind.{AtomicKind}
use Rattle.sync_types.specs.declared.atomic_object.AtomicCall.{AtomicCall}
use Rattle.sync_types.specs.declared.map_object.MapCall.{MapCall}
use Rattle.sync_types.specs.declared.map_object.MapCall.TheVariants.{Load, Store, LoadOrStore, LoadAndDelete, Delete, Swap, CompareAndSwap, CompareAndDelete, Clear}
use Rattle.sync_model.specs.declared.item.SharedCall.{SharedCall}
use Rattle.sync_model.specs.declared.item.SharedReply.{SharedReply}
use Rattle.sync_model.specs.declared.item.SharedEntry.{SharedEntry}
use Rattle.sync_model.specs.declared.item.Item.{Item}
use Rattle.sync_model.specs.declared.caller.Caller.{Caller}
use Rattle.sync_types.specs.SequentialMap.{map_key}
use Rattle.sync_types.specs.SequentialAtomic.{is_atomic_call}
use Rattle.sync_model.specs.Front.{Front, AtLeast, NoLess}
use Rattle.sync_model.specs.Journal.{Begins}
use Rattle.sync_model.specs.Note.{Holding}
use Rattle.sync_model.specs.SharedHistory.{Contents, contents_at, IsReply, is_entry, IsLegal, entry_of, entries_by, marked_in}
use Rattle.sync_model.specs.SharedCalls.{bound, Lawful}
use Rattle.sync_model.specs.SharedOrder.{InOrder}

-- the values in a call, which are 0 to 2^63 - 1
abbrev pub values_of : {K : Type 0} → MapCall K → List ℕ
values_of (Load key) = []
values_of (Store key value) = value ∷ []
values_of (LoadOrStore key value) = value ∷ []
values_of (LoadAndDelete key) = []
values_of (Delete key) = []
values_of (Swap key value) = value ∷ []
values_of (CompareAndSwap key old new) = old ∷ new ∷ []
values_of (CompareAndDelete key old) = old ∷ []
values_of Clear = []

-- how many of its caller's spare entries a call on a map takes: a load none, and every other one, whatever it answers
abbrev pub cost_of : {K : Type 0} → MapCall K → ℕ
cost_of (Load key) = 0
cost_of (Store key value) = 1
cost_of (LoadOrStore key value) = 1
cost_of (LoadAndDelete key) = 1
cost_of (Delete key) = 1
cost_of (Swap key value) = 1
cost_of (CompareAndSwap key old new) = 1
cost_of (CompareAndDelete key old) = 1
cost_of Clear = 1

-- a call whose key is taken, and whose values are in range
pub record IsMapCall (takes : ℕ → Type 0) (call : MapCall ℕ) : Type 0 where
  pub key : (key : ℕ) → map_key call ≡ Some key → takes key
  pub values : (i value : ℕ) → slice_get (values_of call) i ≡ Some value → value < 2 ^ 63

-- a call that an atomic has, which is number a of these types
pub record IsAtomicCall (kinds : List AtomicKind) (a : ℕ) (call : AtomicCall) : Type 0 where
  pub kind : AtomicKind
  pub at : slice_get kinds a ≡ Some kind
  pub has : is_atomic_call kind call ≡ true

-- a caller, as contracts see its note: whose it is with all its calls, its front's counts, the number of its last event, and how much of the history it has seen
pub record CallerState : Type 0 where
  pub own : Option Holding
  pub front : List ℕ
  pub time : ℕ
  pub seen : List SharedEntry

-- one shared call of a caller, from one state to the next: it adds one item to the caller's own list, and is answered as by the objects for one thread at its place in the history that the caller has then seen
pub record Called (start : Contents) (call : SharedCall) (reply : SharedReply) (cost : ℕ) (old new : CallerState) : Type 0 where
  pub was : Holding
  pub becomes : Holding
  pub item : Item
  pub own_old : old.own ≡ Some was
  pub own_new : new.own ≡ Some becomes
  pub number : becomes.number ≡ was.number
  pub items : becomes.items ≡ was.items ++ item ∷ []
  pub spare : becomes.spare + cost ≡ was.spare
  pub is_call : item.call ≡ call
  pub is_reply : item.reply ≡ reply
  pub is_front : item.front ≡ old.front
  -- the new front counts the call
  pub counted : slice_index new.front was.number ≡ length becomes.items
  pub rises : AtLeast new.front old.front
  -- its number in the one order of all events, which is past that of the caller's last event; the next one's will be past it
  pub time : ℕ
  pub times : becomes.times ≡ was.times ++ time ∷ []
  pub past : old.time < time
  pub reached : time ≤ new.time
  -- it forgets nothing of the history, and its place lies between what the caller had seen before and what it has seen after
  pub begins : Begins new.seen old.seen
  pub from : length old.seen ≤ item.place
  pub to : item.place ≤ length new.seen
  -- it lies behind all earlier calls of its caller
  pub after : (j : ℕ) (x : Item) → slice_get was.items j ≡ Some x → bound x ≤ item.place
  pub legal : IsLegal start new.seen
  pub answer : IsReply call reply (contents_at start new.seen item.place)
  -- where it is an entry, it is the one with the number of its place
  pub entry : item.entry ≡ is_entry call (contents_at start new.seen item.place)
  pub marked : item.entry ≡ true → slice_get new.seen item.place ≡ Some (entry_of was.number item)
  -- the caller has seen all its own entries, and no others with its number
  pub mine : marked_in was.number becomes.items ≡ entries_by was.number new.seen

-- the holder's number is this
abbrev pub IsHeldBy : ℕ → Option Holding → Type 0
IsHeldBy c own = (holding : Holding) × (own ≡ Some holding) × (holding.number ≡ c)

-- the calls that a holder made, and their numbers; none, where there is no holder
abbrev pub items_of : Option Holding → List Item
items_of None = []
items_of (Some holding) = holding.items

abbrev pub times_by : Option Holding → List ℕ
times_by None = []
times_by (Some holding) = holding.times

module _ {H N : Type 0} (at : H → N → Type 0) (own : N → Option Holding) (home : H) where
  -- a caller of this home: its note is of the home, and its own
  abbrev pub IsCallerAt : Caller N → Type 0
  IsCallerAt caller = at home caller.note × IsSome (own caller.note)

  -- all callers of this home, so many, in order of number
  pub record AreAllCallers (callers : List (Caller N)) (count : ℕ) : Type 0 where
    pub all : length callers ≡ count
    pub each : (i : ℕ) (caller : Caller N) → slice_get callers i ≡ Some caller → at home caller.note × IsHeldBy i (own caller.note)

module _ {N : Type 0} (own : N → Option Holding) where
  -- the calls of each caller, of callers in order of number
  abbrev pub calls_of : List (Caller N) → ℕ → List Item
  calls_of [] c = []
  calls_of (caller ∷ callers) zero = items_of (own caller.note)
  calls_of (caller ∷ callers) (suc c) = calls_of callers c

  -- and their numbers
  abbrev pub times_of : List (Caller N) → ℕ → List ℕ
  times_of [] c = []
  times_of (caller ∷ callers) zero = times_by (own caller.note)
  times_of (caller ∷ callers) (suc c) = times_of callers c

module _ {N : Type 0} (own : N → Option Holding) (front : N → Front) (seen : N → List SharedEntry) where
  -- what contracts see of a note
  abbrev pub state_of : N → CallerState
  state_of note = record { own = own note; front = (front note).counts; time = (front note).time; seen = seen note }

  -- the same callers, who made no call, and know no less
  pub record SameCalls (old new : List (Caller N)) : Type 0 where
    pub count : length new ≡ length old
    pub same : (i : ℕ) (before after : Caller N) → slice_get old i ≡ Some before → slice_get new i ≡ Some after → own after.note ≡ own before.note
    pub rises : (i : ℕ) (before after : Caller N) → slice_get old i ≡ Some before → slice_get new i ≡ Some after → NoLess (front after.note) (front before.note)
    pub begins : (i : ℕ) (before after : Caller N) → slice_get old i ≡ Some before → slice_get new i ≡ Some after → Begins (seen after.note) (seen before.note)

  -- callers who have all seen one history, which is lawful with their own calls and in the one order of all events with them; no front counts a call that wasn't made
  pub record Settled (start : Contents) (callers : List (Caller N)) : Type 0 where
    pub history : List SharedEntry
    pub all : (i : ℕ) (caller : Caller N) → slice_get callers i ≡ Some caller → seen caller.note ≡ history
    pub lawful : Lawful start history (calls_of own callers)
    pub entry_times : List ℕ
    pub order : InOrder history (calls_of own callers) entry_times (times_of own callers)
    pub fronts : (i c : ℕ) (caller : Caller N) → slice_get callers i ≡ Some caller → slice_index (front caller.note).counts c ≤ length (calls_of own callers c)
