-- Maps and atomics for one thread, as a machine: the maps in slots, and the atomics' numbers.
use Rattle.std.specs.Prelude.{ℕ, false, cond, nat_lt, List, length, map, replicate, Option, Some, None, slice_get, slice_set}
use Rattle.sync_types.specs.declared.atomic_object.AtomicCall.{AtomicCall}
use Rattle.sync_types.specs.declared.atomic_object.AtomicKind.{AtomicKind}
use Rattle.sync_types.specs.declared.atomic_object.Number.{Number}
use Rattle.sync_types.specs.declared.map_object.MapCall.{MapCall}
use Rattle.sync_model.specs.declared.item.SharedCall.{SharedCall}
use Rattle.sync_model.specs.declared.item.SharedCall.TheVariants as calls
use Rattle.sync_model.specs.declared.item.SharedReply.TheVariants as replies
use Rattle.sync_types.specs.SequentialMap.{map_reply, is_map_entry}
use Rattle.sync_types.specs.SequentialAtomic.{zero_of, kind_of, is_atomic_call, atomic_reply, atomic_after, is_atomic_entry}
use Rattle.sync_model.specs.SharedHistory.{Contents}
use Rattle.shared_plain.specs.declared.event.Event.{Event}
use Rattle.shared_plain.specs.declared.event.Event.TheVariants.{Map, Begin, Next, Atomic}
use Rattle.shared_plain.specs.declared.event.Answered.{Answered}
use Rattle.shared_plain.specs.Slots.{map_of, slots_after, has_slot, next_pair}

-- the slots of each map, and the numbers that the atomics hold
pub record Holdings : Type 0 where
  pub maps : List (List (Option ℕ))
  pub numbers : List Number

-- at the start no slot of so many keys has a value, and each atomic is 0, or false
abbrev pub first_holdings : ℕ → ℕ → List AtomicKind → Holdings
first_holdings maps keys kinds = record { maps = replicate maps (replicate keys None); numbers = map zero_of kinds }

-- what they contain, as the shared history sees it
abbrev pub contents_of : Holdings → Contents
contents_of h = record { maps = map map_of h.maps; numbers = h.numbers }

-- the shared call that an event is
abbrev pub call_of : Event → SharedCall
call_of (Map m call) = calls.Map m call
call_of (Begin m) = calls.Begin m
call_of (Next m begin from) = calls.Next begin
call_of (Atomic a call) = calls.Atomic a call

-- what a map of these slots answers, if the call's key has one: as `sync.Map` answers one thread
abbrev pub map_answer : MapCall ℕ → List (Option ℕ) → Option Answered
map_answer call slots = cond (has_slot call slots) (Some (record { reply = replies.Map (map_reply call (map_of slots)); entry = is_map_entry call (map_of slots) })) None

-- a call on a map, if there is one of its number
abbrev pub map_next : Holdings → ℕ → MapCall ℕ → Option (List (Option ℕ)) → Holdings × Option Answered
map_next h m call None = (h, None)
map_next h m call (Some slots) = (record h { maps = slice_set h.maps m (slots_after call slots) }, map_answer call slots)

-- a cursor's step, if there is a map of its number
abbrev pub cursor_next : ℕ → Option (List (Option ℕ)) → Option Answered
cursor_next from None = None
cursor_next from (Some slots) = Some (record { reply = replies.Shown (next_pair from slots); entry = false })

-- what an atomic that holds this answers, if its type has the call
abbrev pub atomic_answer : AtomicCall → Number → Option Answered
atomic_answer call held = cond (is_atomic_call (kind_of held) call) (Some (record { reply = replies.Atomic (atomic_reply call held); entry = is_atomic_entry call held })) None

-- what it then holds
abbrev pub number_after : AtomicCall → Number → Number
number_after call held = cond (is_atomic_call (kind_of held) call) (atomic_after call held) held

-- a call on an atomic, if there is one of its number
abbrev pub atomic_next : Holdings → ℕ → AtomicCall → Option Number → Holdings × Option Answered
atomic_next h a call None = (h, None)
atomic_next h a call (Some held) = (record h { numbers = slice_set h.numbers a (number_after call held) }, atomic_answer call held)

-- what an event does, whoever makes it. One that names no map or atomic here, or a key or number that doesn't fit, changes nothing and is answered None
abbrev pub next : Holdings → ℕ → Event → Holdings × Option Answered
next h caller (Map m call) = map_next h m call (slice_get h.maps m)
next h caller (Begin m) = (h, cond (nat_lt m (length h.maps)) (Some (record { reply = replies.Begun; entry = false })) None)
next h caller (Next m begin from) = (h, cursor_next from (slice_get h.maps m))
next h caller (Atomic a call) = atomic_next h a call (slice_get h.numbers a)
