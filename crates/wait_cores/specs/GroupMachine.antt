-- The machine of `sync.WaitGroup`. Go's documentation says: if the counter becomes zero, all goroutines blocked on Wait are
-- released; if the counter goes negative, Add panics; and new Add calls must happen after all previous Wait calls have returned.
use Rattle.std.specs.Prelude.{ℕ, ◌-◌, ◌^◌, ℤ, pos, negsuc, ◌+ℤ◌, ◌==◌, Bool, true, false, not, ◌||◌, nat_lt, nat_le, if◌then◌else◌, List, length, map, replicate, slice_get, slice_set, unwrap_or, Option, Some, None, Result, Ok, Err}
use Rattle.std.specs.List.{list_any}
use Rattle.sync_types.specs.declared.misuse.Misuse.{Misuse}
use Rattle.sync_types.specs.declared.misuse.Misuse.TheVariants.{NegativeWaitGroupCounter, WaitGroupReused}
use Rattle.wait_cores.specs.declared.group.GroupEvent.{GroupEvent}
use Rattle.wait_cores.specs.declared.group.GroupEvent.TheVariants.{Add, Wait, Leave}
use Rattle.wait_cores.specs.declared.group.GroupReply.{GroupReply}
use Rattle.wait_cores.specs.declared.group.GroupReply.TheVariants.{Done, Queued, Misused, Still}
use Rattle.wait_cores.specs.declared.group.GroupPlace.{GroupPlace}
use Rattle.wait_cores.specs.declared.group.GroupPlace.TheVariants.{Out, Waiting, Released}
use Rattle.wait_cores.specs.declared.group.GroupWait.{GroupWait}
use Rattle.wait_cores.specs.declared.group.GroupWait.TheVariants as waited

-- the counter, and where each caller stands
pub record GroupState : Type 0 where
  pub counter : ℕ
  pub places : List GroupPlace

-- the counter is 0, and nobody waits
abbrev pub start : ℕ → GroupState
start callers = record { counter = 0; places = replicate callers Out }

-- how many callers the group is for
abbrev pub callers_of : GroupState → ℕ
callers_of state = length state.places

-- where a caller stands
abbrev pub place_of : GroupState → ℕ → GroupPlace
place_of state caller = unwrap_or (slice_get state.places caller) Out

abbrev pub is_waiting : GroupPlace → Bool
is_waiting Waiting = true
is_waiting Out = false
is_waiting Released = false

-- where a caller stands once those who wait are released
abbrev pub released : GroupPlace → GroupPlace
released Waiting = Released
released Out = Out
released Released = Released

-- the sum, where it may be a counter: 0 to 2^31 - 1
abbrev pub within : ℤ → Option ℕ
within (pos sum) = if nat_le sum (2 ^ 31 - 1) then Some sum else None
within (negsuc below) = None

-- the sum is the counter, and at 0 all are released; where it may be none, nothing changes
abbrev pub added : Option ℕ → GroupState → GroupState × GroupReply
added (Some counter) state = (record { counter = counter; places = if counter == 0 then map released state.places else state.places }, Done)
added None state = (state, Misused NegativeWaitGroupCounter)

-- a caller that is out returns at once where the counter is 0, and waits else
abbrev pub wait_from : GroupPlace → GroupState → ℕ → GroupState × GroupReply
wait_from Out state caller = if state.counter == 0 then (state, Done) else (record state { places = slice_set state.places caller Waiting }, Queued)
wait_from Waiting state caller = (state, Still)
wait_from Released state caller = (state, Still)

-- whether a group, some of whose waiters are released, is in use again
abbrev pub is_reused : GroupState → Bool
is_reused state = not (state.counter == 0) || list_any is_waiting state.places

-- a released caller is out afterwards, whether or not its leaving is a misuse
abbrev pub leave_from : GroupPlace → GroupState → ℕ → GroupState × GroupReply
leave_from Released state caller = (record state { places = slice_set state.places caller Out }, if is_reused state then Misused WaitGroupReused else Done)
leave_from Out state caller = (state, Still)
leave_from Waiting state caller = (state, Still)

-- what each event of one of the callers does
abbrev pub made : GroupState → ℕ → GroupEvent → GroupState × GroupReply
made state caller (Add delta) = added (within (pos state.counter +ℤ delta)) state
made state caller Wait = wait_from (place_of state caller) state caller
made state caller Leave = leave_from (place_of state caller) state caller

-- the state and the reply after an event. A caller that isn't one of the group's changes nothing
abbrev pub next : GroupState → ℕ → GroupEvent → GroupState × GroupReply
next state caller event = if nat_lt caller (callers_of state) then made state caller event else (state, Still)

-- the machine's replies that the answers of the calls are
abbrev pub reply_of_wait : GroupWait → GroupReply
reply_of_wait waited.Done = Done
reply_of_wait waited.Queued = Queued

abbrev pub reply_of_result : Result Unit Misuse → GroupReply
reply_of_result (Ok done) = Done
reply_of_result (Err misuse) = Misused misuse
