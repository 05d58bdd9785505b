-- There is room for one more where a caller is out of the queue.
use Rattle.std.proofs.Common.{◌≡◌, ℕ, ◌<◌, ◌≤◌, List, [], ◌∷◌, length, false, arith, length-append}
use Rattle.mutex_core.specs.declared.place.Place.TheVariants as place
use Rattle.mutex_core.specs.declared.waiter.Waiter.{Waiter}
use Rattle.mutex_core.specs.declared.waiter.Flight.{Flight}
use Rattle.mutex_core.specs.declared.waiter.Flight.TheVariants as flight
use Rattle.mutex_core.specs.MutexMachine.{State, place_of, waiting_by, IsValid}
use Rattle.mutex_core.proofs.Waiting.{length-callers_of, length-apart}
use Rattle.mutex_core.proofs.Validity.{queued-valid}

length-waiting_by : (f : Flight) (q : List Waiter) → length q ≤ length (waiting_by f q)
length-waiting_by flight.Nobody q = omega (arith, length-callers_of q)
length-waiting_by (flight.Woken w) q = omega (arith, length-callers_of q)
length-waiting_by flight.Handed q = omega (arith, length-callers_of q)

-- a valid state's queue is no longer than there are callers
pub length-queue : (s : State) → IsValid s → length s.queue ≤ s.callers
length-queue s h = omega (arith, length-waiting_by s.flight s.queue, length-apart s.callers (waiting_by s.flight s.queue) h.callers h.apart)

-- a caller that is out can join the queue
pub room_for-out : (s : State) (c : ℕ) → IsValid s → c < s.callers → place_of s c ≡ place.Out → length s.queue < s.callers
room_for-out s c h below out =
    let w : Waiter = record { caller = c; arrival = 0; asked = false } in
    let joined = length-queue _ (queued-valid s.callers s.locked s.woken s.starving s.queue s.flight w below out h) in
    omega (arith, joined, length-append s.queue (w ∷ []))

-- a woken waiter can go back to the queue
pub room_for-woken : (s : State) (w : Waiter) → IsValid s → s.flight ≡ flight.Woken w → length s.queue < s.callers
room_for-woken s w h is =
    let below = length-apart s.callers (waiting_by s.flight s.queue) h.callers h.apart in
    omega (arith, rw is at below, length-callers_of s.queue)
