-- No list of those that wait is longer than there are callers.
use Rattle.std.proofs.Common.{◌≡◌, ℕ, ◌+◌, ◌<◌, ◌≤◌, [], ◌∷◌, ◌++◌, length, arith, length-append}
use Rattle.rw_core.specs.declared.place.Place.TheVariants as place
use Rattle.rw_core.specs.declared.writer.Writer.TheVariants as writer
use Rattle.rw_core.specs.RwMachine.{State, place_of, places_of, IsValid}
use Rattle.rw_core.proofs.Callers.{times_in-append, times_in-push, length-from_count}
use Rattle.rw_core.proofs.Validity.{enters}

-- a caller that is out can join the queue
pub queue_room : (s : State) (c : ℕ) → c < s.callers → place_of s c ≡ place.Out → IsValid s → length s.queue < s.callers
queue_room s c below out h =
    let en = enters s c below out h in
    let fits = length-from_count s.callers (s.queue ++ c ∷ [])
    (λ x. omega (arith, times_in-push x s.queue c, en.apart x)) (λ x above. omega (arith, times_in-push x s.queue c, en.among x above)) in
    omega (arith, fits, length-append s.queue (c ∷ []))

-- the writer that waits can be granted the lock
pub granted_room : (s : State) (w : ℕ) → s.writer ≡ writer.Waiting w → IsValid s → length s.granted < s.callers
granted_room s w is h =
    let apart : (x : ℕ) → places_of x (record s { writer = writer.Waiting w }) ≤ 1 = rw is at h.apart in
    let among : (x : ℕ) → s.callers ≤ x → places_of x (record s { writer = writer.Waiting w }) ≡ 0 = rw is at h.among in
    let fits = length-from_count s.callers (s.granted ++ w ∷ [])
    (λ x. omega (arith, times_in-push x s.granted w, apart x)) (λ x above. omega (arith, times_in-push x s.granted w, among x above)) in
    omega (arith, fits, length-append s.granted (w ∷ []))

-- all readers that wait can be admitted
pub admitted_room : (s : State) → IsValid s → length s.admitted + length s.queue ≤ s.callers
admitted_room s h =
    let fits = length-from_count s.callers (s.admitted ++ s.queue)
    (λ x. omega (arith, times_in-append x s.admitted s.queue, h.apart x)) (λ x above. omega (arith, times_in-append x s.admitted s.queue, h.among x above)) in
    omega (arith, fits, length-append s.admitted s.queue)
