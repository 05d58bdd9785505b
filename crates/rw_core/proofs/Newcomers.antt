-- A writer that arrives at an open lock has it at once, whatever its moment.
use Rattle.std.proofs.Common.{◌≡◌, ℕ, ◌==◌, ◌&&◌, Bool, true, false, refl, ap, ◌∙◌}
use Rattle.std.specs.Prelude.{nat_lt, if◌then◌else◌}
use Rattle.std.proofs.lemmas.Bool.{false≢true}
use Rattle.mutex_core.specs.MutexMachine as mutex
use Rattle.mutex_core.specs.declared.event.MutexEvent.TheVariants as mutex_event
use Rattle.mutex_core.specs.declared.place.Place.TheVariants as mutex_place
use Rattle.mutex_core.specs.declared.reply.MutexReply.{MutexReply}
use Rattle.mutex_core.specs.declared.reply.MutexReply.TheVariants as mutex_reply
use Rattle.mutex_core.specs.declared.reply.Arrival.TheVariants as mutex_arrival
use Rattle.rw_core.specs.declared.event.RwEvent.TheVariants.{WriteArrive}
use Rattle.rw_core.specs.declared.place.Place.{Place}
use Rattle.rw_core.specs.declared.place.Place.TheVariants as place
use Rattle.rw_core.specs.declared.reply.RwReply.{RwReply}
use Rattle.rw_core.specs.declared.reply.RwReply.TheVariants.{Arrived}
use Rattle.rw_core.specs.declared.reply.Arrival.TheVariants.{Acquired, Queued}
use Rattle.rw_core.specs.declared.writer.Writer.TheVariants as writer
use Rattle.rw_core.specs.RwMachine.{State, still, is_open, write_arrived, at_place, place_of, next, IsValid}
use Rattle.rw_core.proofs.Places.{mutex-out, out-inner}

abbrev Came : Type 0
Came = State × RwReply

abbrev Inner : Type 0
Inner = mutex.State × MutexReply

both : (a b : Bool) → (a && b) ≡ true → (a ≡ true) × (b ≡ true)
both true b is = (refl, is)
both false b is = absurd (false≢true is)

-- what the mutex's laws say of a newcomer
abbrev AnyMoment : Type 0
AnyMoment = (s : mutex.State) (caller now other : ℕ) → mutex.is_open s ≡ true → mutex.next s caller (mutex_event.Arrive now) ≡ mutex.next s caller (mutex_event.Arrive other)

abbrev AtOnce : Type 0
AtOnce = (s : mutex.State) (caller now : ℕ) → mutex.is_open s ≡ true → nat_lt caller s.callers ≡ true → mutex.place_of s caller ≡ mutex_place.Out → (mutex.next s caller (mutex_event.Arrive now)).1 ≡ mutex_reply.Arrived mutex_arrival.Acquired

abbrev Same : Type 0
Same = (s : mutex.State) (caller now other : ℕ) → (mutex.next s caller (mutex_event.Arrive now)).1 ≡ mutex_reply.Arrived mutex_arrival.Acquired → mutex.next s caller (mutex_event.Arrive other) ≡ mutex.next s caller (mutex_event.Arrive now)

any_at : (s : State) (caller now other : ℕ) → AnyMoment → is_open s ≡ true → (p : Place) → ◌≡◌ {A = Came} (at_place (WriteArrive now) p caller s) (at_place (WriteArrive other) p caller s)
any_at s caller now other law free place.Out = ap (λ (inner : Inner). write_arrived inner caller s) (law s.inner caller now other (both (s.readers == 0) (mutex.is_open s.inner) free).1)
any_at s caller now other law free place.Queued = refl
any_at s caller now other law free place.Woken = refl
any_at s caller now other law free place.Handed = refl
any_at s caller now other law free place.Waiting = refl
any_at s caller now other law free place.Granted = refl
any_at s caller now other law free place.Admitted = refl

pub any_moment : AnyMoment → (s : State) (caller now other : ℕ) → is_open s ≡ true → next s caller (WriteArrive now) ≡ next s caller (WriteArrive other)
any_moment law s caller now other free = ap (λ (came : Came). if nat_lt caller s.callers then came else still s) (any_at s caller now other law free (place_of s caller))

enters : (s : State) (caller : ℕ) (inner : mutex.State) (reply : MutexReply) → reply ≡ mutex_reply.Arrived mutex_arrival.Acquired → (s.readers == 0) ≡ true → (write_arrived (inner, reply) caller s).1 ≡ Arrived Acquired
enters s caller inner reply is none =
    let by : Bool → Came = λ unread. if unread then (record s { inner = inner; writer = writer.Holding }, Arrived Acquired) else (record s { inner = inner; writer = writer.Waiting caller }, Arrived Queued) in
    ap (λ (r : MutexReply). (write_arrived (inner, r) caller s).1) is ∙ ap (λ (unread : Bool). (by unread).1) none

unqueued_at : (s : State) (caller now : ℕ) → AtOnce → IsValid s → is_open s ≡ true → nat_lt caller s.callers ≡ true → (p : Place) → place_of s caller ≡ p → (at_place (WriteArrive now) p caller s).1 ≡ Arrived Queued → ⊥
unqueued_at s caller now law valid free may place.Out out is =
    let two = both (s.readers == 0) (mutex.is_open s.inner) free in
    let inner = mutex.next s.inner caller (mutex_event.Arrive now) in
    let has = law s.inner caller now two.1 (ap (λ (n : ℕ). nat_lt caller n) valid.same_callers ∙ may) (mutex-out (mutex.place_of s.inner caller) (out-inner s caller out).inner) in
    let at_once = enters s caller inner.0 inner.1 has two.0 in
    (cc)
unqueued_at s caller now law valid free may place.Queued out is = cc
unqueued_at s caller now law valid free may place.Woken out is = cc
unqueued_at s caller now law valid free may place.Handed out is = cc
unqueued_at s caller now law valid free may place.Waiting out is = cc
unqueued_at s caller now law valid free may place.Granted out is = cc
unqueued_at s caller now law valid free may place.Admitted out is = cc

guarded : (s : State) (may : Bool) (came : Came) → (may ≡ true → came.1 ≡ Arrived Queued → ⊥) → (if may then came else still s).1 ≡ Arrived Queued → ⊥
guarded s true came never is = never refl is
guarded s false came never is = cc

pub unqueued : AtOnce → (s : State) (caller now : ℕ) → IsValid s → is_open s ≡ true → (next s caller (WriteArrive now)).1 ≡ Arrived Queued → ⊥
unqueued law s caller now valid free is =
    guarded s (nat_lt caller s.callers) (at_place (WriteArrive now) (place_of s caller) caller s) (λ may. unqueued_at s caller now law valid free may (place_of s caller) refl) is

-- who acquires the lock on arrival acquired the inner mutex so
inner_acquired : (s : State) (caller : ℕ) (inner : mutex.State) (reply : MutexReply) → (write_arrived (inner, reply) caller s).1 ≡ Arrived Acquired → reply ≡ mutex_reply.Arrived mutex_arrival.Acquired
inner_acquired s caller inner (mutex_reply.Arrived mutex_arrival.Acquired) is = refl
inner_acquired s caller inner (mutex_reply.Arrived (mutex_arrival.Queued ticket)) is = cc
inner_acquired s caller inner (mutex_reply.Tried took) is = cc
inner_acquired s caller inner (mutex_reply.Unlocked unlocking) is = cc
inner_acquired s caller inner (mutex_reply.Resumed resumption) is = cc
inner_acquired s caller inner mutex_reply.Still is = cc

acquired_at : (s : State) (caller now other : ℕ) → Same → (p : Place) → (at_place (WriteArrive now) p caller s).1 ≡ Arrived Acquired → ◌≡◌ {A = Came} (at_place (WriteArrive other) p caller s) (at_place (WriteArrive now) p caller s)
acquired_at s caller now other law place.Out is =
    let inner = mutex.next s.inner caller (mutex_event.Arrive now) in
    ap (λ (z : Inner). write_arrived z caller s) (law s.inner caller now other (inner_acquired s caller inner.0 inner.1 is))
acquired_at s caller now other law place.Queued is = refl
acquired_at s caller now other law place.Woken is = refl
acquired_at s caller now other law place.Handed is = refl
acquired_at s caller now other law place.Waiting is = refl
acquired_at s caller now other law place.Granted is = refl
acquired_at s caller now other law place.Admitted is = refl

by_guard : (may : Bool) (x y z : Came) → (x.1 ≡ Arrived Acquired → ◌≡◌ {A = Came} y x) → (if may then x else z).1 ≡ Arrived Acquired → ◌≡◌ {A = Came} (if may then y else z) (if may then x else z)
by_guard true x y z same is = same is
by_guard false x y z same is = refl

pub acquired : Same → (s : State) (caller now other : ℕ) → (next s caller (WriteArrive now)).1 ≡ Arrived Acquired → ◌≡◌ {A = State × RwReply} (next s caller (WriteArrive other)) (next s caller (WriteArrive now))
acquired law s caller now other is = by_guard (nat_lt caller s.callers) (at_place (WriteArrive now) (place_of s caller) caller s) (at_place (WriteArrive other) (place_of s caller) caller s) _ (acquired_at s caller now other law (place_of s caller)) is
