-- Whether an event releases or acquires, by its answer: case by case, what Go documents.
use Rattle.std.proofs.Common.{◌≡◌, ◌↔◌, refl, sym, ap, ◌∙◌, ◌⊎◌, inl, inr, ⊎_elim, ℕ, ◌<◌, negsuc, Bool, true, false}
use Rattle.std.specs.Prelude.{if◌then◌else◌, nat_lt}
use Rattle.std.proofs.lemmas.Bool.{false≢true, cases_Bool, ltb-true}
use Rattle.flight_core.specs.declared.calls.FlightStand.{FlightStand}
use Rattle.flight_core.specs.declared.calls.FlightStand.TheVariants as stand
use Rattle.flight_core.specs.declared.event.FlightEvent.{FlightEvent}
use Rattle.flight_core.specs.declared.event.FlightEvent.TheVariants as on_flight
use Rattle.flight_core.specs.declared.event.FlightReply.{FlightReply}
use Rattle.flight_core.specs.declared.event.FlightReply.TheVariants as of_flight
use Rattle.flight_core.specs.FlightEdges.{flight_releases, flight_acquires}
use Rattle.flight_core.specs.FlightMachine as flights
use Rattle.flight_core.specs.FlightStanding as flight_standing
use Rattle.mutex_core.specs.declared.event.MutexEvent.{MutexEvent}
use Rattle.mutex_core.specs.declared.event.MutexEvent.TheVariants as on_mutex
use Rattle.mutex_core.specs.declared.reply.MutexReply.{MutexReply}
use Rattle.mutex_core.specs.declared.reply.MutexReply.TheVariants as of_mutex
use Rattle.mutex_core.specs.declared.reply.Arrival.TheVariants as arrival
use Rattle.mutex_core.specs.declared.reply.Resumption.TheVariants as resumption
use Rattle.mutex_core.specs.declared.reply.Unlocking.TheVariants as unlocking
use Rattle.mutex_core.specs.Edges as mutex
use Rattle.mutex_core.specs.Standing as mutex_standing
use Rattle.pool_core.specs.declared.pool_event.PoolEvent.{PoolEvent}
use Rattle.pool_core.specs.declared.pool_event.PoolEvent.TheVariants.{Put, LookOwn, LookOther, LookVictim}
use Rattle.pool_core.specs.declared.pool_event.PoolReply.{PoolReply}
use Rattle.pool_core.specs.declared.pool_event.PoolReply.TheVariants.{Kept, Item}
use Rattle.pool_core.specs.Edges.{pool_releases, pool_acquires}
use Rattle.pool_core.specs.PoolLaws as pool
use Rattle.rw_core.specs.declared.event.RwEvent.{RwEvent}
use Rattle.rw_core.specs.declared.event.RwEvent.TheVariants as on_rw
use Rattle.rw_core.specs.declared.reply.RwReply.{RwReply}
use Rattle.rw_core.specs.declared.reply.RwReply.TheVariants as of_rw
use Rattle.rw_core.specs.declared.reply.Arrival.TheVariants as rw_arrival
use Rattle.rw_core.specs.declared.reply.Resumption.TheVariants as rw_resumption
use Rattle.rw_core.specs.declared.reply.Unlocking.TheVariants as rw_unlocking
use Rattle.rw_core.specs.Edges as rw
use Rattle.rw_core.specs.Standing as rw_standing
use Rattle.sema_core.specs.declared.event.SemaEvent.{SemaEvent}
use Rattle.sema_core.specs.declared.event.SemaEvent.TheVariants as on_sema
use Rattle.sema_core.specs.declared.event.SemaReply.{SemaReply}
use Rattle.sema_core.specs.declared.event.SemaReply.TheVariants as of_sema
use Rattle.sema_core.specs.SemaEdges.{sema_releases, sema_acquires}
use Rattle.starts_core.specs.declared.starts.StartEvent.{StartEvent}
use Rattle.starts_core.specs.declared.starts.StartEvent.TheVariants as on_starts
use Rattle.starts_core.specs.declared.starts.StartReply.{StartReply}
use Rattle.starts_core.specs.declared.starts.StartReply.TheVariants as of_starts
use Rattle.starts_core.specs.StartsEdges.{starts_releases, starts_acquires}
use Rattle.wait_cores.specs.declared.group.GroupEvent.{GroupEvent}
use Rattle.wait_cores.specs.declared.group.GroupEvent.TheVariants as on_group
use Rattle.wait_cores.specs.declared.group.GroupReply.{GroupReply}
use Rattle.wait_cores.specs.declared.group.GroupReply.TheVariants as of_group
use Rattle.wait_cores.specs.GroupEdges.{group_releases, group_acquires}
use Rattle.wait_cores.specs.declared.notify.NotifyEvent.{NotifyEvent}
use Rattle.wait_cores.specs.declared.notify.NotifyEvent.TheVariants as on_cond
use Rattle.wait_cores.specs.declared.notify.NotifyReply.{NotifyReply}
use Rattle.wait_cores.specs.declared.notify.NotifyReply.TheVariants as of_cond
use Rattle.wait_cores.specs.NotifyEdges.{notify_releases, notify_acquires}
use Rattle.wait_cores.specs.declared.once.OnceEvent.{OnceEvent}
use Rattle.wait_cores.specs.declared.once.OnceEvent.TheVariants as on_once
use Rattle.wait_cores.specs.declared.once.OnceReply.{OnceReply}
use Rattle.wait_cores.specs.declared.once.OnceReply.TheVariants as of_once
use Rattle.wait_cores.specs.OnceEdges.{once_releases, once_acquires}
use Rattle.wait_cores.specs.OnceMachine.{OnceState, callers_of, made, next}
use Rattle.wait_cores.specs.OnceStanding as once
use Rattle.run_laws.specs.DocumentedEdges.{CondWaitGoesOn, Dones, FlightCallGoesOn, FlightLands, FunctionCompletes, Gets, GoStarts, GroupWaitReturns, Locks, Notifies, OnceCallReturns, Puts, RwLocks, RwUnlocks, SemaAcquires, SemaReleases, StartedGoes, Unlocks, WorkerEnds}

-- of a mutex
unlocks : (e : MutexEvent) (r : MutexReply) → mutex_standing.is_answer e r ≡ true → mutex.releases r ≡ true → Unlocks e r
unlocks on_mutex.Unlock (of_mutex.Unlocked unlocking.Free) answer frees = Unlocks.told_nobody
unlocks on_mutex.Unlock (of_mutex.Unlocked (unlocking.Woke waiter)) answer frees = Unlocks.woke waiter
unlocks on_mutex.Unlock (of_mutex.Unlocked (unlocking.Handed waiter)) answer frees = Unlocks.handed_on waiter
unlocks on_mutex.Unlock r answer frees = absurd (false≢true frees)
unlocks e (of_mutex.Unlocked u) answer frees = absurd (false≢true answer)
unlocks e r answer frees = absurd (false≢true frees)

unlocks_free : (e : MutexEvent) (r : MutexReply) → Unlocks e r → mutex.releases r ≡ true
unlocks_free e r Unlocks.told_nobody = refl
unlocks_free e r (Unlocks.woke waiter) = refl
unlocks_free e r (Unlocks.handed_on waiter) = refl

locks : (e : MutexEvent) (r : MutexReply) → mutex_standing.is_answer e r ≡ true → mutex.acquires r ≡ true → Locks e r
locks (on_mutex.Arrive now) (of_mutex.Arrived arrival.Acquired) answer takes = Locks.at_once now
locks on_mutex.Try (of_mutex.Tried true) answer takes = Locks.by_a_try
locks (on_mutex.Woken now) (of_mutex.Resumed resumption.Acquired) answer takes = Locks.after_waiting now
locks e (of_mutex.Arrived (arrival.Queued ticket)) answer takes = absurd (false≢true takes)
locks e (of_mutex.Tried false) answer takes = absurd (false≢true takes)
locks e (of_mutex.Resumed resumption.Requeued) answer takes = absurd (false≢true takes)
locks e (of_mutex.Unlocked u) answer takes = absurd (false≢true takes)
locks e of_mutex.Still answer takes = absurd (false≢true takes)
locks e r answer takes = absurd (false≢true answer)

locks_take : (e : MutexEvent) (r : MutexReply) → Locks e r → mutex.acquires r ≡ true
locks_take e r (Locks.at_once now) = refl
locks_take e r (Locks.after_waiting now) = refl
locks_take e r Locks.by_a_try = refl

-- where an event is answered at all, it is by an answer of its kind
pub of_a_mutex : (e : MutexEvent) (r : MutexReply) → (r ≡ of_mutex.Still) ⊎ (mutex_standing.is_answer e r ≡ true) → (mutex.releases r ≡ true ↔ Unlocks e r) × (mutex.acquires r ≡ true ↔ Locks e r)
of_a_mutex e r (inr answer) = ((unlocks e r answer, unlocks_free e r), (locks e r answer, locks_take e r))
of_a_mutex e r (inl still) = (
  ((λ frees. absurd (false≢true (sym (ap mutex.releases still) ∙ frees))), unlocks_free e r),
  ((λ takes. absurd (false≢true (sym (ap mutex.acquires still) ∙ takes))), locks_take e r),
)

-- of a reader/writer mutex
rw_unlocks : (e : RwEvent) (r : RwReply) → rw_standing.is_answer e r ≡ true → rw.releases r ≡ true → RwUnlocks e r
rw_unlocks on_rw.ReadUnlock (of_rw.Unlocked rw_unlocking.Done) answer frees = RwUnlocks.a_reader
rw_unlocks on_rw.WriteUnlock (of_rw.Unlocked rw_unlocking.Done) answer frees = RwUnlocks.a_writer
rw_unlocks e (of_rw.Unlocked (rw_unlocking.Misuse misuse)) answer frees = absurd (false≢true frees)
rw_unlocks e (of_rw.Unlocked rw_unlocking.Done) answer frees = absurd (false≢true answer)
rw_unlocks e r answer frees = absurd (false≢true frees)

rw_unlocks_free : (e : RwEvent) (r : RwReply) → RwUnlocks e r → rw.releases r ≡ true
rw_unlocks_free e r RwUnlocks.a_reader = refl
rw_unlocks_free e r RwUnlocks.a_writer = refl

rw_locks : (e : RwEvent) (r : RwReply) → rw_standing.is_answer e r ≡ true → rw.acquires r ≡ true → RwLocks e r
rw_locks on_rw.ReadArrive (of_rw.Arrived rw_arrival.Acquired) answer takes = RwLocks.a_reader_at_once
rw_locks (on_rw.WriteArrive now) (of_rw.Arrived rw_arrival.Acquired) answer takes = RwLocks.a_writer_at_once now
rw_locks on_rw.ReadTry (of_rw.Tried true) answer takes = RwLocks.a_reader_by_a_try
rw_locks on_rw.WriteTry (of_rw.Tried true) answer takes = RwLocks.a_writer_by_a_try
rw_locks (on_rw.WriteWoken now) (of_rw.Resumed rw_resumption.Acquired) answer takes = RwLocks.a_writer_behind_writers now
rw_locks on_rw.Leave of_rw.Left answer takes = RwLocks.whoever_was_let_in
rw_locks e (of_rw.Arrived rw_arrival.Queued) answer takes = absurd (false≢true takes)
rw_locks e (of_rw.Tried false) answer takes = absurd (false≢true takes)
rw_locks e (of_rw.Resumed rw_resumption.Queued) answer takes = absurd (false≢true takes)
rw_locks e (of_rw.Resumed rw_resumption.Requeued) answer takes = absurd (false≢true takes)
rw_locks e (of_rw.Unlocked u) answer takes = absurd (false≢true takes)
rw_locks e of_rw.Still answer takes = absurd (false≢true takes)
rw_locks e r answer takes = absurd (false≢true answer)

rw_locks_take : (e : RwEvent) (r : RwReply) → RwLocks e r → rw.acquires r ≡ true
rw_locks_take e r RwLocks.a_reader_at_once = refl
rw_locks_take e r RwLocks.a_reader_by_a_try = refl
rw_locks_take e r (RwLocks.a_writer_at_once now) = refl
rw_locks_take e r RwLocks.a_writer_by_a_try = refl
rw_locks_take e r (RwLocks.a_writer_behind_writers now) = refl
rw_locks_take e r RwLocks.whoever_was_let_in = refl

pub of_an_rw_mutex : (e : RwEvent) (r : RwReply) → (r ≡ of_rw.Still) ⊎ (rw_standing.is_answer e r ≡ true) → (rw.releases r ≡ true ↔ RwUnlocks e r) × (rw.acquires r ≡ true ↔ RwLocks e r)
of_an_rw_mutex e r (inr answer) = ((rw_unlocks e r answer, rw_unlocks_free e r), (rw_locks e r answer, rw_locks_take e r))
of_an_rw_mutex e r (inl still) = (
  ((λ frees. absurd (false≢true (sym (ap rw.releases still) ∙ frees))), rw_unlocks_free e r),
  ((λ takes. absurd (false≢true (sym (ap rw.acquires still) ∙ takes))), rw_locks_take e r),
)

-- of a wait group
dones : (e : GroupEvent) (r : GroupReply) → group_releases e r ≡ true → Dones e r
dones (on_group.Add (negsuc less)) of_group.Done frees = Dones.takes_away less
dones e r frees = absurd (false≢true frees)

dones_free : (e : GroupEvent) (r : GroupReply) → Dones e r → group_releases e r ≡ true
dones_free e r (Dones.takes_away less) = refl

waits : (e : GroupEvent) (r : GroupReply) → group_acquires e r ≡ true → GroupWaitReturns e r
waits on_group.Wait of_group.Done takes = GroupWaitReturns.at_once
waits on_group.Leave of_group.Done takes = GroupWaitReturns.released
waits e r takes = absurd (false≢true takes)

waits_take : (e : GroupEvent) (r : GroupReply) → GroupWaitReturns e r → group_acquires e r ≡ true
waits_take e r GroupWaitReturns.at_once = refl
waits_take e r GroupWaitReturns.released = refl

pub of_a_group : (e : GroupEvent) (r : GroupReply) → (group_releases e r ≡ true ↔ Dones e r) × (group_acquires e r ≡ true ↔ GroupWaitReturns e r)
of_a_group e r = ((dones e r, dones_free e r), (waits e r, waits_take e r))

-- of a cond
notifies : (e : NotifyEvent) (r : NotifyReply) → notify_releases e r ≡ true → Notifies e r
notifies on_cond.Signal of_cond.Done frees = Notifies.one
notifies on_cond.Broadcast of_cond.Done frees = Notifies.all
notifies e r frees = absurd (false≢true frees)

notifies_free : (e : NotifyEvent) (r : NotifyReply) → Notifies e r → notify_releases e r ≡ true
notifies_free e r Notifies.one = refl
notifies_free e r Notifies.all = refl

goes_on : (e : NotifyEvent) (r : NotifyReply) → notify_acquires e r ≡ true → CondWaitGoesOn e r
goes_on on_cond.Leave of_cond.Done takes = CondWaitGoesOn.notified
goes_on e r takes = absurd (false≢true takes)

goes_on_take : (e : NotifyEvent) (r : NotifyReply) → CondWaitGoesOn e r → notify_acquires e r ≡ true
goes_on_take e r CondWaitGoesOn.notified = refl

pub of_a_cond : (e : NotifyEvent) (r : NotifyReply) → (notify_releases e r ≡ true ↔ Notifies e r) × (notify_acquires e r ≡ true ↔ CondWaitGoesOn e r)
of_a_cond e r = ((notifies e r, notifies_free e r), (goes_on e r, goes_on_take e r))

-- of a once, whatever its function comes to
module _ {T : Type 0} where
  completes : (e : OnceEvent T) (r : OnceReply T) (waits runs : Bool) → once.answers waits runs e r ≡ true → once_releases e r ≡ true → FunctionCompletes e r
  completes (on_once.End value) of_once.Ended waits runs answer frees = FunctionCompletes.with_value value
  completes on_once.Begin of_once.Ended true runs answer frees = absurd (false≢true answer)
  completes on_once.Begin of_once.Ended false runs answer frees = absurd (false≢true answer)
  completes on_once.Leave of_once.Ended waits runs answer frees = absurd (false≢true answer)
  completes e r waits runs answer frees = absurd (false≢true frees)

  completes_free : (e : OnceEvent T) (r : OnceReply T) → FunctionCompletes e r → once_releases e r ≡ true
  completes_free e r (FunctionCompletes.with_value value) = refl

  returns : (e : OnceEvent T) (r : OnceReply T) (waits runs : Bool) → once.answers waits runs e r ≡ true → once_acquires e r ≡ true → OnceCallReturns e r
  returns on_once.Begin (of_once.Done value) waits runs answer takes = OnceCallReturns.at_once value
  returns on_once.Leave (of_once.Left value) waits runs answer takes = OnceCallReturns.released value
  returns on_once.Leave (of_once.Done value) waits runs answer takes = absurd (false≢true answer)
  returns on_once.Begin (of_once.Left value) true runs answer takes = absurd (false≢true answer)
  returns on_once.Begin (of_once.Left value) false runs answer takes = absurd (false≢true answer)
  returns (on_once.End end) (of_once.Done value) waits true answer takes = absurd (false≢true answer)
  returns (on_once.End end) (of_once.Done value) waits false answer takes = absurd (false≢true answer)
  returns (on_once.End end) (of_once.Left value) waits true answer takes = absurd (false≢true answer)
  returns (on_once.End end) (of_once.Left value) waits false answer takes = absurd (false≢true answer)
  returns e r waits runs answer takes = absurd (false≢true takes)

  returns_take : (e : OnceEvent T) (r : OnceReply T) → OnceCallReturns e r → once_acquires e r ≡ true
  returns_take e r (OnceCallReturns.at_once value) = refl
  returns_take e r (OnceCallReturns.released value) = refl

  by_answer : (e : OnceEvent T) (r : OnceReply T) (waits runs : Bool) → (r ≡ of_once.Still) ⊎ (once.answers waits runs e r ≡ true) → (once_releases e r ≡ true ↔ FunctionCompletes e r) × (once_acquires e r ≡ true ↔ OnceCallReturns e r)
  by_answer e r waits runs (inr answer) = ((completes e r waits runs answer, completes_free e r), (returns e r waits runs answer, returns_take e r))
  by_answer e r waits runs (inl still) = (
    ((λ frees. absurd (false≢true (sym (ap (once_releases e) still) ∙ frees))), completes_free e r),
    ((λ takes. absurd (false≢true (sym (ap (once_acquires e) still) ∙ takes))), returns_take e r),
  )

  pub of_a_once : ((s : OnceState T) (caller : ℕ) (e : OnceEvent T) → caller < callers_of s → once.answers (once.waits_at s caller) (once.runs_at s caller) e (next s caller e).1 ≡ true)
      → (s : OnceState T) (caller : ℕ) (e : OnceEvent T) → (once_releases e (next s caller e).1 ≡ true ↔ FunctionCompletes e (next s caller e).1) × (once_acquires e (next s caller e).1 ≡ true ↔ OnceCallReturns e (next s caller e).1)
  of_a_once answers s caller e = by_answer e (next s caller e).1 (once.waits_at s caller) (once.runs_at s caller) (⊎_elim
      (λ is. inr (answers s caller e (ltb-true caller (callers_of s) is)))
      (λ is. inl (ap (λ b. (if b then made s caller e else (s, of_once.Still)).1) is))
      (cases_Bool (nat_lt caller (callers_of s))))

-- of a part of a pool
puts : (e : PoolEvent ℕ) (r : PoolReply ℕ) → pool.answers e r ≡ true → pool_releases e r ≡ true → Puts e r
puts (Put item) Kept answer frees = Puts.kept item
puts e Kept answer frees = absurd (false≢true answer)
puts e r answer frees = absurd (false≢true frees)

puts_free : (e : PoolEvent ℕ) (r : PoolReply ℕ) → Puts e r → pool_releases e r ≡ true
puts_free e r (Puts.kept item) = refl

gets : (e : PoolEvent ℕ) (r : PoolReply ℕ) → pool.answers e r ≡ true → pool_acquires e r ≡ true → Gets e r
gets LookOwn (Item item) answer takes = Gets.of_the_own_part item
gets (LookOther part) (Item item) answer takes = Gets.of_another_part part item
gets (LookVictim part) (Item item) answer takes = Gets.of_the_victims part item
gets e (Item item) answer takes = absurd (false≢true answer)
gets e r answer takes = absurd (false≢true takes)

gets_take : (e : PoolEvent ℕ) (r : PoolReply ℕ) → Gets e r → pool_acquires e r ≡ true
gets_take e r (Gets.of_the_own_part item) = refl
gets_take e r (Gets.of_another_part part item) = refl
gets_take e r (Gets.of_the_victims part item) = refl

pub of_a_part : (e : PoolEvent ℕ) (r : PoolReply ℕ) → pool.answers e r ≡ true → (pool_releases e r ≡ true ↔ Puts e r) × (pool_acquires e r ≡ true ↔ Gets e r)
of_a_part e r answer = ((puts e r answer, puts_free e r), (gets e r answer, gets_take e r))

-- of a weighted semaphore
gives_back : (e : SemaEvent) (r : SemaReply) → sema_releases e r ≡ true → SemaReleases e r
gives_back (on_sema.Release weight) of_sema.Done frees = SemaReleases.gives_back weight
gives_back e r frees = absurd (false≢true frees)

gives_back_free : (e : SemaEvent) (r : SemaReply) → SemaReleases e r → sema_releases e r ≡ true
gives_back_free e r (SemaReleases.gives_back weight) = refl

has_weight : (e : SemaEvent) (r : SemaReply) → sema_acquires e r ≡ true → SemaAcquires e r
has_weight (on_sema.Acquire weight) of_sema.Done takes = SemaAcquires.at_once weight
has_weight (on_sema.Try weight) of_sema.Done takes = SemaAcquires.by_a_try weight
has_weight on_sema.Leave of_sema.Done takes = SemaAcquires.granted
has_weight e r takes = absurd (false≢true takes)

has_weight_take : (e : SemaEvent) (r : SemaReply) → SemaAcquires e r → sema_acquires e r ≡ true
has_weight_take e r (SemaAcquires.at_once weight) = refl
has_weight_take e r (SemaAcquires.by_a_try weight) = refl
has_weight_take e r SemaAcquires.granted = refl

pub of_a_sema : (e : SemaEvent) (r : SemaReply) → (sema_releases e r ≡ true ↔ SemaReleases e r) × (sema_acquires e r ≡ true ↔ SemaAcquires e r)
of_a_sema e r = ((gives_back e r, gives_back_free e r), (has_weight e r, has_weight_take e r))

-- of a group of flights, by where the caller stands
lands : (at : FlightStand) (e : FlightEvent) (r : FlightReply) → flight_standing.answers at e r ≡ true → flight_releases e r ≡ true → FlightLands e r
lands at (on_flight.Land value) (of_flight.Landed shared) answer frees = FlightLands.with_value value shared
lands stand.Out e (of_flight.Landed shared) answer frees = absurd (false≢true answer)
lands stand.Leads e (of_flight.Landed shared) answer frees = absurd (false≢true answer)
lands stand.Waits e (of_flight.Landed shared) answer frees = absurd (false≢true answer)
lands at e r answer frees = absurd (false≢true frees)

lands_free : (e : FlightEvent) (r : FlightReply) → FlightLands e r → flight_releases e r ≡ true
lands_free e r (FlightLands.with_value value shared) = refl

flies : (at : FlightStand) (e : FlightEvent) (r : FlightReply) → flight_standing.answers at e r ≡ true → flight_acquires e r ≡ true → FlightCallGoesOn e r
flies at (on_flight.Join key) of_flight.Lead answer takes = FlightCallGoesOn.leads key
flies at on_flight.Leave (of_flight.Left value) answer takes = FlightCallGoesOn.leaves value
flies stand.Out e of_flight.Lead answer takes = absurd (false≢true answer)
flies stand.Leads e of_flight.Lead answer takes = absurd (false≢true answer)
flies stand.Waits e of_flight.Lead answer takes = absurd (false≢true answer)
flies stand.Out e (of_flight.Left value) answer takes = absurd (false≢true answer)
flies stand.Leads e (of_flight.Left value) answer takes = absurd (false≢true answer)
flies stand.Waits e (of_flight.Left value) answer takes = absurd (false≢true answer)
flies at e r answer takes = absurd (false≢true takes)

flies_take : (e : FlightEvent) (r : FlightReply) → FlightCallGoesOn e r → flight_acquires e r ≡ true
flies_take e r (FlightCallGoesOn.leads key) = refl
flies_take e r (FlightCallGoesOn.leaves value) = refl

by_stand : (at : FlightStand) (e : FlightEvent) (r : FlightReply) → (r ≡ of_flight.Still) ⊎ (flight_standing.answers at e r ≡ true) → (flight_releases e r ≡ true ↔ FlightLands e r) × (flight_acquires e r ≡ true ↔ FlightCallGoesOn e r)
by_stand at e r (inr answer) = ((lands at e r answer, lands_free e r), (flies at e r answer, flies_take e r))
by_stand at e r (inl still) = (
  ((λ frees. absurd (false≢true (sym (ap (flight_releases e) still) ∙ frees))), lands_free e r),
  ((λ takes. absurd (false≢true (sym (ap (flight_acquires e) still) ∙ takes))), flies_take e r),
)

pub of_a_flight : ((s : flights.FlightState) (caller : ℕ) (e : FlightEvent) → caller < flights.callers_of s → flight_standing.answers (flight_standing.stands_at s caller) e (flights.next s caller e).1 ≡ true)
    → (s : flights.FlightState) (caller : ℕ) (e : FlightEvent)
    → (flight_releases e (flights.next s caller e).1 ≡ true ↔ FlightLands e (flights.next s caller e).1) × (flight_acquires e (flights.next s caller e).1 ≡ true ↔ FlightCallGoesOn e (flights.next s caller e).1)
of_a_flight answers s caller e = by_stand (flight_standing.stands_at s caller) e (flights.next s caller e).1 (⊎_elim
    (λ is. inr (answers s caller e (ltb-true caller (flights.callers_of s) is)))
    (λ is. inl (ap (λ b. (if b then flights.made s caller e else (s, of_flight.Still)).1) is))
    (cases_Bool (nat_lt caller (flights.callers_of s))))

-- of Starts
starts : (e : StartEvent) (r : StartReply) → starts_releases e r ≡ true → GoStarts e r ⊎ WorkerEnds e r
starts (on_starts.Start worker) of_starts.Done frees = inl (GoStarts.a_worker worker)
starts on_starts.End of_starts.Done frees = inr WorkerEnds.made_its_calls
starts (on_starts.Start worker) r frees = absurd (false≢true frees)
starts on_starts.End r frees = absurd (false≢true frees)
starts on_starts.Leave r frees = absurd (false≢true frees)

starts_free : (e : StartEvent) (r : StartReply) → GoStarts e r → starts_releases e r ≡ true
starts_free e r (GoStarts.a_worker worker) = refl

ends_free : (e : StartEvent) (r : StartReply) → WorkerEnds e r → starts_releases e r ≡ true
ends_free e r WorkerEnds.made_its_calls = refl

goes : (e : StartEvent) (r : StartReply) → starts_acquires e r ≡ true → StartedGoes e r
goes on_starts.Leave of_starts.Go takes = StartedGoes.was_started
goes on_starts.Leave r takes = absurd (false≢true takes)
goes (on_starts.Start worker) r takes = absurd (false≢true takes)
goes on_starts.End r takes = absurd (false≢true takes)

goes_take : (e : StartEvent) (r : StartReply) → StartedGoes e r → starts_acquires e r ≡ true
goes_take e r StartedGoes.was_started = refl

pub of_starts_edges : (e : StartEvent) (r : StartReply) → (starts_releases e r ≡ true ↔ GoStarts e r ⊎ WorkerEnds e r) × (starts_acquires e r ≡ true ↔ StartedGoes e r)
of_starts_edges e r = ((starts e r, ⊎_elim (starts_free e r) (ends_free e r)), (goes e r, goes_take e r))
