-- The spelling of a mutex's protocol, in the words of this crate.
use Rattle.std.proofs.Common.{◌≡◌, ℕ, Bool, true, List, [], ◌∷◌, ◌++◌, Result, Ok, Err, refl, sym, subst}
use Rattle.std.proofs.lemmas.List.{append_assoc}
use Rattle.sync_types.specs.declared.misuse.Misuse.{Misuse}
use Rattle.sync_model.specs.declared.answer.Answer.{Answer}
use Rattle.sync_model.specs.declared.answer.Answer.TheVariants.{Done, Halted}
use Rattle.sync_model.specs.declared.journal.Deed.TheVariants.{Event, Refused, Halt}
use Rattle.sync_types.specs.declared.lock_call.LockReply.{LockReply}
use Rattle.sync_types.specs.declared.lock_call.LockReply.TheVariants as outcome
use Rattle.sync_model.specs.Front.{Front}
use Rattle.mutex_core.specs.declared.event.MutexEvent.{MutexEvent}
use Rattle.mutex_core.specs.declared.event.MutexEvent.TheVariants.{Arrive, Try, Unlock, Woken}
use Rattle.mutex_core.specs.declared.reply.MutexReply.{MutexReply}
use Rattle.mutex_core.specs.declared.reply.MutexReply.TheVariants.{Arrived, Tried, Unlocked, Resumed, Still}
use Rattle.mutex_core.specs.declared.reply.Arrival.TheVariants.{Acquired as AtOnce, Queued}
use Rattle.mutex_core.specs.declared.reply.Resumption.TheVariants.{Acquired, Requeued}
use Rattle.mutex_core.specs.declared.reply.Unlocking.{Unlocking}
use Rattle.mutex_core.specs.declared.reply.Unlocking.TheVariants.{Free, Woke, Handed, Misuse as IsMisuse}
use Rattle.mutex_core.specs.MutexMachine.{State, next}
use Rattle.ruled_object.specs.declared.pass.Pass.{Pass}
use Rattle.ruled_object.specs.Growth.{deeds_of}
use Rattle.protocols.specs.declared.mutex.MutexStage.{MutexStage}
use Rattle.protocols.specs.declared.mutex.MutexStage.TheVariants as stage
use Rattle.protocols.specs.MutexStages.{mutex_event, mutex_moment, mutex_meaning}
use Rattle.protocols.specs.Spelling.{CallAnswer, Spells, IsTimely, AreTimely}
use Rattle.protocols.specs.Steps.{IsAt}
use Rattle.call_loop.specs.Calls as running
use Rattle.call_loop.specs.Stages.{AreLazilyTimed}
use Rattle.go_locks.proofs.CallSpelling.{with_moments}
use Rattle.go_locks.specs.Calls.{Did}
use Rattle.go_locks.specs.MutexAnswers.{lock_of, try_of, unlock_of, lock_answer, try_answer, unlock_answer}
use Rattle.go_locks.specs.MutexCalls.{MutexDeed, Waits, queued, requeued, still, Locks, at_once, refused, acquired, halted, Tries, tried, Unlocks, unlocked, answer_of, IsTimed, IsClocked, AreClocked}

-- the only deed of a call, and its answer
one : {A : Type 0} (P : List MutexDeed → Answer A → Type 0) (f : CallAnswer LockReply → Answer A) (earlier : List MutexDeed) (made : MutexDeed) (rest : List MutexDeed) (answer given : CallAnswer LockReply) → rest ≡ [] → answer ≡ given → P (earlier ++ made ∷ []) (f given) → P (earlier ++ made ∷ rest) (f answer)
one P f earlier made rest answer given none is holds = subst (λ (r : List MutexDeed). P (earlier ++ made ∷ r) (f answer)) (sym none) (subst (λ (a : CallAnswer LockReply). P (earlier ++ made ∷ []) (f a)) (sym is) holds)

resumes : (waited : List MutexDeed) → Waits waited → (deeds : List MutexDeed) (answer : CallAnswer LockReply) → Spells mutex_event mutex_meaning stage.Resume deeds answer → Locks (waited ++ deeds) (lock_answer answer)
resumes waited waits [] answer spelt = absurd spelt
resumes waited waits (Event e (Resumed Acquired) ∷ rest) answer (of, ends) =
    subst (λ (x : MutexEvent). Locks (waited ++ Event x (Resumed Acquired) ∷ rest) (lock_answer answer)) (sym of.1)
    (one Locks lock_answer waited (Event (Woken of.0) (Resumed Acquired)) rest answer (Done (Ok outcome.Done)) ends.0 ends.1 (acquired waited of.0 waits))
resumes waited waits (Event e (Resumed Requeued) ∷ rest) answer (of, on) =
    subst (λ (x : MutexEvent). Locks (waited ++ Event x (Resumed Requeued) ∷ rest) (lock_answer answer)) (sym of.1)
    (subst (λ (ds : List MutexDeed). Locks ds (lock_answer answer)) (append_assoc waited (Event (Woken of.0) (Resumed Requeued) ∷ []) rest) (resumes (waited ++ Event (Woken of.0) (Resumed Requeued) ∷ []) (requeued waited of.0 waits) rest answer on))
resumes waited waits (Event e Still ∷ rest) answer (of, on) =
    subst (λ (x : MutexEvent). Locks (waited ++ Event x Still ∷ rest) (lock_answer answer)) (sym of.1)
    (subst (λ (ds : List MutexDeed). Locks ds (lock_answer answer)) (append_assoc waited (Event (Woken of.0) Still ∷ []) rest) (resumes (waited ++ Event (Woken of.0) Still ∷ []) (still waited of.0 waits) rest answer on))
resumes waited waits (Event e (Arrived _) ∷ rest) answer (of, on) = absurd on
resumes waited waits (Event e (Tried _) ∷ rest) answer (of, on) = absurd on
resumes waited waits (Event e (Unlocked _) ∷ rest) answer (of, on) = absurd on
resumes waited waits (Refused e m ∷ rest) answer (of, none, is) =
    subst (λ (x : MutexEvent). Locks (waited ++ Refused x m ∷ rest) (lock_answer answer)) (sym of.1)
    (one Locks lock_answer waited (Refused (Woken of.0) m) rest answer (Halted m) none is (halted waited of.0 m waits))
resumes waited waits (Halt m ∷ rest) answer spelt = absurd spelt

-- a lock
pub locks_by : (deeds : List MutexDeed) (answer : CallAnswer LockReply) → Spells mutex_event mutex_meaning stage.Lock deeds answer → Locks deeds (lock_answer answer)
locks_by [] answer spelt = absurd spelt
locks_by (Event e (Arrived AtOnce) ∷ rest) answer (of, ends) =
    subst (λ (x : MutexEvent). Locks (Event x (Arrived AtOnce) ∷ rest) (lock_answer answer)) (sym of.1)
    (one Locks lock_answer [] (Event (Arrive of.0) (Arrived AtOnce)) rest answer (Done (Ok outcome.Done)) ends.0 ends.1 (at_once of.0))
locks_by (Event e (Arrived (Queued t)) ∷ rest) answer (of, on) =
    subst (λ (x : MutexEvent). Locks (Event x (Arrived (Queued t)) ∷ rest) (lock_answer answer)) (sym of.1)
    (resumes (Event (Arrive of.0) (Arrived (Queued t)) ∷ []) (queued of.0 t) rest answer on)
locks_by (Event e (Tried _) ∷ rest) answer (of, on) = absurd on
locks_by (Event e (Unlocked _) ∷ rest) answer (of, on) = absurd on
locks_by (Event e (Resumed _) ∷ rest) answer (of, on) = absurd on
locks_by (Event e Still ∷ rest) answer (of, on) = absurd on
locks_by (Refused e m ∷ rest) answer (of, none, is) =
    subst (λ (x : MutexEvent). Locks (Refused x m ∷ rest) (lock_answer answer)) (sym of.1) (one Locks lock_answer [] (Refused (Arrive of.0) m) rest answer (Halted m) none is (refused of.0 m))
locks_by (Halt m ∷ rest) answer spelt = absurd spelt

-- a try
pub tries_by : (deeds : List MutexDeed) (answer : CallAnswer LockReply) → Spells mutex_event mutex_meaning stage.TryLock deeds answer → Tries deeds (try_answer answer)
tries_by [] answer spelt = absurd spelt
tries_by (Event e (Tried b) ∷ rest) answer (of, ends) =
    subst (λ (x : MutexEvent). Tries (Event x (Tried b) ∷ rest) (try_answer answer)) (sym of.1) (one Tries try_answer [] (Event Try (Tried b)) rest answer (Done (Ok (outcome.Tried b))) ends.0 ends.1 (tried b))
tries_by (Event e (Arrived _) ∷ rest) answer (of, on) = absurd on
tries_by (Event e (Unlocked _) ∷ rest) answer (of, on) = absurd on
tries_by (Event e (Resumed _) ∷ rest) answer (of, on) = absurd on
tries_by (Event e Still ∷ rest) answer (of, on) = absurd on
tries_by (Refused e m ∷ rest) answer (of, none, is) =
    subst (λ (x : MutexEvent). Tries (Refused x m ∷ rest) (try_answer answer)) (sym of.1) (one Tries try_answer [] (Refused Try m) rest answer (Halted m) none is (refused m))
tries_by (Halt m ∷ rest) answer spelt = absurd spelt

-- an unlock
unlocks_one : (e : MutexEvent) (u : Unlocking) (rest : List MutexDeed) (answer given : CallAnswer LockReply) → e ≡ Unlock → rest ≡ [] → answer ≡ given → unlock_answer given ≡ Done (answer_of u) → Unlocks (Event e (Unlocked u) ∷ rest) (unlock_answer answer)
unlocks_one e u rest answer given of none is says =
    subst (λ (x : MutexEvent). Unlocks (Event x (Unlocked u) ∷ rest) (unlock_answer answer)) (sym of)
    (one Unlocks unlock_answer [] (Event Unlock (Unlocked u)) rest answer given none is (subst (λ (a : Answer (Result (Unit {0}) Misuse)). Unlocks (Event Unlock (Unlocked u) ∷ []) a) (sym says) (unlocked u)))

pub unlocks_by : (deeds : List MutexDeed) (answer : CallAnswer LockReply) → Spells mutex_event mutex_meaning stage.Unlock deeds answer → Unlocks deeds (unlock_answer answer)
unlocks_by [] answer spelt = absurd spelt
unlocks_by (Event e (Unlocked Free) ∷ rest) answer (of, ends) = unlocks_one e Free rest answer (Done (Ok outcome.Done)) of.1 ends.0 ends.1 refl
unlocks_by (Event e (Unlocked (Woke t)) ∷ rest) answer (of, ends) = unlocks_one e (Woke t) rest answer (Done (Ok outcome.Done)) of.1 ends.0 ends.1 refl
unlocks_by (Event e (Unlocked (Handed t)) ∷ rest) answer (of, ends) = unlocks_one e (Handed t) rest answer (Done (Ok outcome.Done)) of.1 ends.0 ends.1 refl
unlocks_by (Event e (Unlocked (IsMisuse m)) ∷ rest) answer (of, ends) = unlocks_one e (IsMisuse m) rest answer (Done (Err m)) of.1 ends.0 ends.1 refl
unlocks_by (Event e (Arrived _) ∷ rest) answer (of, on) = absurd on
unlocks_by (Event e (Tried _) ∷ rest) answer (of, on) = absurd on
unlocks_by (Event e (Resumed _) ∷ rest) answer (of, on) = absurd on
unlocks_by (Event e Still ∷ rest) answer (of, on) = absurd on
unlocks_by (Refused e m ∷ rest) answer (of, none, is) =
    subst (λ (x : MutexEvent). Unlocks (Refused x m ∷ rest) (unlock_answer answer)) (sym of.1) (one Unlocks unlock_answer [] (Refused Unlock m) rest answer (Halted m) none is (refused m))
unlocks_by (Halt m ∷ rest) answer spelt = absurd spelt

-- the moments
timed : (shows : ℕ → Type 0) (event : MutexEvent) → IsAt shows (mutex_moment event) → IsTimed shows event
timed shows (Arrive now) at = at
timed shows Try at = tt
timed shows Unlock at = tt
timed shows (Woken now) at = at

clocked_one : (shows : ℕ → Type 0) (d : MutexDeed) → IsTimely mutex_moment shows d → IsClocked shows d
clocked_one shows (Event event (Arrived AtOnce)) timely = tt
clocked_one shows (Event event (Arrived (Queued ticket))) timely = timed shows event timely
clocked_one shows (Event event (Tried _)) timely = timed shows event timely
clocked_one shows (Event event (Unlocked unlocking)) timely = timed shows event timely
clocked_one shows (Event event (Resumed resumption)) timely = timed shows event timely
clocked_one shows (Event event Still) timely = timed shows event timely
clocked_one shows (Refused event m) timely = timed shows event timely
clocked_one shows (Halt m) timely = tt

pub clocked_by : (shows : ℕ → Type 0) (deeds : List MutexDeed) → AreTimely mutex_moment shows deeds → AreClocked shows deeds
clocked_by shows [] timely = tt
clocked_by shows (d ∷ deeds) timely = (clocked_one shows d timely.0, clocked_by shows deeds timely.1)

-- a lock's only event is an arrival by which the mutex is acquired at once, or one that is refused
clocked_lock : (shows : ℕ → Type 0) (deeds : List MutexDeed) (answer : CallAnswer LockReply) → Spells mutex_event mutex_meaning stage.Lock deeds answer → AreLazilyTimed mutex_moment shows deeds → AreClocked shows deeds
clocked_lock shows [] answer spelt timely = tt
clocked_lock shows (Event e (Arrived AtOnce) ∷ []) answer spelt timely = (tt, tt)
clocked_lock shows (Event e (Arrived (Queued t)) ∷ []) answer spelt timely = absurd spelt.1
clocked_lock shows (Event e (Tried _) ∷ []) answer spelt timely = absurd spelt.1
clocked_lock shows (Event e (Unlocked _) ∷ []) answer spelt timely = absurd spelt.1
clocked_lock shows (Event e (Resumed _) ∷ []) answer spelt timely = absurd spelt.1
clocked_lock shows (Event e Still ∷ []) answer spelt timely = absurd spelt.1
clocked_lock shows (Event e r ∷ (d ∷ ds)) answer spelt timely = clocked_by shows (Event e r ∷ (d ∷ ds)) timely
clocked_lock shows (Refused e m ∷ rest) answer spelt timely = clocked_by shows (Refused e m ∷ rest) timely
clocked_lock shows (Halt m ∷ rest) answer spelt timely = absurd spelt

-- what a call did, by what its protocol's call did
module _ {N : Type 0} (shows : ℕ → Type 0) {start : State} {old new : Pass State N MutexEvent MutexReply} {from to : Front} {answer : CallAnswer LockReply} where
  as_here : {A : Type 0} (first : MutexStage) (spells : List MutexDeed → Answer A → Type 0) (words : Result LockReply Misuse → A) → ((deeds : List MutexDeed) → Spells mutex_event mutex_meaning first deeds answer → spells deeds (running.told words answer)) → {result : Answer A} → result ≡ running.told words answer → running.Did next true start (λ ds a. Spells mutex_event mutex_meaning first ds a) (λ ds. AreTimely mutex_moment shows ds) old from answer new to
      → Did next start spells (AreClocked shows) old from result new to
  as_here first spells words spelt {result} is did =
      running.retold next true start (λ ds a. Spells mutex_event mutex_meaning first ds a) (λ ds. AreTimely mutex_moment shows ds) spells (AreClocked shows) words old new from to answer result spelt (clocked_by shows) is did

  pub lock_did : {result : Answer (Unit {0})} → result ≡ lock_answer answer → running.Did next true start (λ ds a. Spells mutex_event mutex_meaning stage.Lock ds a) (λ ds. AreLazilyTimed mutex_moment shows ds) old from answer new to → Did next start Locks (AreClocked shows) old from result new to
  lock_did {result} is did =
      running.retold next true start (λ ds a. Spells mutex_event mutex_meaning stage.Lock ds a) (AreClocked shows) Locks (AreClocked shows) lock_of old new from to answer result (λ ds spelt. locks_by ds answer spelt) (λ ds moments. moments) is
      (with_moments next start (λ ds a. Spells mutex_event mutex_meaning stage.Lock ds a) (λ ds. AreLazilyTimed mutex_moment shows ds) (AreClocked shows) old new from to answer (λ ds spelt moments. clocked_lock shows ds answer spelt moments) did)

  pub try_did : {result : Answer Bool} → result ≡ try_answer answer → running.Did next true start (λ ds a. Spells mutex_event mutex_meaning stage.TryLock ds a) (λ ds. AreTimely mutex_moment shows ds) old from answer new to → Did next start Tries (AreClocked shows) old from result new to
  try_did is did = as_here stage.TryLock Tries try_of (λ ds spelt. tries_by ds answer spelt) is did

  pub unlock_did : {result : Answer (Result (Unit {0}) Misuse)} → result ≡ unlock_answer answer → running.Did next true start (λ ds a. Spells mutex_event mutex_meaning stage.Unlock ds a) (λ ds. AreTimely mutex_moment shows ds) old from answer new to → Did next start Unlocks (AreClocked shows) old from result new to
  unlock_did is did = as_here stage.Unlock Unlocks unlock_of (λ ds spelt. unlocks_by ds answer spelt) is did
