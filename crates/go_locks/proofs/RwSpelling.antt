-- The spelling of a reader/writer mutex's protocol, in the words of this crate.
use Rattle.std.proofs.Common.{◌≡◌, ℕ, Bool, true, List, [], ◌∷◌, ◌++◌, Result, Ok, Err, refl, sym, subst, ◌∙◌}
use Rattle.std.proofs.lemmas.List.{append_assoc}
use Rattle.sync_types.specs.declared.misuse.Misuse.{Misuse}
use Rattle.sync_model.specs.declared.answer.Answer.{Answer}
use Rattle.sync_model.specs.declared.answer.Answer.TheVariants.{Done, Halted}
use Rattle.sync_model.specs.declared.journal.Deed.TheVariants.{Event, Refused, Halt}
use Rattle.sync_types.specs.declared.lock_call.LockReply.{LockReply}
use Rattle.sync_types.specs.declared.lock_call.LockReply.TheVariants as outcome
use Rattle.sync_model.specs.Front.{Front}
use Rattle.rw_core.specs.declared.event.RwEvent.{RwEvent}
use Rattle.rw_core.specs.declared.event.RwEvent.TheVariants.{ReadArrive, ReadTry, ReadUnlock, WriteArrive, WriteTry, WriteWoken, WriteUnlock, Leave}
use Rattle.rw_core.specs.declared.reply.RwReply.{RwReply}
use Rattle.rw_core.specs.declared.reply.RwReply.TheVariants.{Arrived, Tried, Unlocked, Resumed, Left, Still}
use Rattle.rw_core.specs.declared.reply.Arrival.TheVariants.{Acquired as AtOnce, Queued}
use Rattle.rw_core.specs.declared.reply.Resumption.TheVariants.{Acquired, Queued as Announced, Requeued}
use Rattle.rw_core.specs.declared.reply.Unlocking.{Unlocking}
use Rattle.rw_core.specs.declared.reply.Unlocking.TheVariants.{Done as IsDone, Misuse as IsMisuse}
use Rattle.rw_core.specs.RwMachine.{State, next}
use Rattle.ruled_object.specs.declared.pass.Pass.{Pass}
use Rattle.protocols.specs.declared.rw_mutex.RwMutexStage.{RwMutexStage}
use Rattle.protocols.specs.declared.step.Step.{Step}
use Rattle.protocols.specs.declared.rw_mutex.RwMutexStage.TheVariants as stage
use Rattle.protocols.specs.RwMutexStages.{rw_event, rw_moment, rw_meaning, try_meaning, unlock_meaning}
use Rattle.protocols.specs.Spelling.{CallAnswer, Rest, Spells, IsTimely, AreTimely}
use Rattle.protocols.specs.Steps.{IsAt}
use Rattle.call_loop.specs.Calls as running
use Rattle.call_loop.specs.Stages.{AreLazilyTimed}
use Rattle.go_locks.proofs.CallSpelling.{with_moments}
use Rattle.go_locks.specs.Calls.{Did}
use Rattle.go_locks.specs.MutexAnswers.{lock_of, try_of, unlock_of, lock_answer, try_answer, unlock_answer}
use Rattle.go_locks.specs.RwCalls.{RwDeed, WriterAt, anywhere, leaving, inner, behind, WriteWaits, queued, requeued, announced, unwoken, ungranted, WriteLocks, at_once, refused, acquired, granted, halted_woken, halted_leaving, ReadWaits, unadmitted, ReadLocks, admitted, halted, Tries, tried, Unlocks, unlocked, answer_of, IsTimed, IsClocked, AreClocked}

-- the only deed of a call, or its last one, and its answer
last : {A : Type 0} (P : List RwDeed → Answer A → Type 0) (f : CallAnswer LockReply → Answer A) (earlier : List RwDeed) (made : RwDeed) (rest : List RwDeed) (answer given : CallAnswer LockReply) → rest ≡ [] → answer ≡ given → P (earlier ++ made ∷ []) (f given) → P (earlier ++ made ∷ rest) (f answer)
last P f earlier made rest answer given none is holds = subst (λ (r : List RwDeed). P (earlier ++ made ∷ r) (f answer)) (sym none) (subst (λ (a : CallAnswer LockReply). P (earlier ++ made ∷ []) (f a)) (sym is) holds)

-- the stage of a writer that waits so
abbrev stage_at : WriterAt → RwMutexStage
stage_at anywhere = stage.Resume
stage_at leaving = stage.LeaveWriting
stage_at inner = stage.Inner
stage_at behind = stage.Behind

-- a writer that waits, and goes on at its stage
writes : (at : WriterAt) (waited : List RwDeed) → WriteWaits at waited → (deeds : List RwDeed) (answer : CallAnswer LockReply) → Spells rw_event rw_meaning (stage_at at) deeds answer → WriteLocks (waited ++ deeds) (lock_answer answer)
writes anywhere waited waits [] answer spelt = absurd spelt
writes anywhere waited waits (Event e (Resumed Acquired) ∷ rest) answer (of, ends) =
    subst (λ (x : RwEvent). WriteLocks (waited ++ Event x (Resumed Acquired) ∷ rest) (lock_answer answer)) (sym of.1)
    (last WriteLocks lock_answer waited (Event (WriteWoken of.0) (Resumed Acquired)) rest answer (Done (Ok outcome.Done)) ends.0 ends.1 (acquired anywhere waited of.0 refl waits))
writes anywhere waited waits (Event e (Resumed Announced) ∷ rest) answer (of, on) =
    subst (λ (x : RwEvent). WriteLocks (waited ++ Event x (Resumed Announced) ∷ rest) (lock_answer answer)) (sym of.1)
    (subst (λ (ds : List RwDeed). WriteLocks ds (lock_answer answer)) (append_assoc waited (Event (WriteWoken of.0) (Resumed Announced) ∷ []) rest) (writes behind (waited ++ Event (WriteWoken of.0) (Resumed Announced) ∷ []) (announced anywhere waited of.0 refl waits) rest answer on))
writes anywhere waited waits (Event e (Resumed Requeued) ∷ rest) answer (of, on) =
    subst (λ (x : RwEvent). WriteLocks (waited ++ Event x (Resumed Requeued) ∷ rest) (lock_answer answer)) (sym of.1)
    (subst (λ (ds : List RwDeed). WriteLocks ds (lock_answer answer)) (append_assoc waited (Event (WriteWoken of.0) (Resumed Requeued) ∷ []) rest) (writes inner (waited ++ Event (WriteWoken of.0) (Resumed Requeued) ∷ []) (requeued anywhere waited of.0 refl waits) rest answer on))
writes anywhere waited waits (Event e Still ∷ rest) answer (of, on) =
    subst (λ (x : RwEvent). WriteLocks (waited ++ Event x Still ∷ rest) (lock_answer answer)) (sym of.1)
    (subst (λ (ds : List RwDeed). WriteLocks ds (lock_answer answer)) (append_assoc waited (Event (WriteWoken of.0) Still ∷ []) rest) (writes leaving (waited ++ Event (WriteWoken of.0) Still ∷ []) (unwoken anywhere waited of.0 refl waits) rest answer on))
writes anywhere waited waits (Event e (Arrived _) ∷ rest) answer (of, on) = absurd on
writes anywhere waited waits (Event e (Tried _) ∷ rest) answer (of, on) = absurd on
writes anywhere waited waits (Event e (Unlocked _) ∷ rest) answer (of, on) = absurd on
writes anywhere waited waits (Event e Left ∷ rest) answer (of, on) = absurd on
writes anywhere waited waits (Refused e m ∷ rest) answer (of, none, is) =
    subst (λ (x : RwEvent). WriteLocks (waited ++ Refused x m ∷ rest) (lock_answer answer)) (sym of.1) (last WriteLocks lock_answer waited (Refused (WriteWoken of.0) m) rest answer (Halted m) none is (halted_woken anywhere waited of.0 m refl waits))
writes anywhere waited waits (Halt m ∷ rest) answer spelt = absurd spelt
writes leaving waited waits [] answer spelt = absurd spelt
writes leaving waited waits (Event e Left ∷ rest) answer (of, ends) =
    subst (λ (x : RwEvent). WriteLocks (waited ++ Event x Left ∷ rest) (lock_answer answer)) (sym of.1)
    (last WriteLocks lock_answer waited (Event Leave Left) rest answer (Done (Ok outcome.Done)) ends.0 ends.1 (granted leaving waited refl waits))
writes leaving waited waits (Event e Still ∷ rest) answer (of, on) =
    subst (λ (x : RwEvent). WriteLocks (waited ++ Event x Still ∷ rest) (lock_answer answer)) (sym of.1)
    (subst (λ (ds : List RwDeed). WriteLocks ds (lock_answer answer)) (append_assoc waited (Event Leave Still ∷ []) rest) (writes anywhere (waited ++ Event Leave Still ∷ []) (ungranted leaving waited refl waits) rest answer on))
writes leaving waited waits (Event e (Arrived _) ∷ rest) answer (of, on) = absurd on
writes leaving waited waits (Event e (Tried _) ∷ rest) answer (of, on) = absurd on
writes leaving waited waits (Event e (Unlocked _) ∷ rest) answer (of, on) = absurd on
writes leaving waited waits (Event e (Resumed _) ∷ rest) answer (of, on) = absurd on
writes leaving waited waits (Refused e m ∷ rest) answer (of, none, is) =
    subst (λ (x : RwEvent). WriteLocks (waited ++ Refused x m ∷ rest) (lock_answer answer)) (sym of.1) (last WriteLocks lock_answer waited (Refused Leave m) rest answer (Halted m) none is (halted_leaving leaving waited m refl waits))
writes leaving waited waits (Halt m ∷ rest) answer spelt = absurd spelt
writes inner waited waits [] answer spelt = absurd spelt
writes inner waited waits (Event e (Resumed Acquired) ∷ rest) answer (of, ends) =
    subst (λ (x : RwEvent). WriteLocks (waited ++ Event x (Resumed Acquired) ∷ rest) (lock_answer answer)) (sym of.1)
    (last WriteLocks lock_answer waited (Event (WriteWoken of.0) (Resumed Acquired)) rest answer (Done (Ok outcome.Done)) ends.0 ends.1 (acquired inner waited of.0 refl waits))
writes inner waited waits (Event e (Resumed Announced) ∷ rest) answer (of, on) =
    subst (λ (x : RwEvent). WriteLocks (waited ++ Event x (Resumed Announced) ∷ rest) (lock_answer answer)) (sym of.1)
    (subst (λ (ds : List RwDeed). WriteLocks ds (lock_answer answer)) (append_assoc waited (Event (WriteWoken of.0) (Resumed Announced) ∷ []) rest) (writes behind (waited ++ Event (WriteWoken of.0) (Resumed Announced) ∷ []) (announced inner waited of.0 refl waits) rest answer on))
writes inner waited waits (Event e (Resumed Requeued) ∷ rest) answer (of, on) =
    subst (λ (x : RwEvent). WriteLocks (waited ++ Event x (Resumed Requeued) ∷ rest) (lock_answer answer)) (sym of.1)
    (subst (λ (ds : List RwDeed). WriteLocks ds (lock_answer answer)) (append_assoc waited (Event (WriteWoken of.0) (Resumed Requeued) ∷ []) rest) (writes inner (waited ++ Event (WriteWoken of.0) (Resumed Requeued) ∷ []) (requeued inner waited of.0 refl waits) rest answer on))
writes inner waited waits (Event e Still ∷ rest) answer (of, on) =
    subst (λ (x : RwEvent). WriteLocks (waited ++ Event x Still ∷ rest) (lock_answer answer)) (sym of.1)
    (subst (λ (ds : List RwDeed). WriteLocks ds (lock_answer answer)) (append_assoc waited (Event (WriteWoken of.0) Still ∷ []) rest) (writes inner (waited ++ Event (WriteWoken of.0) Still ∷ []) (unwoken inner waited of.0 refl waits) rest answer on))
writes inner waited waits (Event e (Arrived _) ∷ rest) answer (of, on) = absurd on
writes inner waited waits (Event e (Tried _) ∷ rest) answer (of, on) = absurd on
writes inner waited waits (Event e (Unlocked _) ∷ rest) answer (of, on) = absurd on
writes inner waited waits (Event e Left ∷ rest) answer (of, on) = absurd on
writes inner waited waits (Refused e m ∷ rest) answer (of, none, is) =
    subst (λ (x : RwEvent). WriteLocks (waited ++ Refused x m ∷ rest) (lock_answer answer)) (sym of.1) (last WriteLocks lock_answer waited (Refused (WriteWoken of.0) m) rest answer (Halted m) none is (halted_woken inner waited of.0 m refl waits))
writes inner waited waits (Halt m ∷ rest) answer spelt = absurd spelt
writes behind waited waits [] answer spelt = absurd spelt
writes behind waited waits (Event e Left ∷ rest) answer (of, ends) =
    subst (λ (x : RwEvent). WriteLocks (waited ++ Event x Left ∷ rest) (lock_answer answer)) (sym of.1)
    (last WriteLocks lock_answer waited (Event Leave Left) rest answer (Done (Ok outcome.Done)) ends.0 ends.1 (granted behind waited refl waits))
writes behind waited waits (Event e Still ∷ rest) answer (of, on) =
    subst (λ (x : RwEvent). WriteLocks (waited ++ Event x Still ∷ rest) (lock_answer answer)) (sym of.1)
    (subst (λ (ds : List RwDeed). WriteLocks ds (lock_answer answer)) (append_assoc waited (Event Leave Still ∷ []) rest) (writes behind (waited ++ Event Leave Still ∷ []) (ungranted behind waited refl waits) rest answer on))
writes behind waited waits (Event e (Arrived _) ∷ rest) answer (of, on) = absurd on
writes behind waited waits (Event e (Tried _) ∷ rest) answer (of, on) = absurd on
writes behind waited waits (Event e (Unlocked _) ∷ rest) answer (of, on) = absurd on
writes behind waited waits (Event e (Resumed _) ∷ rest) answer (of, on) = absurd on
writes behind waited waits (Refused e m ∷ rest) answer (of, none, is) =
    subst (λ (x : RwEvent). WriteLocks (waited ++ Refused x m ∷ rest) (lock_answer answer)) (sym of.1) (last WriteLocks lock_answer waited (Refused Leave m) rest answer (Halted m) none is (halted_leaving behind waited m refl waits))
writes behind waited waits (Halt m ∷ rest) answer spelt = absurd spelt

write_locks_by : (deeds : List RwDeed) (answer : CallAnswer LockReply) → Spells rw_event rw_meaning stage.Lock deeds answer → WriteLocks deeds (lock_answer answer)
write_locks_by [] answer spelt = absurd spelt
write_locks_by (Event e (Arrived AtOnce) ∷ rest) answer (of, ends) =
    subst (λ (x : RwEvent). WriteLocks (Event x (Arrived AtOnce) ∷ rest) (lock_answer answer)) (sym of.1) (last WriteLocks lock_answer [] (Event (WriteArrive of.0) (Arrived AtOnce)) rest answer (Done (Ok outcome.Done)) ends.0 ends.1 (at_once of.0))
write_locks_by (Event e (Arrived Queued) ∷ rest) answer (of, on) =
    subst (λ (x : RwEvent). WriteLocks (Event x (Arrived Queued) ∷ rest) (lock_answer answer)) (sym of.1) (writes anywhere (Event (WriteArrive of.0) (Arrived Queued) ∷ []) (queued of.0) rest answer on)
write_locks_by (Event e (Tried _) ∷ rest) answer (of, on) = absurd on
write_locks_by (Event e (Unlocked _) ∷ rest) answer (of, on) = absurd on
write_locks_by (Event e (Resumed _) ∷ rest) answer (of, on) = absurd on
write_locks_by (Event e Left ∷ rest) answer (of, on) = absurd on
write_locks_by (Event e Still ∷ rest) answer (of, on) = absurd on
write_locks_by (Refused e m ∷ rest) answer (of, none, is) =
    subst (λ (x : RwEvent). WriteLocks (Refused x m ∷ rest) (lock_answer answer)) (sym of.1) (last WriteLocks lock_answer [] (Refused (WriteArrive of.0) m) rest answer (Halted m) none is (refused of.0 m))
write_locks_by (Halt m ∷ rest) answer spelt = absurd spelt

-- a reader that waits
reads : (waited : List RwDeed) → ReadWaits waited → (deeds : List RwDeed) (answer : CallAnswer LockReply) → Spells rw_event rw_meaning stage.LeaveReading deeds answer → ReadLocks (waited ++ deeds) (lock_answer answer)
reads waited waits [] answer spelt = absurd spelt
reads waited waits (Event e Left ∷ rest) answer (of, ends) =
    subst (λ (x : RwEvent). ReadLocks (waited ++ Event x Left ∷ rest) (lock_answer answer)) (sym of.1) (last ReadLocks lock_answer waited (Event Leave Left) rest answer (Done (Ok outcome.Done)) ends.0 ends.1 (admitted waited waits))
reads waited waits (Event e Still ∷ rest) answer (of, on) =
    subst (λ (x : RwEvent). ReadLocks (waited ++ Event x Still ∷ rest) (lock_answer answer)) (sym of.1)
    (subst (λ (ds : List RwDeed). ReadLocks ds (lock_answer answer)) (append_assoc waited (Event Leave Still ∷ []) rest) (reads (waited ++ Event Leave Still ∷ []) (unadmitted waited waits) rest answer on))
reads waited waits (Event e (Arrived _) ∷ rest) answer (of, on) = absurd on
reads waited waits (Event e (Tried _) ∷ rest) answer (of, on) = absurd on
reads waited waits (Event e (Unlocked _) ∷ rest) answer (of, on) = absurd on
reads waited waits (Event e (Resumed _) ∷ rest) answer (of, on) = absurd on
reads waited waits (Refused e m ∷ rest) answer (of, none, is) =
    subst (λ (x : RwEvent). ReadLocks (waited ++ Refused x m ∷ rest) (lock_answer answer)) (sym of.1) (last ReadLocks lock_answer waited (Refused Leave m) rest answer (Halted m) none is (halted waited m waits))
reads waited waits (Halt m ∷ rest) answer spelt = absurd spelt

read_locks_by : (deeds : List RwDeed) (answer : CallAnswer LockReply) → Spells rw_event rw_meaning stage.RLock deeds answer → ReadLocks deeds (lock_answer answer)
read_locks_by [] answer spelt = absurd spelt
read_locks_by (Event e (Arrived AtOnce) ∷ rest) answer (of, ends) =
    subst (λ (x : RwEvent). ReadLocks (Event x (Arrived AtOnce) ∷ rest) (lock_answer answer)) (sym of.1) (last ReadLocks lock_answer [] (Event ReadArrive (Arrived AtOnce)) rest answer (Done (Ok outcome.Done)) ends.0 ends.1 at_once)
read_locks_by (Event e (Arrived Queued) ∷ rest) answer (of, on) =
    subst (λ (x : RwEvent). ReadLocks (Event x (Arrived Queued) ∷ rest) (lock_answer answer)) (sym of.1) (reads (Event ReadArrive (Arrived Queued) ∷ []) queued rest answer on)
read_locks_by (Event e (Tried _) ∷ rest) answer (of, on) = absurd on
read_locks_by (Event e (Unlocked _) ∷ rest) answer (of, on) = absurd on
read_locks_by (Event e (Resumed _) ∷ rest) answer (of, on) = absurd on
read_locks_by (Event e Left ∷ rest) answer (of, on) = absurd on
read_locks_by (Event e Still ∷ rest) answer (of, on) = absurd on
read_locks_by (Refused e m ∷ rest) answer (of, none, is) =
    subst (λ (x : RwEvent). ReadLocks (Refused x m ∷ rest) (lock_answer answer)) (sym of.1) (last ReadLocks lock_answer [] (Refused ReadArrive m) rest answer (Halted m) none is (refused m))
read_locks_by (Halt m ∷ rest) answer spelt = absurd spelt

-- a try, and an unlock: one such event
tries_event : (event e : RwEvent) (r : RwReply) (rest : List RwDeed) (answer : CallAnswer LockReply) (on : RwMutexStage → Type 0) → e ≡ event → Rest (try_meaning r) rest on answer → Tries event (Event e r ∷ rest) (try_answer answer)
tries_event event e (Tried b) rest answer on of ends =
    subst (λ (x : RwEvent). Tries event (Event x (Tried b) ∷ rest) (try_answer answer)) (sym of) (last (Tries event) try_answer [] (Event event (Tried b)) rest answer (Done (Ok (outcome.Tried b))) ends.0 ends.1 (tried b))
tries_event event e (Arrived _) rest answer on of ends = absurd ends
tries_event event e (Unlocked _) rest answer on of ends = absurd ends
tries_event event e (Resumed _) rest answer on of ends = absurd ends
tries_event event e Left rest answer on of ends = absurd ends
tries_event event e Still rest answer on of ends = absurd ends

unlocks_one : (event e : RwEvent) (u : Unlocking) (rest : List RwDeed) (answer given : CallAnswer LockReply) → e ≡ event → rest ≡ [] → answer ≡ given → unlock_answer given ≡ Done (answer_of u) → Unlocks event (Event e (Unlocked u) ∷ rest) (unlock_answer answer)
unlocks_one event e u rest answer given of none is says =
    subst (λ (x : RwEvent). Unlocks event (Event x (Unlocked u) ∷ rest) (unlock_answer answer)) (sym of)
    (last (Unlocks event) unlock_answer [] (Event event (Unlocked u)) rest answer given none is (subst (λ (a : Answer (Result (Unit {0}) Misuse)). Unlocks event (Event event (Unlocked u) ∷ []) a) (sym says) (unlocked u)))

unlocks_event : (event e : RwEvent) (r : RwReply) (rest : List RwDeed) (answer : CallAnswer LockReply) (on : RwMutexStage → Type 0) → e ≡ event → Rest (unlock_meaning r) rest on answer → Unlocks event (Event e r ∷ rest) (unlock_answer answer)
unlocks_event event e (Unlocked IsDone) rest answer on of ends = unlocks_one event e IsDone rest answer (Done (Ok outcome.Done)) of ends.0 ends.1 refl
unlocks_event event e (Unlocked (IsMisuse m)) rest answer on of ends = unlocks_one event e (IsMisuse m) rest answer (Done (Err m)) of ends.0 ends.1 refl
unlocks_event event e (Arrived _) rest answer on of ends = absurd ends
unlocks_event event e (Tried _) rest answer on of ends = absurd ends
unlocks_event event e (Resumed _) rest answer on of ends = absurd ends
unlocks_event event e Left rest answer on of ends = absurd ends
unlocks_event event e Still rest answer on of ends = absurd ends

-- a call of one event is spelt by that event and its answer
module _ {A : Type 0} (P : List RwDeed → Answer A → Type 0) (words : Result LockReply Misuse → A) (event : RwEvent) {means : RwReply → Step RwMutexStage LockReply} (by_event : (e : RwEvent) (r : RwReply) (rest : List RwDeed) (answer : CallAnswer LockReply) (on : RwMutexStage → Type 0) → e ≡ event → Rest (means r) rest on answer → P (Event e r ∷ rest) (running.told words answer)) (refusal : (m : Misuse) → P (Refused event m ∷ []) (Halted m))
    (first : RwMutexStage) (made : (now : ℕ) → rw_event first now ≡ event) (same : (r : RwReply) → rw_meaning first r ≡ means r) where
  one_by : (deeds : List RwDeed) (answer : CallAnswer LockReply) → Spells rw_event rw_meaning first deeds answer → P deeds (running.told words answer)
  one_by [] answer spelt = absurd spelt
  one_by (Event e r ∷ rest) answer (of, goes) =
      let on : RwMutexStage → Type 0 = λ later. Spells rw_event rw_meaning later rest answer in
      by_event e r rest answer on (of.1 ∙ made of.0) (subst (λ (s : Step RwMutexStage LockReply). Rest s rest on answer) (same r) goes)
  one_by (Refused e m ∷ rest) answer (of, none, is) =
      subst (λ (x : RwEvent). P (Refused x m ∷ rest) (running.told words answer)) (sym (of.1 ∙ made of.0)) (last P (running.told words) [] (Refused event m) rest answer (Halted m) none is (refusal m))
  one_by (Halt m ∷ rest) answer spelt = absurd spelt

-- the moments
timed : (shows : ℕ → Type 0) (event : RwEvent) → IsAt shows (rw_moment event) → IsTimed shows event
timed shows ReadArrive at = tt
timed shows ReadTry at = tt
timed shows ReadUnlock at = tt
timed shows (WriteArrive now) at = at
timed shows WriteTry at = tt
timed shows (WriteWoken now) at = at
timed shows WriteUnlock at = tt
timed shows Leave at = tt

clocked_one : (shows : ℕ → Type 0) (d : RwDeed) → IsTimely rw_moment shows d → IsClocked shows d
clocked_one shows (Event event (Arrived AtOnce)) timely = tt
clocked_one shows (Event event (Arrived Queued)) timely = timed shows event timely
clocked_one shows (Event event (Tried _)) timely = timed shows event timely
clocked_one shows (Event event (Unlocked unlocking)) timely = timed shows event timely
clocked_one shows (Event event (Resumed resumption)) timely = timed shows event timely
clocked_one shows (Event event Left) timely = timed shows event timely
clocked_one shows (Event event Still) timely = timed shows event timely
clocked_one shows (Refused event m) timely = timed shows event timely
clocked_one shows (Halt m) timely = tt

clocked_by : (shows : ℕ → Type 0) (deeds : List RwDeed) → AreTimely rw_moment shows deeds → AreClocked shows deeds
clocked_by shows [] timely = tt
clocked_by shows (d ∷ deeds) timely = (clocked_one shows d timely.0, clocked_by shows deeds timely.1)

-- a writer's lock's only event is an arrival by which the lock is acquired at once, or one that is refused
clocked_lock : (shows : ℕ → Type 0) (deeds : List RwDeed) (answer : CallAnswer LockReply) → Spells rw_event rw_meaning stage.Lock deeds answer → AreLazilyTimed rw_moment shows deeds → AreClocked shows deeds
clocked_lock shows [] answer spelt timely = tt
clocked_lock shows (Event e (Arrived AtOnce) ∷ []) answer spelt timely = (tt, tt)
clocked_lock shows (Event e (Arrived Queued) ∷ []) answer spelt timely = absurd spelt.1
clocked_lock shows (Event e (Tried _) ∷ []) answer spelt timely = absurd spelt.1
clocked_lock shows (Event e (Unlocked _) ∷ []) answer spelt timely = absurd spelt.1
clocked_lock shows (Event e (Resumed _) ∷ []) answer spelt timely = absurd spelt.1
clocked_lock shows (Event e Left ∷ []) answer spelt timely = absurd spelt.1
clocked_lock shows (Event e Still ∷ []) answer spelt timely = absurd spelt.1
clocked_lock shows (Event e r ∷ (d ∷ ds)) answer spelt timely = clocked_by shows (Event e r ∷ (d ∷ ds)) timely
clocked_lock shows (Refused e m ∷ rest) answer spelt timely = clocked_by shows (Refused e m ∷ rest) timely
clocked_lock shows (Halt m ∷ rest) answer spelt timely = absurd spelt

-- what a call did, by what its protocol's call did
module _ {N : Type 0} (shows : ℕ → Type 0) {start : State} {old new : Pass State N RwEvent RwReply} {from to : Front} {answer : CallAnswer LockReply} where
  pub as_here : {A : Type 0} (first : RwMutexStage) (spells : List RwDeed → Answer A → Type 0) (words : Result LockReply Misuse → A) → ((deeds : List RwDeed) → Spells rw_event rw_meaning first deeds answer → spells deeds (running.told words answer)) → {result : Answer A} → result ≡ running.told words answer → running.Did next true start (λ ds a. Spells rw_event rw_meaning first ds a) (λ ds. AreTimely rw_moment shows ds) old from answer new to
      → Did next start spells (AreClocked shows) old from result new to
  as_here first spells words spelt {result} is did =
      running.retold next true start (λ ds a. Spells rw_event rw_meaning first ds a) (λ ds. AreTimely rw_moment shows ds) spells (AreClocked shows) words old new from to answer result spelt (clocked_by shows) is did

  pub write_lock_did : {result : Answer (Unit {0})} → result ≡ lock_answer answer → running.Did next true start (λ ds a. Spells rw_event rw_meaning stage.Lock ds a) (λ ds. AreLazilyTimed rw_moment shows ds) old from answer new to → Did next start WriteLocks (AreClocked shows) old from result new to
  write_lock_did {result} is did =
      running.retold next true start (λ ds a. Spells rw_event rw_meaning stage.Lock ds a) (AreClocked shows) WriteLocks (AreClocked shows) lock_of old new from to answer result (λ ds spelt. write_locks_by ds answer spelt) (λ ds moments. moments) is
      (with_moments next start (λ ds a. Spells rw_event rw_meaning stage.Lock ds a) (λ ds. AreLazilyTimed rw_moment shows ds) (AreClocked shows) old new from to answer (λ ds spelt moments. clocked_lock shows ds answer spelt moments) did)

  pub read_lock_did : {result : Answer (Unit {0})} → result ≡ lock_answer answer → running.Did next true start (λ ds a. Spells rw_event rw_meaning stage.RLock ds a) (λ ds. AreTimely rw_moment shows ds) old from answer new to → Did next start ReadLocks (AreClocked shows) old from result new to
  read_lock_did is did = as_here stage.RLock ReadLocks lock_of (λ ds spelt. read_locks_by ds answer spelt) is did

  -- a try and an unlock are one such event
  pub try_did : (first : RwMutexStage) (event : RwEvent) → ((now : ℕ) → rw_event first now ≡ event) → ((r : RwReply) → rw_meaning first r ≡ try_meaning r) → {result : Answer Bool} → result ≡ try_answer answer → running.Did next true start (λ ds a. Spells rw_event rw_meaning first ds a) (λ ds. AreTimely rw_moment shows ds) old from answer new to → Did next start (Tries event) (AreClocked shows) old from result new to
  try_did first event made means is did = as_here first (Tries event) try_of (λ ds spelt. one_by (Tries event) try_of event (tries_event event) refused first made means ds answer spelt) is did

  pub unlock_did : (first : RwMutexStage) (event : RwEvent) → ((now : ℕ) → rw_event first now ≡ event) → ((r : RwReply) → rw_meaning first r ≡ unlock_meaning r) → {result : Answer (Result (Unit {0}) Misuse)} → result ≡ unlock_answer answer → running.Did next true start (λ ds a. Spells rw_event rw_meaning first ds a) (λ ds. AreTimely rw_moment shows ds) old from answer new to → Did next start (Unlocks event) (AreClocked shows) old from result new to
  unlock_did first event made means is did = as_here first (Unlocks event) unlock_of (λ ds spelt. one_by (Unlocks event) unlock_of event (unlocks_event event) refused first made means ds answer spelt) is did
