-- What kind of answer each event gets, and that the callers stay the same.
use Rattle.std.proofs.Common.{◌≡◌, ℕ, Bool, true, false, ◌&&◌, [], ◌∷◌, refl, sym, subst, ◌∙◌}
use Rattle.std.specs.Prelude.{nat_lt, ◌==◌, if◌then◌else◌}
use Rattle.std.proofs.lemmas.Bool.{false≢true}
use Rattle.sync_model.specs.Log.{after}
use Rattle.mutex_core.specs.MutexMachine as mutex
use Rattle.mutex_core.specs.declared.event.MutexEvent.TheVariants as mutex_event
use Rattle.mutex_core.specs.declared.reply.MutexReply.{MutexReply}
use Rattle.mutex_core.specs.declared.reply.MutexReply.TheVariants as mutex_reply
use Rattle.mutex_core.specs.declared.reply.Arrival.TheVariants as mutex_arrival
use Rattle.mutex_core.specs.declared.reply.Resumption.TheVariants as mutex_resumption
use Rattle.rw_core.specs.declared.event.RwEvent.{RwEvent}
use Rattle.rw_core.specs.declared.event.RwEvent.TheVariants as event
use Rattle.rw_core.specs.declared.place.Place.{Place}
use Rattle.rw_core.specs.declared.place.Place.TheVariants as place
use Rattle.rw_core.specs.declared.reply.RwReply.{RwReply}
use Rattle.rw_core.specs.declared.reply.RwReply.TheVariants.{Still}
use Rattle.rw_core.specs.declared.writer.Writer.{Writer}
use Rattle.rw_core.specs.declared.writer.Writer.TheVariants as writer
use Rattle.rw_core.specs.RwMachine.{State, is_announced, is_holding, place_of, still, last_read, read_unlocked, write_arrived, write_resumed, write_tried, write_unlocked, at_place, next, is_needed, may_make}
use Rattle.rw_core.specs.Edges.{Log}
use Rattle.rw_core.specs.Standing.{is_answer}

no : {A : Type 0} → false ≡ true → A
no e = absurd (false≢true e)

-- a step that answers the event, and keeps the callers
record Answers (e : RwEvent) (s : State) (step : State × RwReply) : Type 0 where
  answer : is_answer e step.1 ≡ true
  callers : step.0.callers ≡ s.callers

either : (e : RwEvent) (s : State) (b : Bool) (p q : State × RwReply) → Answers e s p → Answers e s q → Answers e s (if b then p else q)
either e s true p q x y = x
either e s false p q x y = y

both : (e : RwEvent) (s : State) (step : State × RwReply) → is_answer e step.1 ≡ true → step.0.callers ≡ s.callers → Answers e s step
both e s step answer callers = record { answer = answer; callers = callers }

last-callers : (w : Writer) (s : State) → (last_read w s).callers ≡ s.callers
last-callers writer.Nobody s = refl
last-callers (writer.Waiting c) s = refl
last-callers writer.Holding s = refl

read_unlocked-answers : (s : State) → Answers event.ReadUnlock s (read_unlocked s)
read_unlocked-answers s =
    either event.ReadUnlock s (s.readers == 0) _ _ (both _ s _ refl refl) (either event.ReadUnlock s (s.readers == 1) _ _ (both _ s _ refl (last-callers s.writer s)) (both _ s _ refl refl))

write_arrived-answers : (now : ℕ) (step : mutex.State × MutexReply) (c : ℕ) (s : State) → Answers (event.WriteArrive now) s (write_arrived step c s)
write_arrived-answers now (j, mutex_reply.Arrived mutex_arrival.Acquired) c s = either (event.WriteArrive now) s (s.readers == 0) _ _ (both _ s _ refl refl) (both _ s _ refl refl)
write_arrived-answers now (j, _) c s = both (event.WriteArrive now) s _ refl refl

write_resumed-answers : (now : ℕ) (step : mutex.State × MutexReply) (c : ℕ) (s : State) → Answers (event.WriteWoken now) s (write_resumed step c s)
write_resumed-answers now (j, mutex_reply.Resumed mutex_resumption.Acquired) c s = either (event.WriteWoken now) s (s.readers == 0) _ _ (both _ s _ refl refl) (both _ s _ refl refl)
write_resumed-answers now (j, _) c s = both (event.WriteWoken now) s _ refl refl

write_tried-answers : (step : mutex.State × MutexReply) (s : State) → Answers event.WriteTry s (write_tried step s)
write_tried-answers (j, mutex_reply.Tried true) s = either event.WriteTry s (s.readers == 0) _ _ (both _ s _ refl refl) (both _ s _ refl refl)
write_tried-answers (j, _) s = both event.WriteTry s _ refl refl

write_unlocked-answers : (step : mutex.State × MutexReply) (s : State) → Answers event.WriteUnlock s (write_unlocked step s)
write_unlocked-answers step s = either event.WriteUnlock s (is_holding s.writer) _ _ (both _ s _ refl refl) (both _ s _ refl refl)

at_place-answers : (e : RwEvent) (p : Place) (c : ℕ) (s : State) → is_needed e p ≡ true → Answers e s (at_place e p c s)
at_place-answers event.ReadArrive place.Out c s needed = either event.ReadArrive s (is_announced s.writer) _ _ (both _ s _ refl refl) (both _ s _ refl refl)
at_place-answers event.ReadArrive _ c s needed = no needed
at_place-answers event.ReadTry place.Out c s needed = either event.ReadTry s (is_announced s.writer) _ _ (both _ s _ refl refl) (both _ s _ refl refl)
at_place-answers event.ReadTry _ c s needed = no needed
at_place-answers event.ReadUnlock _ c s needed = read_unlocked-answers s
at_place-answers (event.WriteArrive now) place.Out c s needed = write_arrived-answers now (mutex.next s.inner c (mutex_event.Arrive now)) c s
at_place-answers (event.WriteArrive now) _ c s needed = no needed
at_place-answers event.WriteTry place.Out c s needed = write_tried-answers (mutex.next s.inner c mutex_event.Try) s
at_place-answers event.WriteTry _ c s needed = no needed
at_place-answers (event.WriteWoken now) place.Woken c s needed = write_resumed-answers now (mutex.next s.inner c (mutex_event.Woken now)) c s
at_place-answers (event.WriteWoken now) place.Handed c s needed = write_resumed-answers now (mutex.next s.inner c (mutex_event.Woken now)) c s
at_place-answers (event.WriteWoken now) _ c s needed = no needed
at_place-answers event.WriteUnlock _ c s needed = write_unlocked-answers (mutex.next s.inner c mutex_event.Unlock) s
at_place-answers event.Leave place.Granted c s needed = both event.Leave s _ refl refl
at_place-answers event.Leave place.Admitted c s needed = both event.Leave s _ refl refl
at_place-answers event.Leave _ c s needed = no needed

at_place-still : (e : RwEvent) (p : Place) (c : ℕ) (s : State) → is_needed e p ≡ false → at_place e p c s ≡ still s
at_place-still event.ReadArrive place.Out c s needed = no (sym needed)
at_place-still event.ReadArrive _ c s needed = refl
at_place-still event.ReadTry place.Out c s needed = no (sym needed)
at_place-still event.ReadTry _ c s needed = refl
at_place-still event.ReadUnlock _ c s needed = no (sym needed)
at_place-still (event.WriteArrive now) place.Out c s needed = no (sym needed)
at_place-still (event.WriteArrive now) _ c s needed = refl
at_place-still event.WriteTry place.Out c s needed = no (sym needed)
at_place-still event.WriteTry _ c s needed = refl
at_place-still (event.WriteWoken now) place.Woken c s needed = no (sym needed)
at_place-still (event.WriteWoken now) place.Handed c s needed = no (sym needed)
at_place-still (event.WriteWoken now) _ c s needed = refl
at_place-still event.WriteUnlock _ c s needed = no (sym needed)
at_place-still event.Leave place.Granted c s needed = no (sym needed)
at_place-still event.Leave place.Admitted c s needed = no (sym needed)
at_place-still event.Leave _ c s needed = refl

pub answers : (s : State) (c : ℕ) (e : RwEvent) → may_make s c e ≡ true → is_answer e (next s c e).1 ≡ true
answers s c e may = by_test (nat_lt c s.callers) may
  where
    by_test : (b : Bool) → (b && is_needed e (place_of s c)) ≡ true → is_answer e (if b then at_place e (place_of s c) c s else still s).1 ≡ true
    by_test true may = (at_place-answers e (place_of s c) c s may).answer
    by_test false may = no may

pub stays : (s : State) (c : ℕ) (e : RwEvent) → may_make s c e ≡ false → next s c e ≡ still s
stays s c e may = by_test (nat_lt c s.callers) may
  where
    by_test : (b : Bool) → (b && is_needed e (place_of s c)) ≡ false → (if b then at_place e (place_of s c) c s else still s) ≡ still s
    by_test true may = at_place-still e (place_of s c) c s may
    by_test false may = refl

-- `Still` is no answer
still-answers-nothing : (e : RwEvent) → is_answer e Still ≡ false
still-answers-nothing event.ReadArrive = refl
still-answers-nothing event.ReadTry = refl
still-answers-nothing event.ReadUnlock = refl
still-answers-nothing (event.WriteArrive now) = refl
still-answers-nothing event.WriteTry = refl
still-answers-nothing (event.WriteWoken now) = refl
still-answers-nothing event.WriteUnlock = refl
still-answers-nothing event.Leave = refl

-- so an event that its caller may make isn't answered so
pub made : (s : State) (c : ℕ) (e : RwEvent) → may_make s c e ≡ true → (next s c e).1 ≡ Still → ⊥
made s c e may is = no (sym (still-answers-nothing e) ∙ subst (λ (r : RwReply). is_answer e r ≡ true) is (answers s c e may))

callers-at_place : (e : RwEvent) (p : Place) (c : ℕ) (s : State) → (at_place e p c s).0.callers ≡ s.callers
callers-at_place e p c s = by_test (is_needed e p) refl
  where
    by_test : (b : Bool) → is_needed e p ≡ b → (at_place e p c s).0.callers ≡ s.callers
    by_test true needed = (at_place-answers e p c s needed).callers
    by_test false needed = rw (at_place-still e p c s needed) refl

pub callers-next : (s : State) (c : ℕ) (e : RwEvent) → (next s c e).0.callers ≡ s.callers
callers-next s c e = by_test (nat_lt c s.callers)
  where
    by_test : (b : Bool) → (if b then at_place e (place_of s c) c s else still s).0.callers ≡ s.callers
    by_test true = callers-at_place e (place_of s c) c s
    by_test false = refl

-- the callers stay the same
pub callers-after : (s : State) (log : Log) → (after next s log).callers ≡ s.callers
callers-after s [] = refl
callers-after s (entry ∷ log) = callers-after (next s entry.caller entry.event).0 log ∙ callers-next s entry.caller entry.event
