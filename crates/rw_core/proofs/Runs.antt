-- Whole runs, from the unlocked lock on.
use Rattle.std.proofs.Common.{ℕ, [], ◌∷◌, refl, arith}
use Rattle.sync_model.specs.Log.{after}
use Rattle.mutex_core.specs.MutexMachine as mutex
use Rattle.mutex_core.specs.declared.event.MutexEvent.{MutexEvent}
use Rattle.mutex_core.specs.declared.event.MutexEvent.TheVariants as mutex_event
use Rattle.rw_core.specs.declared.event.RwEvent.{RwEvent}
use Rattle.rw_core.specs.declared.event.RwEvent.TheVariants as event
use Rattle.rw_core.specs.RwMachine.{State, start, next, IsValid}
use Rattle.rw_core.specs.Edges.{Log}
use Rattle.rw_core.proofs.Validity.{KeepsInner, next-valid}

-- what the inner mutex's laws say
pub record MutexLaws : Type 0 where
  pub begins : (n : ℕ) → mutex.IsValid (mutex.start n)
  pub goes_on : (i : mutex.State) (c : ℕ) (e : MutexEvent) → mutex.IsValid i → mutex.IsValid (mutex.next i c e).0

keeps_inner : MutexLaws → (s : State) (c : ℕ) (e : RwEvent) → IsValid s → KeepsInner s c e
keeps_inner laws s c (event.WriteArrive now) h = laws.goes_on s.inner c (mutex_event.Arrive now) h.inner
keeps_inner laws s c event.WriteTry h = laws.goes_on s.inner c mutex_event.Try h.inner
keeps_inner laws s c (event.WriteWoken now) h = laws.goes_on s.inner c (mutex_event.Woken now) h.inner
keeps_inner laws s c event.WriteUnlock h = laws.goes_on s.inner c mutex_event.Unlock h.inner
keeps_inner laws s c event.ReadArrive h = tt
keeps_inner laws s c event.ReadTry h = tt
keeps_inner laws s c event.ReadUnlock h = tt
keeps_inner laws s c event.Leave h = tt

pub keeps : MutexLaws → (s : State) (c : ℕ) (e : RwEvent) → IsValid s → IsValid (next s c e).0
keeps laws s c e h = next-valid s c e (keeps_inner laws s c e h) h

pub start-valid : MutexLaws → (n : ℕ) → IsValid (start n)
start-valid laws n = record {
  exclusive = λ e. refl;
  write_waits = λ e. cc;
  read_waits = λ e. refl;
  locked = refl;
  inner = laws.begins n;
  same_callers = refl;
  apart = λ c. omega arith;
  among = λ c above. refl;
}

after-valid : MutexLaws → (s : State) (log : Log) → IsValid s → IsValid (after next s log)
after-valid laws s [] h = h
after-valid laws s (entry ∷ log) h = after-valid laws (next s entry.caller entry.event).0 log (keeps laws s entry.caller entry.event h)

pub run-valid : MutexLaws → (n : ℕ) (log : Log) → IsValid (after next (start n) log)
run-valid laws n log = after-valid laws (start n) log (start-valid laws n)
