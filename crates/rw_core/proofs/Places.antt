-- What a caller's place says of the lists.
use Rattle.std.proofs.Common.{◌≡◌, ℕ, Bool, true, false, refl, ◌⊎◌, inl, inr}
use Rattle.std.specs.Prelude.{if◌then◌else◌}
use Rattle.std.proofs.lemmas.Bool.{false≢true}
use Rattle.mutex_core.specs.MutexMachine as mutex
use Rattle.mutex_core.specs.declared.place.Place.{Place as MutexPlace}
use Rattle.mutex_core.specs.declared.place.Place.TheVariants as mutex_place
use Rattle.rw_core.specs.declared.place.Place.{Place}
use Rattle.rw_core.specs.declared.place.Place.TheVariants as place
use Rattle.rw_core.specs.RwMachine.{State, is_among, waits_as, place_at, place_of}

past : (b : Bool) (p q r : Place) → (p ≡ r → false ≡ true) → (if b then p else q) ≡ r → (b ≡ false) × (q ≡ r)
past true p q r never at = absurd (false≢true (never at))
past false p q r never at = (refl, at)

-- a caller that is at the inner mutex is in no list
pub record IsInner (s : State) (c : ℕ) (p : Place) : Type 0 where
  pub unadmitted : is_among c s.admitted ≡ false
  pub ungranted : is_among c s.granted ≡ false
  pub unannounced : waits_as c s.writer ≡ false
  pub unqueued : is_among c s.queue ≡ false
  pub inner : place_at (mutex.place_of s.inner c) ≡ p

inner-by : (s : State) (c : ℕ) (p : Place) → (place.Admitted ≡ p → false ≡ true) → (place.Granted ≡ p → false ≡ true) → (place.Waiting ≡ p → false ≡ true) → (place.Queued ≡ p → false ≡ true) → place_of s c ≡ p → IsInner s c p
inner-by s c p not_admitted not_granted not_waiting not_queued at =
    let admitted = past _ _ _ p not_admitted at in
    let granted = past _ _ _ p not_granted admitted.1 in
    let waiting = past _ _ _ p not_waiting granted.1 in
    let queued = past _ _ _ p not_queued waiting.1 in
    record { unadmitted = admitted.0; ungranted = granted.0; unannounced = waiting.0; unqueued = queued.0; inner = queued.1 }

pub out-inner : (s : State) (c : ℕ) → place_of s c ≡ place.Out → IsInner s c place.Out
out-inner s c at = inner-by s c place.Out (λ e. cc) (λ e. cc) (λ e. cc) (λ e. cc) at

pub woken-inner : (s : State) (c : ℕ) → place_of s c ≡ place.Woken → IsInner s c place.Woken
woken-inner s c at = inner-by s c place.Woken (λ e. cc) (λ e. cc) (λ e. cc) (λ e. cc) at

pub handed-inner : (s : State) (c : ℕ) → place_of s c ≡ place.Handed → IsInner s c place.Handed
handed-inner s c at = inner-by s c place.Handed (λ e. cc) (λ e. cc) (λ e. cc) (λ e. cc) at

pub mutex-out : (p : MutexPlace) → place_at p ≡ place.Out → p ≡ mutex_place.Out
mutex-out mutex_place.Out at = refl
mutex-out mutex_place.Waiting at = cc
mutex-out mutex_place.Woken at = cc
mutex-out mutex_place.Handed at = cc

pub mutex-woken : (p : MutexPlace) → place_at p ≡ place.Woken → p ≡ mutex_place.Woken
mutex-woken mutex_place.Out at = cc
mutex-woken mutex_place.Waiting at = cc
mutex-woken mutex_place.Woken at = refl
mutex-woken mutex_place.Handed at = cc

pub mutex-handed : (p : MutexPlace) → place_at p ≡ place.Handed → p ≡ mutex_place.Handed
mutex-handed mutex_place.Out at = cc
mutex-handed mutex_place.Waiting at = cc
mutex-handed mutex_place.Woken at = cc
mutex-handed mutex_place.Handed at = refl

-- a writer that the inner mutex woke or handed on is in flight there
pub in_flight : (s : State) (c : ℕ) → (place_of s c ≡ place.Woken) ⊎ (place_of s c ≡ place.Handed) → (mutex.place_of s.inner c ≡ mutex_place.Woken) ⊎ (mutex.place_of s.inner c ≡ mutex_place.Handed)
in_flight s c (inl at) = inl (mutex-woken _ (woken-inner s c at).inner)
in_flight s c (inr at) = inr (mutex-handed _ (handed-inner s c at).inner)
