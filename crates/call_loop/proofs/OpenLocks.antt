-- A newcomer at an open lock ends its call at once.
use Rattle.std.proofs.Common.{◌≡◌, ℕ, true, sym, subst, refl}
use Rattle.mutex_core.specs.declared.event.MutexEvent.TheVariants as mutex_event
use Rattle.mutex_core.specs.declared.reply.MutexReply.{MutexReply}
use Rattle.mutex_core.specs.declared.reply.MutexReply.TheVariants as mutex_reply
use Rattle.mutex_core.specs.declared.reply.Arrival.TheVariants as mutex_arrival
use Rattle.mutex_core.specs.MutexMachine as mutex
use Rattle.rw_core.specs.declared.event.RwEvent.TheVariants as rw_event
use Rattle.rw_core.specs.declared.reply.RwReply.{RwReply}
use Rattle.rw_core.specs.declared.reply.RwReply.TheVariants as rw_reply
use Rattle.rw_core.specs.declared.reply.Arrival.TheVariants as rw_arrival
use Rattle.rw_core.specs.RwMachine as rw_lock
use Rattle.protocols.specs.declared.mutex.MutexStage.{MutexStage}
use Rattle.protocols.specs.declared.mutex.MutexStage.TheVariants as mutex_stage
use Rattle.protocols.specs.declared.rw_mutex.RwMutexStage.{RwMutexStage}
use Rattle.protocols.specs.declared.rw_mutex.RwMutexStage.TheVariants as rw_stage
use Rattle.protocols.specs.MutexStages as mutex_stages
use Rattle.protocols.specs.RwMutexStages as rw_stages
use Rattle.call_loop.specs.Stages.{EndsCall}

mutex_unqueued : (reply : MutexReply) → ((ticket : ℕ) → reply ≡ mutex_reply.Arrived (mutex_arrival.Queued ticket) → ⊥) → EndsCall (mutex_stages.lock_meaning reply)
mutex_unqueued (mutex_reply.Arrived mutex_arrival.Acquired) never = tt
mutex_unqueued (mutex_reply.Arrived (mutex_arrival.Queued ticket)) never = absurd (never ticket refl)
mutex_unqueued (mutex_reply.Tried acquired) never = tt
mutex_unqueued (mutex_reply.Unlocked unlocking) never = tt
mutex_unqueued (mutex_reply.Resumed resumption) never = tt
mutex_unqueued mutex_reply.Still never = tt

module _ (s : mutex.State) (first : MutexStage) (is : first ≡ mutex_stage.Lock) (free : mutex.is_open s ≡ true) where
  pub mutex_ends : ((state : mutex.State) (caller now ticket : ℕ) → mutex.is_open state ≡ true → (mutex.next state caller (mutex_event.Arrive now)).1 ≡ mutex_reply.Arrived (mutex_arrival.Queued ticket) → ⊥) → (caller now : ℕ) → EndsCall (mutex_stages.mutex_meaning first (mutex.next s caller (mutex_stages.mutex_event first now)).1)
  mutex_ends law caller now =
      subst (λ (g : MutexStage). EndsCall (mutex_stages.mutex_meaning g (mutex.next s caller (mutex_stages.mutex_event g now)).1)) (sym is) (mutex_unqueued (mutex.next s caller (mutex_event.Arrive now)).1 (λ ticket. law s caller now ticket free))

  pub mutex_at_any : ((state : mutex.State) (caller now other : ℕ) → mutex.is_open state ≡ true → mutex.next state caller (mutex_event.Arrive now) ≡ mutex.next state caller (mutex_event.Arrive other)) → (caller now other : ℕ)
      → mutex.next s caller (mutex_stages.mutex_event first now) ≡ mutex.next s caller (mutex_stages.mutex_event first other)
  mutex_at_any law caller now other = subst (λ (g : MutexStage). mutex.next s caller (mutex_stages.mutex_event g now) ≡ mutex.next s caller (mutex_stages.mutex_event g other)) (sym is) (law s caller now other free)

rw_unqueued : (reply : RwReply) → (reply ≡ rw_reply.Arrived rw_arrival.Queued → ⊥) → EndsCall (rw_stages.arrive_meaning rw_stage.Resume reply)
rw_unqueued (rw_reply.Arrived rw_arrival.Acquired) never = tt
rw_unqueued (rw_reply.Arrived rw_arrival.Queued) never = absurd (never refl)
rw_unqueued (rw_reply.Tried acquired) never = tt
rw_unqueued (rw_reply.Unlocked unlocking) never = tt
rw_unqueued (rw_reply.Resumed resumption) never = tt
rw_unqueued rw_reply.Left never = tt
rw_unqueued rw_reply.Still never = tt

module _ (s : rw_lock.State) (first : RwMutexStage) (is : first ≡ rw_stage.Lock) (free : rw_lock.is_open s ≡ true) where
  pub rw_ends : rw_lock.IsValid s → ((state : rw_lock.State) (caller now : ℕ) → rw_lock.IsValid state → rw_lock.is_open state ≡ true → (rw_lock.next state caller (rw_event.WriteArrive now)).1 ≡ rw_reply.Arrived rw_arrival.Queued → ⊥) → (caller now : ℕ)
      → EndsCall (rw_stages.rw_meaning first (rw_lock.next s caller (rw_stages.rw_event first now)).1)
  rw_ends valid law caller now =
      subst (λ (g : RwMutexStage). EndsCall (rw_stages.rw_meaning g (rw_lock.next s caller (rw_stages.rw_event g now)).1)) (sym is) (rw_unqueued (rw_lock.next s caller (rw_event.WriteArrive now)).1 (law s caller now valid free))

  pub rw_at_any : ((state : rw_lock.State) (caller now other : ℕ) → rw_lock.is_open state ≡ true → rw_lock.next state caller (rw_event.WriteArrive now) ≡ rw_lock.next state caller (rw_event.WriteArrive other)) → (caller now other : ℕ)
      → rw_lock.next s caller (rw_stages.rw_event first now) ≡ rw_lock.next s caller (rw_stages.rw_event first other)
  rw_at_any law caller now other = subst (λ (g : RwMutexStage). rw_lock.next s caller (rw_stages.rw_event g now) ≡ rw_lock.next s caller (rw_stages.rw_event g other)) (sym is) (law s caller now other free)
