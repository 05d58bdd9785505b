-- Where the mode changes.
use Rattle.std.specs.Prelude.{◌≡◌, ℕ, true, false, ◌⊎◌, List, [], ◌∷◌}
use Rattle.mutex_core.specs.declared.event.MutexEvent.{MutexEvent}
use Rattle.mutex_core.specs.declared.event.MutexEvent.TheVariants.{Woken}
use Rattle.mutex_core.specs.declared.reply.MutexReply.{MutexReply}
use Rattle.mutex_core.specs.declared.reply.MutexReply.TheVariants.{Resumed}
use Rattle.mutex_core.specs.declared.reply.Resumption.TheVariants.{Acquired, Requeued}
use Rattle.mutex_core.specs.declared.waiter.Waiter.{Waiter}
use Rattle.mutex_core.specs.declared.waiter.Flight.TheVariants as flight
use Rattle.mutex_core.specs.MutexMachine.{State}
use Rattle.mutex_core.specs.Starving.{is_starving}

-- a woken waiter that starves loses against a newcomer
pub record StarvesAndLoses (state : State) (event : MutexEvent) (reply : MutexReply) : Type 0 where
  pub waiter : Waiter
  pub now : ℕ
  pub in_flight : state.flight ≡ flight.Woken waiter
  pub goes_on : event ≡ Woken now
  pub lost : reply ≡ Resumed Requeued
  pub starves : is_starving waiter now ≡ true

-- a waiter that was handed the mutex goes on, and doesn't starve or has nobody behind it
pub record IsTheLastToStarve (state : State) (event : MutexEvent) (reply : MutexReply) : Type 0 where
  pub front : Waiter
  pub rest : List Waiter
  pub now : ℕ
  pub handed : state.flight ≡ flight.Handed
  pub queue : state.queue ≡ front ∷ rest
  pub goes_on : event ≡ Woken now
  pub acquired : reply ≡ Resumed Acquired
  pub enough : (is_starving front now ≡ false) ⊎ (rest ≡ [])
