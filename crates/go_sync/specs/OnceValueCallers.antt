-- What one call did of the caller of a once that keeps a value.
use Rattle.std.specs.Prelude.{◌≡◌, true}
use Rattle.sync_model.specs.declared.answer.Answer.{Answer}
use Rattle.wait_cores.specs.OnceMachine.{next}
use Rattle.sync_outside.specs.declared.clock.Clock.{Ghosts}
use Rattle.go_waits.specs.OnceCalls.{OnceDeeds, RunsOnce}
use Rattle.go_waits.specs.Onces.{start_of, IsOnceLawful}
use Rattle.go_sync.specs.declared.once_value.OnceValueCaller.{OnceValueCaller}
use Rattle.go_sync.specs.Made.{Made}

-- The caller made the events of a call that is spelt so, and no others, each the machine's at its place; it is still at its once, what it has now seen follows the machine, and in that the function was begun at most once.
pub record Makes {T C : Type 0} {clock : Ghosts C} (spells : OnceDeeds T → Answer T → Type 0) (old : OnceValueCaller T C clock) (answer : Answer T) (new : OnceValueCaller T C clock) : Type 0 where
  pub once : new.once ≡ old.once
  pub at : new.clock ≡ old.clock
  pub did : Made next true (start_of old.once.now) spells old.pass answer new.pass
  pub alone : RunsOnce new.pass
  pub lawful : IsOnceLawful old.once.now new.pass
