-- What one call of a pool's caller did.
use Rattle.std.specs.Prelude.{◌≡◌, ℕ}
use Rattle.sync_model.specs.declared.answer.Answer.{Answer}
use Rattle.sync_outside.specs.declared.clock.Clock.{Ghosts}
use Rattle.go_pool.specs.declared.pass.PoolPass as passes
use Rattle.go_pool.specs.Pools.{Deeds, Did, IsLawful}
use Rattle.go_pool.specs.Renewals.{IsRenewed}
use Rattle.go_sync.specs.declared.pool.PoolCaller.{PoolCaller}
use Rattle.go_sync.specs.Made.{no_front}

-- the same pass, however many calls it is good for
abbrev pub IsSamePass : {N : Type 0} → passes.PoolPass N → passes.PoolPass N → Type 0
IsSamePass old new = (calls : ℕ) × IsRenewed calls old new

-- The caller made the events of a call that is spelt so, and no others, each the machine's at its place in the journal of its part; it is still at its pool, and what it has now seen of each part follows the machine.
pub record Makes {C A : Type 0} {clock : Ghosts C} (spells : Deeds → Answer A → Type 0) (old : PoolCaller C clock) (answer : Answer A) (new : PoolCaller C clock) : Type 0 where
  pub pool : new.pool ≡ old.pool
  pub at : new.clock ≡ old.clock
  pub did : (time : ℕ) × Did old.pool.now spells old.pass (no_front 0) answer new.pass (no_front time)
  pub lawful : IsLawful old.pool.now new.pass
