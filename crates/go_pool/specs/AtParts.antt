-- What a call of one part did, within a call of the pool.
use Rattle.std.specs.Prelude.{◌≡◌, ℕ, true, Some, set}
use Rattle.sync_model.specs.declared.answer.Answer.{Answer}
use Rattle.sync_model.specs.Front.{Front}
use Rattle.pool_core.specs.PartMachine.{part_start, part_next}
use Rattle.call_loop.specs.Calls as running
use Rattle.go_pool.specs.declared.pass.PoolPass.{PoolPass}
use Rattle.go_pool.specs.declared.pool.Pool.{Pool}
use Rattle.go_pool.specs.Parts.{PartPass, pass_at}
use Rattle.go_pool.specs.Pools.{Deeds, number_of, room_of}

-- the pass to one part did this, and those to the others are as before
pub record DidAt {N H A : Type 0} (pool : Pool N H) (part : ℕ) (spells : Deeds → Answer A → Type 0) (timely : Deeds → Type 0) (old : PoolPass N) (from : Front) (answer : Answer A) (new : PoolPass N) (to : Front) : Type 0 where
  pub before : PartPass N
  pub after : PartPass N
  pub was : pass_at part old ≡ Some before
  pub set_is : new.parts.items ≡ set old.parts.items part after
  pub number : number_of new ≡ number_of old
  pub did : running.Did part_next true (part_start (room_of pool)) spells timely before from answer after to
