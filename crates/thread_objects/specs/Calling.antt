-- What a call leaves of its caller.
use Rattle.std.specs.Prelude.{ℕ, Option}
use Rattle.sync_model.specs.Note.{Holding, SameHome}
use Rattle.sync_model.specs.Shared.{items_of}
use Rattle.workload.specs.Plan.{Plan}
use Rattle.run_record.specs.Limits.{IsCallOf}
use Rattle.thread_objects.specs.GivenUp.{MakesOnly}
use Rattle.thread_objects.specs.Spending.{Spends}

-- The caller of a note is still the same one. The calls that it made on maps and atomics are the workload's, and took no more than so many of its spare entries.
pub record HasCalled {H N : Type 0} (at : H → N → Type 0) (own : N → Option Holding) (plan : Plan) (cost : ℕ) (old new : N) : Type 0 where
  pub home : SameHome at old new
  pub spends : Spends own cost old new
  pub calls : MakesOnly (IsCallOf plan) (items_of (own old)) (items_of (own new))
