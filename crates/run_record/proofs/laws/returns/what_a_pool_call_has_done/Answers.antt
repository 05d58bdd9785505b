use Rattle.std.proofs.Common.{Ok}
use Rattle.sync_model.specs.declared.answer.Answer.TheVariants.{Done}
use Rattle.script_calls.specs.declared.call.Operation.TheVariants as operations
use Rattle.workload.specs.declared.object.ObjectKind.TheVariants as kinds
use Rattle.run_record.specs.Objects.{first_part}
use Rattle.run_record.proofs.PoolReturns.{LooksEverywhere, pool_returns}
use Rattle.run_record.proofs.Returning.{spelt_on}
use Rattle.run_record.proofs.laws.returns.what_a_pool_call_has_done.Goals as goal

pub returns : goal.returns
returns c plan worker before object call of items answer there is called inside spelt =
    let everywhere : LooksEverywhere = record { own = c.looks_everywhere.ensures.own; others = c.looks_everywhere.ensures.others; victims = c.looks_everywhere.ensures.victims } in
    pool_returns plan.workers worker (first_part plan call.object) inside everywhere of items answer
    (spelt_on plan worker before object call kinds.Pool (operations.Pool of) items (Done (Ok answer)) there is called spelt)
