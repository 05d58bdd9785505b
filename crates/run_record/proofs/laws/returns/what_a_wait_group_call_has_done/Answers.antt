use Rattle.std.proofs.Common.{Ok}
use Rattle.sync_model.specs.declared.answer.Answer.TheVariants.{Done}
use Rattle.script_calls.specs.declared.call.Operation.TheVariants as operations
use Rattle.workload.specs.declared.object.ObjectKind.TheVariants as kinds
use Rattle.run_record.specs.Record.{object_number}
use Rattle.run_record.proofs.Returning.{spelt_on}
use Rattle.run_record.proofs.WaitReturns.{wait_group_returns}
use Rattle.run_record.proofs.laws.returns.what_a_wait_group_call_has_done.Goals as goal

pub returns : goal.returns
returns c plan worker before start object call of items answer there is called spelt =
    wait_group_returns (object_number call.object) c.calls_gain_at_their_end.ensures.done of items answer
    (spelt_on plan worker before object call (kinds.WaitGroup start) (operations.WaitGroup of) items (Done (Ok answer)) there is called spelt)
