use Rattle.std.proofs.Common.{Ok}
use Rattle.sync_model.specs.declared.answer.Answer.TheVariants.{Done}
use Rattle.script_calls.specs.declared.call.Operation.TheVariants as operations
use Rattle.workload.specs.declared.object.ObjectKind.TheVariants as kinds
use Rattle.run_record.specs.Record.{object_number}
use Rattle.run_record.proofs.Returning.{spelt_on}
use Rattle.run_record.proofs.SemaReturns.{sema_returns}
use Rattle.run_record.proofs.laws.returns.what_a_semaphore_call_has_done.Goals as goal

pub returns : goal.returns
returns c plan worker before size object call of items answer there is called spelt =
    sema_returns (object_number call.object) record { gains = c.calls_gain_at_their_end.ensures.done; gives = c.calls_give_what_they_may.ensures } of items answer
    (spelt_on plan worker before object call (kinds.Sema size) (operations.Sema of) items (Done (Ok answer)) there is called spelt)
