use Rattle.std.proofs.Common.{Ok}
use Rattle.sync_model.specs.declared.answer.Answer.TheVariants.{Done}
use Rattle.script_calls.specs.declared.call.Operation.TheVariants as operations
use Rattle.workload.specs.declared.object.ObjectKind.TheVariants as kinds
use Rattle.run_record.specs.Record.{object_number}
use Rattle.run_record.proofs.LockReturns.{MutexLaws}
use Rattle.run_record.proofs.Returning.{spelt_on}
use Rattle.run_record.proofs.WaitReturns.{cond_returns}
use Rattle.run_record.proofs.laws.returns.what_a_cond_call_has_done.Goals as goal

pub returns : goal.returns
returns c plan worker before mutex object call of items answer there is called spelt =
    let laws : MutexLaws = record { gains = c.calls_gain_at_their_end-2.ensures.done; gives = c.calls_give_what_they_may.ensures } in
    cond_returns (object_number call.object) (object_number mutex) c.calls_gain_at_their_end.ensures.done laws of items answer
    (spelt_on plan worker before object call (kinds.Cond mutex) (operations.Cond of) items (Done (Ok answer)) there is called spelt)
