use Rattle.std.proofs.Common.{Ok}
use Rattle.sync_model.specs.declared.answer.Answer.TheVariants.{Done}
use Rattle.script_calls.specs.declared.call.Operation.TheVariants as operations
use Rattle.workload.specs.declared.object.ObjectKind.TheVariants as kinds
use Rattle.run_record.specs.Record.{object_number}
use Rattle.run_record.proofs.OnceReturns.{func_returns, value_returns}
use Rattle.run_record.proofs.Returning.{spelt_on}
use Rattle.run_record.proofs.laws.returns.what_a_call_of_a_function_has_done.Goals as goal

pub returns-clause-func : goal.returns-clause-func
returns-clause-func c plan worker before code object call items answer there is called spelt =
    func_returns (object_number call.object) c.calls_give_what_they_may.ensures code items answer
    (spelt_on plan worker before object call (kinds.OnceFunc code) operations.OnceFunc items (Done (Ok answer)) there is called spelt)

pub returns-clause-value : goal.returns-clause-value
returns-clause-value c plan worker before value object call items answer there is called spelt =
    value_returns (object_number call.object) c.calls_give_what_they_may-2.ensures value items answer
    (spelt_on plan worker before object call (kinds.OnceValue value) operations.OnceValue items (Done (Ok answer)) there is called spelt)
