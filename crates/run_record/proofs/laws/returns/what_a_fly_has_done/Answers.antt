use Rattle.std.proofs.Common.{Ok}
use Rattle.sync_model.specs.declared.answer.Answer.TheVariants.{Done}
use Rattle.script_calls.specs.declared.call.Operation.TheVariants as operations
use Rattle.workload.specs.declared.object.ObjectKind.TheVariants as kinds
use Rattle.workload.specs.Keys.{keys_in, key_number}
use Rattle.run_record.specs.Objects.{atomic_number}
use Rattle.run_record.specs.Record.{object_number}
use Rattle.run_record.proofs.FlightReturns.{flight_returns}
use Rattle.run_record.proofs.Returning.{spelt_on}
use Rattle.run_record.proofs.laws.returns.what_a_fly_has_done.Goals as goal

pub returns : goal.returns
returns c plan worker before atomic amount key object call items answer there is called spelt =
    flight_returns (object_number call.object) (key_number (keys_in plan.scripts) key) c.calls_give_what_they_may.ensures (atomic_number plan.objects atomic) amount items answer
    (spelt_on plan worker before object call (kinds.Flight atomic amount) (operations.Fly key) items (Done (Ok answer)) there is called spelt)
