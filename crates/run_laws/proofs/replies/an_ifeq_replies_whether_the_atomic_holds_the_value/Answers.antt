use Rattle.std.proofs.Common.{Ok}
use Rattle.script_calls.specs.declared.call.ComposedCall.TheVariants.{IfEqual}
use Rattle.script_calls.specs.declared.call.Operation.TheVariants as operations
use Rattle.sync_model.specs.declared.answer.Answer.TheVariants.{Done}
use Rattle.workload.specs.declared.object.ObjectKind.TheVariants as kinds
use Rattle.run_record.specs.Objects.{atomic_number}
use Rattle.run_laws.proofs.Replied.{spelt_on, test_replies}
use Rattle.run_laws.proofs.replies.an_ifeq_replies_whether_the_atomic_holds_the_value.Goals as goal

pub returns : goal.returns
returns c plan r worker before passes value object type call earlier items later answer lawful there is called whole spelt =
    test_replies plan r lawful worker earlier later items whole (atomic_number plan.objects call.object) value answer
    (spelt_on plan worker before object call (kinds.Atomic type) (operations.Composed (IfEqual value passes)) items (Done (Ok answer)) there is called spelt)
