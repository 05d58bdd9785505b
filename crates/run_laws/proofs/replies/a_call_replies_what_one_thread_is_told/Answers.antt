use Rattle.std.proofs.Common.{Ok}
use Rattle.script_calls.specs.declared.call.Operation.TheVariants as operations
use Rattle.sync_model.specs.declared.answer.Answer.TheVariants.{Done}
use Rattle.workload.specs.declared.object.ObjectKind.TheVariants as kinds
use Rattle.run_record.specs.Objects.{map_number, atomic_number}
use Rattle.run_laws.proofs.Replied.{spelt_on, map_replies, atomic_replies}
use Rattle.run_laws.proofs.replies.a_call_replies_what_one_thread_is_told.Goals as goal

pub returns-clause-map : goal.returns-clause-map
returns-clause-map c plan r worker before object call of earlier items later answer lawful there is called whole spelt =
    map_replies plan r lawful worker earlier later items whole (map_number plan.objects call.object) of answer
    (spelt_on plan worker before object call kinds.Map (operations.Map of) items (Done (Ok answer)) there is called spelt)

pub returns-clause-atomic : goal.returns-clause-atomic
returns-clause-atomic c plan r worker before object type call of earlier items later answer lawful there is called whole spelt =
    atomic_replies plan r lawful worker earlier later items whole (atomic_number plan.objects call.object) of answer
    (spelt_on plan worker before object call (kinds.Atomic type) (operations.Atomic of) items (Done (Ok answer)) there is called spelt)
