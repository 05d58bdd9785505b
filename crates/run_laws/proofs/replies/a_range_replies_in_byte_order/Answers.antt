use Rattle.std.proofs.Common.{Ok}
use Rattle.script_calls.specs.declared.call.Operation.TheVariants as operations
use Rattle.script_calls.specs.declared.call.Reply.TheVariants as replies
use Rattle.sync_model.specs.declared.answer.Answer.TheVariants.{Done}
use Rattle.workload.specs.declared.object.ObjectKind.TheVariants as kinds
use Rattle.workload.specs.Keys.{keys_in}
use Rattle.run_record.specs.Objects.{map_number}
use Rattle.run_laws.proofs.Replied.{spelt_on, range_sorts}
use Rattle.run_laws.proofs.replies.a_range_replies_in_byte_order.Goals as goal

pub returns : goal.returns
returns c plan worker before object call items pairs there is called spelt =
    range_sorts (keys_in plan.scripts) (map_number plan.objects call.object) before items pairs
    (spelt_on plan worker before object call kinds.Map operations.Range items (Done (Ok (replies.Pairs pairs))) there is called spelt)
