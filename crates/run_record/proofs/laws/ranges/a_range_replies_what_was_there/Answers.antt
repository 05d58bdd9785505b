use Rattle.std.proofs.Common.{length, Ok}
use Rattle.script_calls.specs.declared.call.Operation.TheVariants as operations
use Rattle.script_calls.specs.declared.call.Reply.TheVariants as replies
use Rattle.sync_model.specs.declared.answer.Answer.TheVariants.{Done}
use Rattle.workload.specs.declared.object.ObjectKind.TheVariants as kinds
use Rattle.run_record.specs.Objects.{contents_of, map_number}
use Rattle.run_record.specs.Record.{calls_of, shared_in}
use Rattle.run_record.proofs.RangeReplies.{range_shows}
use Rattle.run_record.proofs.Returning.{spelt_on}
use Rattle.run_record.proofs.laws.ranges.a_range_replies_what_was_there.Goals as goal

pub returns : goal.returns
returns c plan r worker object call earlier items later pairs record_of there is called whole spelt =
    range_shows plan r worker record_of.shared
    (λ i j first second before at_first at_second. c.a_callers_calls_are_in_order.ensures.order (contents_of plan) r.history (calls_of r) worker i j first second record_of.shared before at_first at_second)
    (map_number plan.objects call.object) earlier items later pairs whole
    (spelt_on plan worker (length (shared_in earlier)) object call kinds.Map operations.Range items (Done (Ok (replies.Pairs pairs))) there is called spelt)
