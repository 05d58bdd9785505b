use Rattle.std.proofs.Common.{ap, ◌∙◌}
use Rattle.sync_model.specs.SharedHistory.{marked_in}
use Rattle.kept_record.proofs.AsRecord.{calls_are}
use Rattle.kept_record.proofs.Keeps.{keeps}
use Rattle.kept_record.proofs.laws.each_entry_of_the_history_is_one_call.Goals as goal

pub returns : goal.returns
returns c plan acts worker all = ap (marked_in worker) (calls_are plan acts all worker) ∙ (keeps plan acts all).history.marked worker
