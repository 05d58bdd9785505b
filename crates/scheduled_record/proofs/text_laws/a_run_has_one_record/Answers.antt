use Rattle.scheduled_record.proofs.OneRecord.{one_record}
use Rattle.scheduled_record.proofs.text_laws.a_run_has_one_record.Goals as goal

pub returns : goal.returns
returns c plan one other valid is also = one_record plan (λ outcome other first second. c.each_run_has_one_outcome.ensures.one plan outcome other valid first second) one other is also
