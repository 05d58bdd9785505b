use Rattle.record_text.proofs.OneText.{one_refusal, told_or_refused}
use Rattle.record_text.proofs.laws.a_text_is_refused_once.Goals as goal

pub returns-clause-apart : goal.returns-clause-apart
returns-clause-apart c = told_or_refused c.one_reading.ensures c.read_or_refused.ensures

pub returns-clause-once : goal.returns-clause-once
returns-clause-once c = one_refusal c.one_reading.ensures c.one_refusal.ensures c.read_or_refused.ensures
