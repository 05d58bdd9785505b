use Rattle.record_text.proofs.WholeTexts.{tells}
use Rattle.record_text.proofs.laws.a_written_text_tells_what_was_written.Goals as goal

pub returns : goal.returns
returns c = tells c.canonical_reads.ensures
