use Rattle.run_check.proofs.TextRoundTrip.{text_again}
use Rattle.run_check.proofs.laws.what_a_text_tells_is_written_as_its_lines.Goals as goal

pub returns : goal.returns
returns c = text_again
