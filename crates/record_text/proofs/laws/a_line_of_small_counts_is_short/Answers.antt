use Rattle.record_text.proofs.ShortLines.{short_line}
use Rattle.record_text.proofs.laws.a_line_of_small_counts_is_short.Goals as goal

pub returns : goal.returns
returns c = short_line
