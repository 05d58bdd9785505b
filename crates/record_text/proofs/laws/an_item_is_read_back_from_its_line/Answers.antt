use Rattle.record_text.proofs.ItemTexts.{item_line_is, lines_are, only_line}
use Rattle.record_text.proofs.laws.an_item_is_read_back_from_its_line.Goals as goal

pub returns-clause-line : goal.returns-clause-line
returns-clause-line c = item_line_is

pub returns-clause-only : goal.returns-clause-only
returns-clause-only c = only_line

pub returns-clause-lines : goal.returns-clause-lines
returns-clause-lines c = lines_are
