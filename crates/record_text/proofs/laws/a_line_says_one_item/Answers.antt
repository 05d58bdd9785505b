use Rattle.record_text.proofs.OneItem.{same_item, same_words}
use Rattle.record_text.proofs.OneText.{no_outcome}
use Rattle.record_text.proofs.ReadPlans.{reads_plain}
use Rattle.record_text.proofs.laws.a_line_says_one_item.Goals as goal

pub returns-clause-words : goal.returns-clause-words
returns-clause-words c bytes plan item other reads = same_words plan item other (reads_plain bytes plan reads (c.keys_are_numbered_by_first_appearance.ensures.number plan.scripts))

pub returns-clause-line : goal.returns-clause-line
returns-clause-line c bytes plan line item other reads = same_item plan line item other (reads_plain bytes plan reads (c.keys_are_numbered_by_first_appearance.ensures.number plan.scripts))

pub returns-clause-outcome : goal.returns-clause-outcome
returns-clause-outcome c = no_outcome
