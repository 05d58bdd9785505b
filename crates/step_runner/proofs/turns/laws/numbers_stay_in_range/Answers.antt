use Rattle.step_runner.proofs.RangeLemmas.{new_range, at_stays}
use Rattle.step_runner.proofs.turns.laws.numbers_stay_in_range.Goals as goal

pub returns-clause-begins : goal.returns-clause-begins
returns-clause-begins c workers room keys kind = new_range c.calls_keep_the_type.ensures.start workers room keys kind

pub returns-clause-goes_on : goal.returns-clause-goes_on
returns-clause-goes_on c workers worker moment call objects ready are = at_stays c.calls_keep_the_type.ensures.after workers worker call moment objects ready are
