use Rattle.call_loop.proofs.Fronts as fronts
use Rattle.call_loop.proofs.laws.fronts_rise.Goals as goal

pub returns-clause-any_two : goal.returns-clause-any_two
returns-clause-any_two g c from to entries i j earlier later = fronts.any_two from to entries i j earlier later

pub returns-clause-begins : goal.returns-clause-begins
returns-clause-begins g c from to entries i entry = fronts.from_first from to entries i entry

pub returns-clause-ends : goal.returns-clause-ends
returns-clause-ends g c from to entries i entry = fronts.to_last from to entries i entry

pub returns-clause-whole : goal.returns-clause-whole
returns-clause-whole g c from to entries = fronts.rises from to entries
