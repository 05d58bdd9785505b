use Rattle.run_check.proofs.PlacedVerdicts.{comes_to_no, comes_to_yes, of_claim, of_told}
use Rattle.run_check.proofs.laws.behind_legal_the_clauses_are_those_of_one_claim.Goals as goal

pub returns-clause-clauses : goal.returns-clause-clauses
returns-clause-clauses c told marked history claim placed clause behind = (of_claim told marked history claim placed clause behind, of_told told marked history claim placed clause)

pub returns-clause-no : goal.returns-clause-no
returns-clause-no c = comes_to_no

pub returns-clause-yes : goal.returns-clause-yes
returns-clause-yes c = comes_to_yes
