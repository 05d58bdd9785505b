use Rattle.std.proofs.Common.{subst}
use Rattle.run_record.specs.Lines.{LineEnd, OpensBy}
use Rattle.run_record.proofs.PlainLemmas.{none_first, none_stayed}
use Rattle.run_record.proofs.laws.starts.who_does_not_wait_comes_to_its_script.Goals as goal

pub returns-clause-first : goal.returns-clause-first
returns-clause-first c plan worker line awake is = none_first plan worker awake line.ending line.spelt line.first is.opens

pub returns-clause-comes : goal.returns-clause-comes
returns-clause-comes c plan worker line stay awake is ending = none_stayed plan worker awake stay line.spelt line.first (subst (λ (e : LineEnd). OpensBy plan worker e line.spelt line.first) ending is.opens)
