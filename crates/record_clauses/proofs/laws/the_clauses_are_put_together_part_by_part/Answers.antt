use Rattle.record_clauses.specs.Account.{record_of}
use Rattle.record_clauses.proofs.Explaining.{lines_of, lawful_of, agreed, spelt_of, halts_of, parts_of, fronts_of, ranges_of, journals_of, ended}
use Rattle.record_clauses.proofs.laws.the_clauses_are_put_together_part_by_part.Goals as goal

pub returns-clause-lawful : goal.returns-clause-lawful
returns-clause-lawful c claim account = (
  λ five. (lawful_of claim account c.the_law_is_its_parts.ensures five.0 five.1 five.2 five.3 five.4, five.3.told),
  λ both. (
    (parts_of claim account c.the_law_is_its_parts.ensures both.0).history_part,
    fronts_of claim account c.the_law_is_its_parts.ensures both.0,
    ranges_of claim account c.the_law_is_its_parts.ensures both.0,
    journals_of claim account c.the_law_is_its_parts.ensures both.0 both.1,
    λ object. c.each_journal_keeps_the_edge_law.ensures claim.plan (record_of claim account) object both.0,
  ),
)

pub returns-clause-lines : goal.returns-clause-lines
returns-clause-lines c claim account = (
  λ both. (lines_of claim account both.0 both.1, both.0.told, both.1.stopped),
  λ three. (spelt_of claim account c.halts_stand_behind_all_else.ensures three.0 three.1, halts_of claim account c.halts_stand_behind_all_else.ensures three.0 three.2),
)

pub returns-clause-agrees : goal.returns-clause-agrees
returns-clause-agrees c claim account = (λ both. agreed claim account claim.misused both.0 both.1, ended claim account claim.misused)
