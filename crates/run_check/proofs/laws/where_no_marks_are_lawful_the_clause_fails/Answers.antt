use Rattle.run_check.proofs.PlacedClaims.{marks_have_none}
use Rattle.run_check.proofs.ToldShared.{none_legal}
use Rattle.run_check.proofs.laws.where_no_marks_are_lawful_the_clause_fails.Goals as goal

pub returns-clause-any : goal.returns-clause-any
returns-clause-any c = none_legal

pub returns-clause-marked : goal.returns-clause-marked
returns-clause-marked c told found marked are is = marks_have_none told found are marked is
