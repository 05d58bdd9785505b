use Rattle.record_clauses.proofs.VerdictLemmas.{one_verdict, some_verdict}
use Rattle.record_clauses.proofs.laws.a_claim_comes_to_one_verdict.Goals as goal

pub returns-clause-one : goal.returns-clause-one
returns-clause-one c = one_verdict

pub returns-clause-some : goal.returns-clause-some
returns-clause-some c = some_verdict
