use Rattle.std.proofs.Common.{subst}
use Rattle.record_text.specs.Told.{Told}
use Rattle.run_check.specs.Tells.{ComesTo}
use Rattle.run_check.proofs.FirstClause.{one_verdict, some_verdict}
use Rattle.run_check.proofs.laws.a_text_comes_to_one_verdict.Goals as goal

pub returns-clause-one : goal.returns-clause-one
returns-clause-one c bytes told other first second is also one two =
    one_verdict other first second (subst (λ (t : Told). ComesTo t first) (c.a_text_tells_one_thing.ensures bytes told other is also) one) two

pub returns-clause-some : goal.returns-clause-some
returns-clause-some c = some_verdict
