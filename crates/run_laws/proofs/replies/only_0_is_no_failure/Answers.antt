use Rattle.std.proofs.Common.{Bool, cond, Option, Some, None, ap, ℕ}
use Rattle.std.proofs.lemmas.Bool.{ne_eqb}
use Rattle.run_laws.proofs.replies.only_0_is_no_failure.Goals as goal

pub returns-clause-some : goal.returns-clause-some
returns-clause-some c code other = ap (λ (b : Bool). cond {A = Option ℕ} b None (Some code)) (ne_eqb code 0 other)
