use Rattle.workload.specs.declared.keyword.Dialect.TheVariants.{Plain}
use Rattle.workload.proofs.NoReason.{one_refusal}
use Rattle.workload.proofs.laws.one_refusal.Goals as goal

pub returns : goal.returns
returns c = λ bytes line other reason why h k. one_refusal Plain bytes line other reason why h k
