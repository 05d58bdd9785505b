use Rattle.workload.specs.declared.keyword.Dialect.TheVariants.{Plain}
use Rattle.workload.proofs.NoReason.{read_or_refused}
use Rattle.workload.proofs.laws.read_or_refused.Goals as goal

pub returns : goal.returns
returns c = λ bytes plan line reason reads refused. read_or_refused Plain bytes plan line reason reads refused
