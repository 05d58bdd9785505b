use Rattle.workload.specs.declared.keyword.Dialect.TheVariants.{Plain}
use Rattle.workload.proofs.OneReading.{one_reading}
use Rattle.workload.proofs.laws.one_reading.Goals as goal

pub returns : goal.returns
returns c = λ bytes p q first second. one_reading Plain bytes p q first second
