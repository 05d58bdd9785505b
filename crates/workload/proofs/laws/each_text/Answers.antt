use Rattle.workload.specs.declared.keyword.Dialect.TheVariants.{Plain}
use Rattle.workload.proofs.EachText.{each_text}
use Rattle.workload.proofs.laws.each_text.Goals as goal

pub returns : goal.returns
returns c = λ bytes. each_text Plain bytes
