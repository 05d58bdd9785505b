use Rattle.workload.specs.declared.keyword.Dialect.TheVariants.{Plain}
use Rattle.workload.proofs.CanonicalReads.{canonical_reads}
use Rattle.workload.proofs.laws.canonical_reads.Goals as goal

pub returns : goal.returns
returns c = λ plan readable none. canonical_reads Plain plan readable none
