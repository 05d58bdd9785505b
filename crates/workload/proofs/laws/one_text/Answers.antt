use Rattle.std.proofs.Common.{None, sym, subst}
use Rattle.workload.specs.Canonical.{canonical}
use Rattle.workload.specs.Lines.{lines_of}
use Rattle.workload.proofs.CanonicalReads.{canonical_says}
use Rattle.workload.proofs.OneReading.{same_saying}
use Rattle.workload.proofs.Says.{SaysOn}
use Rattle.workload.proofs.laws.one_text.Goals as goal

pub returns : goal.returns
returns c = λ p q first second same. same_saying (lines_of (canonical p)) None p q tt (canonical_says p first) (subst (λ bytes. SaysOn (lines_of bytes) None q) (sym same) (canonical_says q second))
