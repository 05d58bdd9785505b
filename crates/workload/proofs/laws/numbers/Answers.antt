use Rattle.workload.proofs.Numbers.{decimal-number_of}
use Rattle.workload.proofs.laws.numbers.Goals as goal

pub returns : goal.returns
returns c = λ word is small. decimal-number_of word is small
