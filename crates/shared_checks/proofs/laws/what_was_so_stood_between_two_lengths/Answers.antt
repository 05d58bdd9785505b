use Rattle.shared_checks.proofs.RangeLemmas.{between, was_between}
use Rattle.shared_checks.proofs.laws.what_was_so_stood_between_two_lengths.Goals as goal

pub returns : goal.returns
returns c = λ start history lists front reach m key value made. (between start history lists front made reach m key value, was_between start history lists front made reach m key value)
