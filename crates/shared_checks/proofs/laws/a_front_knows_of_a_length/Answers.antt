use Rattle.shared_checks.proofs.KnownLemmas.{known_within, within_known}
use Rattle.shared_checks.proofs.laws.a_front_knows_of_a_length.Goals as goal

pub returns : goal.returns
returns c = λ lists front n made. (known_within front n lists, within_known front n lists made)
