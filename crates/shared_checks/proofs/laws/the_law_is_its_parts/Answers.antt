use Rattle.shared_checks.proofs.PartLemmas.{law_of_parts, parts_of_law}
use Rattle.shared_checks.proofs.laws.the_law_is_its_parts.Goals as goal

pub returns : goal.returns
returns c = λ start history calls. (parts_of_law start history calls, law_of_parts start history calls)
