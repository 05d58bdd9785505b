use Rattle.shared_checks.proofs.PartLemmas.{history_of_placed}
use Rattle.shared_checks.proofs.laws.placed_calls_make_a_legal_history.Goals as goal

pub returns : goal.returns
returns c = history_of_placed
