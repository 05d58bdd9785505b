use Rattle.race_clocks.proofs.Shared.{atomic_forgotten}
use Rattle.race_clocks.proofs.laws.shared.the_next_entry_takes_its_place.Goals as goal

pub returns : goal.returns
returns c = atomic_forgotten
