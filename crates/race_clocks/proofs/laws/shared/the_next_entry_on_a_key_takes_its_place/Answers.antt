use Rattle.race_clocks.proofs.Shared.{key_forgotten}
use Rattle.race_clocks.proofs.laws.shared.the_next_entry_on_a_key_takes_its_place.Goals as goal

pub returns : goal.returns
returns c = key_forgotten
