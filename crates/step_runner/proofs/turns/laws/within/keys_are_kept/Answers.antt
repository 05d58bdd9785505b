use Rattle.step_runner.proofs.WithinKeeps.{within_keys}
use Rattle.step_runner.proofs.turns.laws.within.keys_are_kept.Goals as goal

pub returns : goal.returns
returns c names most worker moment begun call objects among room named = within_keys c.maps_keep_to_the_keys_of_calls.ensures.goes_on names most worker moment begun call objects among room named
