use Rattle.race_clocks.proofs.Told.{same_race}
use Rattle.race_clocks.proofs.telling.race_of_turns.Goals as goal

pub returns : goal.returns
returns c = same_race _ _ _ _ _ _ c.variable.ensures c.call_place.ensures c.call_place-2.ensures
