use Rattle.race_clocks.proofs.Signals.{broadcast_tells}
use Rattle.race_clocks.proofs.laws.waits.a_broadcast_is_for_all_who_wait.Goals as goal

pub returns : goal.returns
returns c = broadcast_tells
