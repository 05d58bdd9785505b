use Rattle.race_clocks.proofs.Shared.{load_finds, range_finds}
use Rattle.race_clocks.proofs.laws.shared.what_finds_a_key.Goals as goal

pub returns-clause-load : goal.returns-clause-load
returns-clause-load c = load_finds

pub returns-clause-range : goal.returns-clause-range
returns-clause-range c = range_finds
