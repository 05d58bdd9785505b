use Rattle.std.proofs.Common.{◌+◌, ◌^◌}
use Rattle.made_workload.proofs.Draws.{first_two}
use Rattle.made_workload.proofs.laws.first_words_of_seeds.Goals as goal

pub returns-clause-seven : goal.returns-clause-seven
returns-clause-seven c = first_two 7

pub returns-clause-high_half : goal.returns-clause-high_half
returns-clause-high_half c = first_two (2 ^ 32 + 7)
