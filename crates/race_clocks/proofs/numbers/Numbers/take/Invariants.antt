use Rattle.std.proofs.Common.{◌≡◌, take}
use Rattle.race_clocks.specs.Numbering.{numbers_of}
use Rattle.race_clocks.proofs.numbers.Numbers.take.Given as goal

abbrev pub invariant-loop-channel : goal.invariant-loop-channel
invariant-loop-channel l = l.numbers.items ≡ numbers_of l.self.tables (take l.channel-index l.channels)
