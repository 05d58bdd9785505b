use Rattle.std.proofs.Common.{take}
use Rattle.race_clocks.specs.Numbering.{HandedOn}
use Rattle.race_clocks.proofs.numbers.Numbers.give_all.Given as goal

abbrev pub invariant-loop-channel : goal.invariant-loop-channel
invariant-loop-channel l = HandedOn l.initial.self l.self l.numbers.items (take l.channel-index l.channels)
