use Rattle.std.proofs.Common.{take}
use Rattle.vector_clocks.specs.Knowing.{AreGiven}
use Rattle.vector_clocks.proofs.clocks.give.Given as goal

abbrev pub invariant-loop-channel : goal.invariant-loop-channel
invariant-loop-channel l = AreGiven (take l.channel-index l.gives) l.clock l.initial.channels l.channels
