use Rattle.std.proofs.Common.{take}
use Rattle.vector_clocks.specs.Knowing.{AreSet}
use Rattle.vector_clocks.proofs.clocks.set_all.Given as goal

abbrev pub invariant-loop-channel : goal.invariant-loop-channel
invariant-loop-channel l = AreSet (take l.channel-index l.sets) l.clock l.initial.channels l.channels
