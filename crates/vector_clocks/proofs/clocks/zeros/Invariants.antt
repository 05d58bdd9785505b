use Rattle.std.proofs.Common.{◌≡◌, length}
use Rattle.vector_clocks.specs.Knowing.{AreZero}
use Rattle.vector_clocks.proofs.clocks.zeros.Given as goal

abbrev pub invariant-loop : goal.invariant-loop
invariant-loop l = record { many : length l.clocks.items ≡ l.counter; none : AreZero l.clocks.items }
