use Rattle.std.proofs.Common.{◌≡◌, ◌++◌}
use Rattle.record_text.proofs.written.copied.Given as goal

abbrev pub invariant-loop-count : goal.invariant-loop-count
invariant-loop-count l = l.copied ++ l.count-iterator ≡ l.front
