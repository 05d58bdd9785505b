use Rattle.std.specs.Prelude.{◌≡◌, ◌+◌}
use Rattle.library_programs.proofs.exact_counter.work.Given as goal

abbrev pub invariant-loop-i : goal.invariant-loop-i
invariant-loop-i g l = (l.share.parts ≡ 1) × (l.share.amount + l._i ≡ l.each)
