use Rattle.std.proofs.Common.{◌≡◌, map}
use Rattle.run_check.proofs.key_order.numbers_of.Given as goal

abbrev pub invariant-loop-number : goal.invariant-loop-number
invariant-loop-number l = l.numbers.items ≡ map (λ entry. entry.1) l.yielded
