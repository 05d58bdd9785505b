use Rattle.std.proofs.Common.{◌≡◌, drop}
use Rattle.shared_plain.specs.Slots.{pair_from, next_pair}
use Rattle.shared_plain.proofs.slots.Slots.next_pair.Given as goal

abbrev pub invariant-loop-key : goal.invariant-loop-key
invariant-loop-key l = next_pair l.from l.self ≡ pair_from l.key (drop l.key l.self)
