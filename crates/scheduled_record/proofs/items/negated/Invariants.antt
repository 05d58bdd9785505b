use Rattle.std.proofs.Common.{◌≡◌, not, map, take}
use Rattle.scheduled_record.proofs.items.negated.Given as goal

abbrev pub invariant-loop-flag : goal.invariant-loop-flag
invariant-loop-flag l = l.others.items ≡ map not (take l.flag-index l.flags)
