use Rattle.std.proofs.Common.{◌≡◌, replicate}
use Rattle.scheduled_record.proofs.fronts.none_known.Given as goal

abbrev pub invariant-loop : goal.invariant-loop
invariant-loop l = l.front.items ≡ replicate l.counter 0
