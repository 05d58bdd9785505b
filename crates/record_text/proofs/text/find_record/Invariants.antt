use Rattle.std.proofs.Common.{◌-◌, length}
use Rattle.record_text.proofs.WalkLemmas.{Passed}
use Rattle.record_text.proofs.text.find_record.Given as goal

abbrev pub invariant-loop-start : goal.invariant-loop-start
invariant-loop-start l = Passed l.bytes l.start l.next

abbrev pub decreases-loop-start : goal.decreases-loop-start
decreases-loop-start l = length l.bytes - l.start
