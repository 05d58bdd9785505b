use Rattle.std.proofs.Common.{length}
use Rattle.record_text.specs.Cuts.{parts_in}
use Rattle.record_text.proofs.Fronts.{Reads}
use Rattle.record_text.proofs.front.read_front.Given as goal

abbrev pub invariant-loop-part : goal.invariant-loop-part
invariant-loop-part l = Reads l.word l.front.items l.rest

abbrev pub decreases-loop-part : goal.decreases-loop-part
decreases-loop-part l = length (parts_in 44 l.rest)
