use Rattle.shared_checks.specs.Placing.{contents_of}
use Rattle.shared_checks.proofs.FoundMarks.{MarkedTo}
use Rattle.shared_checks.proofs.finding.entries_among.Given as goal

abbrev pub invariant-loop-one : goal.invariant-loop-one
invariant-loop-one l = MarkedTo (contents_of l.initial.objects) l.lists l.placed l.one-index l.owners.items l.history.items l.made (contents_of l.objects)
