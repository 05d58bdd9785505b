use Rattle.run_check.proofs.ListLemmas.{ListTo}
use Rattle.run_check.proofs.told.lists.list_told.Given as goal

abbrev pub invariant-loop-index : goal.invariant-loop-index
invariant-loop-index l = ListTo l.workload l.kept l.worker l.items l.index l.along l.told
