use Rattle.run_check.proofs.ListLemmas.{KeptTo}
use Rattle.run_check.proofs.told.lists.keep_list.Given as goal

abbrev pub invariant-loop-index : goal.invariant-loop-index
invariant-loop-index l = KeptTo l.initial.kept.items l.worker l.items l.index l.along l.kept.items
