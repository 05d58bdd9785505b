use Rattle.workload.proofs.CallNumbers.{SoFar}
use Rattle.workload.proofs.keys.Keys.insert_script.Given as goal

abbrev pub invariant-loop-call : goal.invariant-loop-call
invariant-loop-call l = SoFar l.initial.keys l.script l.keys l.numbers l.call-index
