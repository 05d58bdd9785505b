use Rattle.shared_checks.specs.Placing.{contents_of}
use Rattle.shared_checks.proofs.StoodLemmas.{NotBefore}
use Rattle.shared_checks.proofs.stood.stood_between.Given as goal

abbrev pub invariant-loop-n : goal.invariant-loop-n
invariant-loop-n l = NotBefore (contents_of l.objects) l.history l.map l.key l.value l.from l.n l.held
