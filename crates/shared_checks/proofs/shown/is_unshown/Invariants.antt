use Rattle.shared_checks.proofs.ShowingLemmas.{NoneTo}
use Rattle.shared_checks.proofs.shown.is_unshown.Given as goal

abbrev pub invariant-loop-step : goal.invariant-loop-step
invariant-loop-step l = NoneTo l.items l.begin l.key l.step
