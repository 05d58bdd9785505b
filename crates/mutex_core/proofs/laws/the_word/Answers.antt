use Rattle.std.proofs.Common.{◌≤◌, sym, subst}
use Rattle.mutex_core.proofs.PackedWord.{bit_small, counts, quiet_word, small_quiet}
use Rattle.mutex_core.proofs.laws.the_word.Goals as goal

pub returns-clause-quiet : goal.returns-clause-quiet
returns-clause-quiet c state valid = ((λ small. small_quiet state valid small), (λ quiet. subst (λ w. w ≤ 1) (sym (quiet_word state valid quiet)) (bit_small state.locked)))

pub returns-clause-locked : goal.returns-clause-locked
returns-clause-locked c state valid quiet = quiet_word state valid quiet

pub returns-clause-waiters : goal.returns-clause-waiters
returns-clause-waiters c state valid = counts state valid
