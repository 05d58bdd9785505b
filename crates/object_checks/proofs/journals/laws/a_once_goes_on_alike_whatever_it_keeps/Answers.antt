use Rattle.std.proofs.Common.{None, true, subst}
use Rattle.sync_model.specs.Journal.{Follows}
use Rattle.wait_cores.specs.OnceMachine.{next, start}
use Rattle.object_checks.proofs.OnceLemmas.{told, follow_without}
use Rattle.object_checks.proofs.journals.laws.a_once_goes_on_alike_whatever_it_keeps.Goals as goal

pub returns : goal.returns
returns g c = λ other workers own. (
  told other own (start workers) None,
  λ is. subst (Follows next true (start workers) None) is.alike (follow_without other (start workers) None is.whole is.follows),
)
