use Rattle.rw_core.proofs.Admissions.{admits}
use Rattle.rw_core.proofs.laws.admission.Goals as goal

pub returns : goal.returns
returns c = admits
