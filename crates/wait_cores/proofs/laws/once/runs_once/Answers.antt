use Rattle.wait_cores.proofs.OnceLemmas.{begins_once, ends_as_begun}
use Rattle.wait_cores.proofs.laws.once.runs_once.Goals as goal

pub returns-clause-begun : goal.returns-clause-begun
returns-clause-begun g c = begins_once

pub returns-clause-ended : goal.returns-clause-ended
returns-clause-ended g c = ends_as_begun
