use Rattle.pool_core.proofs.PartLogs.{part_answers}
use Rattle.pool_core.proofs.part_laws.a_part_answers.Goals as goal

pub returns : goal.returns
returns c = part_answers
