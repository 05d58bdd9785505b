use Rattle.shared_plain.proofs.Steps.{made, unmade}
use Rattle.shared_plain.proofs.laws.answers_as_one_thread.Goals as goal

pub returns-clause-after : goal.returns-clause-after
returns-clause-after c h caller event answered is = made h caller event answered is

pub returns-clause-unfit : goal.returns-clause-unfit
returns-clause-unfit c h caller event is = unmade h caller event is
