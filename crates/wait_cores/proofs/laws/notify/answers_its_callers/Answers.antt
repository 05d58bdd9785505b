use Rattle.wait_cores.proofs.NotifyAnswers.{knows-answers, same-callers}
use Rattle.wait_cores.proofs.laws.notify.answers_its_callers.Goals as goal

pub returns-clause-answers : goal.returns-clause-answers
returns-clause-answers c = knows-answers

pub returns-clause-callers : goal.returns-clause-callers
returns-clause-callers c = same-callers
