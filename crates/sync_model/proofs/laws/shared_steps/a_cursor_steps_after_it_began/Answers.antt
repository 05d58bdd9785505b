use Rattle.sync_model.proofs.SharedSteps.{unmade}
use Rattle.sync_model.proofs.laws.shared_steps.a_cursor_steps_after_it_began.Goals as goal

pub returns : goal.returns
returns c = λ start history calls c b i x shown lawful. unmade start history calls lawful c b i x shown
