use Rattle.step_runner.proofs.laws.replies_stay_within_scripts.Goals as goal

pub returns : goal.returns
returns c plan items worker valid = (c.validity.ensures.always plan items valid).within worker
