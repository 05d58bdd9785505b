use Rattle.sync_model.proofs.Histories.{contents_same, contents_all, contents_both, legal_apart, legal_joined, legal_at}
use Rattle.sync_model.proofs.laws.shared_steps.histories_go_on.Goals as goal

pub returns-clause-same : goal.returns-clause-same
returns-clause-same c = contents_same

pub returns-clause-all : goal.returns-clause-all
returns-clause-all c = contents_all

pub returns-clause-after : goal.returns-clause-after
returns-clause-after c = contents_both

pub returns-clause-apart : goal.returns-clause-apart
returns-clause-apart c = legal_apart

pub returns-clause-joined : goal.returns-clause-joined
returns-clause-joined c = legal_joined

pub returns-clause-legal : goal.returns-clause-legal
returns-clause-legal c = legal_at
