use Rattle.sync_model.proofs.Histories.{entries_one, entries_none, marked_both}
use Rattle.sync_model.proofs.SharedCallers.{all_mine}
use Rattle.sync_model.proofs.laws.shared_steps.entries_go_on.Goals as goal

pub returns-clause-own : goal.returns-clause-own
returns-clause-own c = entries_one

pub returns-clause-other : goal.returns-clause-other
returns-clause-other c = entries_none

pub returns-clause-marked : goal.returns-clause-marked
returns-clause-marked c = marked_both

pub returns-clause-seen : goal.returns-clause-seen
returns-clause-seen c = all_mine
