use Rattle.made_workload.proofs.Keys.{key_begins, key_apart}
use Rattle.made_workload.proofs.laws.keys_tell_their_workers.Goals as goal

pub returns-clause-begins : goal.returns-clause-begins
returns-clause-begins c = key_begins

pub returns-clause-apart : goal.returns-clause-apart
returns-clause-apart c = key_apart
