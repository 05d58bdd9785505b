use Rattle.workload.proofs.CallForms.{call_passes, ranges_of, accesses_of}
use Rattle.workload.proofs.laws.calls_pass_their_checks.Goals as goal

pub returns-clause-passes : goal.returns-clause-passes
returns-clause-passes c = λ draft kind second operation has named may fits. (call_passes draft kind second operation has named may fits).2

pub returns-clause-keys : goal.returns-clause-keys
returns-clause-keys c = λ draft kind second operation has named may fits. (call_passes draft kind second operation has named may fits).0

pub returns-clause-tries : goal.returns-clause-tries
returns-clause-tries c = λ draft kind second operation has named may fits. (call_passes draft kind second operation has named may fits).1

pub returns-clause-ranges : goal.returns-clause-ranges
returns-clause-ranges c = λ operation. ranges_of operation

pub returns-clause-accesses : goal.returns-clause-accesses
returns-clause-accesses c = accesses_of
