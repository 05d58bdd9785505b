use Rattle.gosync_call.proofs.Statuses.{made_statuses, made_written}
use Rattle.gosync_call.proofs.laws.statuses.a_made_workload_is_run_to_its_end.Goals as goal

pub returns-clause-written : goal.returns-clause-written
returns-clause-written c seed ran ran_now before new ending makes = made_written seed ran ran_now before new ending makes

pub returns-clause-begun : goal.returns-clause-begun
returns-clause-begun c seed ran ran_now before new makes = (makes.0.0, makes.0.2, makes.1)

pub returns-clause-never : goal.returns-clause-never
returns-clause-never c seed ran ran_now old new status makes = made_statuses seed ran ran_now old new status makes
