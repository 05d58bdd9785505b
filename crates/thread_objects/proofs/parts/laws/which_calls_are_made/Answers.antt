use Rattle.run_record.specs.Limits.{IsCallOf}
use Rattle.thread_objects.proofs.OnlyCalls.{none_made, made_on}
use Rattle.thread_objects.proofs.parts.laws.which_calls_are_made.Goals as goal

pub returns-clause-none : goal.returns-clause-none
returns-clause-none c plan = none_made (IsCallOf plan)

pub returns-clause-joined : goal.returns-clause-joined
returns-clause-joined c plan = made_on (IsCallOf plan)
