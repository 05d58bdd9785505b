use Rattle.step_runner.proofs.TraceLaws.{told_items, told_replies, told_placed, told_own}
use Rattle.step_runner.proofs.TraceLemmas.{run_along}
use Rattle.step_runner.proofs.TraceReplies.{replied_so}
use Rattle.step_runner.specs.State.{start}
use Rattle.step_runner.proofs.laws.a_trace_tells_what_turns_made.Goals as goal

pub returns-clause-items : goal.returns-clause-items
returns-clause-items c plan list = told_items plan list (start plan)

pub returns-clause-replies : goal.returns-clause-replies
returns-clause-replies c plan list worker valid = told_replies plan (c.validity.ensures.goes_on plan) list worker (c.validity.ensures.begins plan valid)

pub returns-clause-places : goal.returns-clause-places
returns-clause-places c plan list number one at = told_placed plan list (start plan) number one at

pub returns-clause-callers : goal.returns-clause-callers
returns-clause-callers c plan list number one at = told_own c.items_are_of_their_workers.ensures.own plan list (start plan) number one at

pub returns-clause-whole : goal.returns-clause-whole
returns-clause-whole c plan = let along = run_along plan in (along.0, along.1.0, along.1.1)

pub returns-clause-outcome : goal.returns-clause-outcome
returns-clause-outcome c plan worker valid = replied_so plan (c.validity.ensures.goes_on plan) (c.validity.ensures.begins plan valid) worker
