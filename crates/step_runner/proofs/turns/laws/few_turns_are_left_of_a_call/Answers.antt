use Rattle.step_runner.proofs.CallAt.{at_takes, others_take, others_tell, at_most_four, out_untold}
use Rattle.step_runner.proofs.turns.laws.few_turns_are_left_of_a_call.Goals as goal

pub returns-clause-most : goal.returns-clause-most
returns-clause-most c worker call objects = at_most_four worker call objects

pub returns-clause-own : goal.returns-clause-own
returns-clause-own c workers worker moment call objects ready = (at_takes c.machines_tell_where_callers_stand.ensures workers worker call moment objects ready).0

pub returns-clause-others : goal.returns-clause-others
returns-clause-others c workers worker other moment own call objects ready apart = others_take c.machines_tell_where_callers_stand.ensures workers worker other moment own call objects ready apart

pub returns-clause-told_before : goal.returns-clause-told_before
returns-clause-told_before c workers worker moment call objects ready = (at_takes c.machines_tell_where_callers_stand.ensures workers worker call moment objects ready).1

pub returns-clause-told_by_unlocks : goal.returns-clause-told_by_unlocks
returns-clause-told_by_unlocks c workers worker other moment own call objects ready apart untold told = others_tell c.machines_tell_where_callers_stand.ensures workers worker other moment own call objects ready apart untold told

pub returns-clause-untold : goal.returns-clause-untold
returns-clause-untold c worker object out = out_untold worker object out
