use Rattle.step_runner.proofs.WithinLeft.{within_most, within_takes, others_within, within_told, within_unlocks}
use Rattle.step_runner.proofs.turns.laws.within.few_turns_are_left.Goals as goal

pub returns-clause-most : goal.returns-clause-most
returns-clause-most c worker begun call objects few = within_most c.few_turns_are_left_of_a_call.ensures.most worker begun call objects few

pub returns-clause-own : goal.returns-clause-own
returns-clause-own c workers worker moment begun call objects ready =
    within_takes c.few_turns_are_left_of_a_call.ensures.own c.few_turns_are_left_of_a_call.ensures.most c.turns_keep_kinds_and_machines.ensures.ready c.turns_keep_kinds_and_machines.ensures.kinds workers worker moment begun call objects ready

pub returns-clause-others : goal.returns-clause-others
returns-clause-others c workers worker other moment begun later own call objects ready apart =
    others_within c.few_turns_are_left_of_a_call.ensures.others c.turns_keep_kinds_and_machines.ensures.ready c.turns_keep_kinds_and_machines.ensures.kinds workers worker other moment begun later own call objects ready apart

pub returns-clause-told_before : goal.returns-clause-told_before
returns-clause-told_before c workers worker moment begun call objects ready =
    within_told c.few_turns_are_left_of_a_call.ensures.told_before c.turns_keep_kinds_and_machines.ensures.ready c.turns_keep_kinds_and_machines.ensures.kinds workers worker moment begun call objects ready

pub returns-clause-told_by_unlocks : goal.returns-clause-told_by_unlocks
returns-clause-told_by_unlocks c workers worker other moment begun own call objects ready apart untold told =
    within_unlocks c.few_turns_are_left_of_a_call.ensures.told_by_unlocks c.turns_keep_kinds_and_machines.ensures.ready c.turns_keep_kinds_and_machines.ensures.kinds workers worker other moment begun own call objects ready apart untold told
