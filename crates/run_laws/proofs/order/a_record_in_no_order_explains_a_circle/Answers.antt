use Rattle.run_laws.proofs.ExplainedCircle as example
use Rattle.run_laws.proofs.order.a_record_in_no_order_explains_a_circle.Goals as goal

pub returns-clause-explained : goal.returns-clause-explained
returns-clause-explained c wait_0 done_0 wait_1 done_1 = example.explained wait_0 done_0 wait_1 done_1 c.scripts_without_tests_are_spelt_call_by_call.ensures

pub returns-clause-journals_alone : goal.returns-clause-journals_alone
returns-clause-journals_alone c object = example.journals_rise object

pub returns-clause-lists_alone : goal.returns-clause-lists_alone
returns-clause-lists_alone c worker i j object other x y before at_x at_y = example.lists_rise worker i j object other x y before at_x at_y

pub returns-clause-in_no_order : goal.returns-clause-in_no_order
returns-clause-in_no_order c wait_0 done_0 wait_1 done_1 order = c.a_circle_of_waits_is_never_done.ensures _ _ order (example.explained wait_0 done_0 wait_1 done_1 c.scripts_without_tests_are_spelt_call_by_call.ensures)
