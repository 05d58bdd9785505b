use Rattle.std.proofs.Common.{ap, inl, inr, ⊎_elim}
use Rattle.std.proofs.lemmas.Bool.{cases_Bool}
use Rattle.mutex_core.specs.MutexMachine as mutex
use Rattle.pool_core.specs.PartMachine.{part_next}
use Rattle.rw_core.specs.RwMachine as rw
use Rattle.run_laws.proofs.EdgesByAnswer.{of_a_mutex, of_an_rw_mutex, of_a_group, of_a_cond, of_a_once, of_a_part, of_a_sema, of_a_flight, of_starts_edges}
use Rattle.run_laws.proofs.edges.the_edges_are_those_that_go_documents.Goals as goal

pub returns-clause-mutex : goal.returns-clause-mutex
returns-clause-mutex c state caller event = of_a_mutex event (mutex.next state caller event).1 (⊎_elim
    (λ may. inr (c.standing.ensures.answered state caller event may))
    (λ not. inl (ap (λ moved. moved.1) (c.still.ensures.unmade state caller event not)))
    (cases_Bool (mutex.may_make state caller event)))

pub returns-clause-rw_mutex : goal.returns-clause-rw_mutex
returns-clause-rw_mutex c state caller event = of_an_rw_mutex event (rw.next state caller event).1 (⊎_elim
    (λ may. inr (c.standing-2.ensures.answered state caller event may))
    (λ not. inl (ap (λ moved. moved.1) (c.still-2.ensures.unmade state caller event not)))
    (cases_Bool (rw.may_make state caller event)))

pub returns-clause-wait_group : goal.returns-clause-wait_group
returns-clause-wait_group c event reply = of_a_group event reply

pub returns-clause-once : goal.returns-clause-once
returns-clause-once c state caller event = of_a_once c.knows_where_it_stands.ensures.answers state caller event

pub returns-clause-once_func : goal.returns-clause-once_func
returns-clause-once_func c state caller event = of_a_once c.knows_where_it_stands-2.ensures.answers state caller event

pub returns-clause-once_value : goal.returns-clause-once_value
returns-clause-once_value c state caller event = of_a_once c.knows_where_it_stands-2.ensures.answers state caller event

pub returns-clause-cond : goal.returns-clause-cond
returns-clause-cond c event reply = of_a_cond event reply

pub returns-clause-pool : goal.returns-clause-pool
returns-clause-pool c state caller event = of_a_part event (part_next state caller event).1 (c.a_part_answers.ensures state caller event)

pub returns-clause-sema : goal.returns-clause-sema
returns-clause-sema c event reply = of_a_sema event reply

pub returns-clause-flight : goal.returns-clause-flight
returns-clause-flight c state caller event = of_a_flight c.knows_where_it_stands-3.ensures.answers state caller event

pub returns-clause-starts : goal.returns-clause-starts
returns-clause-starts c event reply = of_starts_edges event reply
