use Rattle.run_record.specs.Objects.{contents_of}
use Rattle.run_record.specs.Record.{calls_of}
use Rattle.run_record.proofs.laws.edges.a_worker_finds_its_own_store.Goals as goal

pub returns-clause-before : goal.returns-clause-before
returns-clause-before c plan r worker i j m key value store load lawful before at_store at_load stores =
    let entry = c.each_entry_is_a_call.ensures.store (contents_of plan) r.history (calls_of r) worker i m key value store lawful.shared at_store stores in
    c.a_callers_calls_are_in_order.ensures.below (contents_of plan) r.history (calls_of r) worker i j store load lawful.shared before at_store at_load entry

pub returns-clause-found : goal.returns-clause-found
returns-clause-found c plan r worker i j m key value store load earlier between later entry lawful before at_store at_load =
    c.a_load_finds_a_store_before_it.ensures plan r worker worker i j m key value store load earlier between later entry lawful at_store at_load
