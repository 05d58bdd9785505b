use Rattle.run_record.proofs.ListLemmas.{shared_at, shared_from}
use Rattle.run_record.proofs.laws.order.calls_are_items_of_lists.Goals as goal

pub returns-clause-at : goal.returns-clause-at
returns-clause-at c list i x at = shared_at list i x at

pub returns-clause-from : goal.returns-clause-from
returns-clause-from c list n x at = shared_from list n x at
