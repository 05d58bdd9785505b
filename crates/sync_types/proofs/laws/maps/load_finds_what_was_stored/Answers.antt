use Rattle.sync_types.proofs.MapLemmas.{found_inserted, found_settled, found_compared}
use Rattle.sync_types.proofs.laws.maps.load_finds_what_was_stored.Goals as goal

pub returns-clause-store : goal.returns-clause-store
returns-clause-store g c = λ R order m key value. found_inserted order m key value

pub returns-clause-swap : goal.returns-clause-swap
returns-clause-swap g c = λ R order m key value. found_inserted order m key value

pub returns-clause-compare_and_swap : goal.returns-clause-compare_and_swap
returns-clause-compare_and_swap g c = λ R order. found_compared order

pub returns-clause-load_or_store : goal.returns-clause-load_or_store
returns-clause-load_or_store g c = λ R order. found_settled order
