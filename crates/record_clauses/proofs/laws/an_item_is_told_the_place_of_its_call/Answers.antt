use Rattle.record_clauses.proofs.CallPlaces.{completed, next}
use Rattle.record_clauses.proofs.laws.an_item_is_told_the_place_of_its_call.Goals as goal

pub returns-clause-completed : goal.returns-clause-completed
returns-clause-completed c = completed

pub returns-clause-next : goal.returns-clause-next
returns-clause-next c = next
