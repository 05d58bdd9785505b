use Rattle.go_pool.proofs.Finding.{takes_item}
use Rattle.go_pool.proofs.laws.looks_find_what_is_there.Goals as goal

pub returns-clause-item : goal.returns-clause-item
returns-clause-item c = takes_item
