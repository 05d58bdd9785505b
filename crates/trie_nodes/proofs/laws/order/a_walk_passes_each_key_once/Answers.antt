use Rattle.trie_nodes.proofs.OrderLemmas.{passed-next, passed-once, passed-down, passed-up, passed-all}
use Rattle.trie_nodes.proofs.laws.order.a_walk_passes_each_key_once.Goals as goal

pub returns-clause-ends : goal.returns-clause-ends
returns-clause-ends c = passed-all

pub returns-clause-goes_on : goal.returns-clause-goes_on
returns-clause-goes_on c = passed-next

pub returns-clause-once : goal.returns-clause-once
returns-clause-once c = passed-once

pub returns-clause-goes_down : goal.returns-clause-goes_down
returns-clause-goes_down c = passed-down

pub returns-clause-goes_up : goal.returns-clause-goes_up
returns-clause-goes_up c = passed-up
