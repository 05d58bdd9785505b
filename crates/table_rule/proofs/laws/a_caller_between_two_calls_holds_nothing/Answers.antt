use Rattle.table_rule.proofs.Holders.{idle_node, idle_gate, gates_at_rest}
use Rattle.table_rule.proofs.laws.a_caller_between_two_calls_holds_nothing.Goals as goal

pub returns-clause-node : goal.returns-clause-node
returns-clause-node c = idle_node

pub returns-clause-gate : goal.returns-clause-gate
returns-clause-gate c = idle_gate

pub returns-clause-open : goal.returns-clause-open
returns-clause-open c = gates_at_rest
