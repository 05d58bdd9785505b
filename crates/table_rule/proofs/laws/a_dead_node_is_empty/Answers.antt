use Rattle.table_rule.proofs.laws.a_dead_node_is_empty.Goals as goal

pub returns-clause-slots : goal.returns-clause-slots
returns-clause-slots c k s r = r.fine.dead

pub returns-clause-nothing : goal.returns-clause-nothing
returns-clause-nothing c k s r p level key kind dead = c.an_empty_node_stands_for_nothing.ensures s.words k.seed level p key (λ slot below. r.fine.dead p slot kind dead below)
