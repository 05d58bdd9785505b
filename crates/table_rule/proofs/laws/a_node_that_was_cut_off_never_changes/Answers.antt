use Rattle.table_rule.proofs.CutNodes.{cut_words, cut_same, cut_moment, cut_holds, cut_stays, cut_below, no_root, no_slot, cut_empty}
use Rattle.table_rule.proofs.laws.a_node_that_was_cut_off_never_changes.Goals as goal

pub returns-clause-words : goal.returns-clause-words
returns-clause-words c = cut_words

pub returns-clause-same : goal.returns-clause-same
returns-clause-same c = cut_same

pub returns-clause-moment : goal.returns-clause-moment
returns-clause-moment c = cut_moment

pub returns-clause-stands : goal.returns-clause-stands
returns-clause-stands c k = cut_holds k c.nodes_stand_for_what_their_slots_show.ensures c.histories_go_on.ensures.same c.histories_go_on.ensures.all

pub returns-clause-stays : goal.returns-clause-stays
returns-clause-stays c k = cut_stays k c.nodes_stand_for_what_their_slots_show.ensures c.histories_go_on.ensures.same c.histories_go_on.ensures.all

pub returns-clause-below : goal.returns-clause-below
returns-clause-below c = cut_below

pub returns-clause-no_root : goal.returns-clause-no_root
returns-clause-no_root c = no_root

pub returns-clause-no_slot : goal.returns-clause-no_slot
returns-clause-no_slot c = no_slot

pub returns-clause-empty : goal.returns-clause-empty
returns-clause-empty c = cut_empty

pub returns-clause-nothing : goal.returns-clause-nothing
returns-clause-nothing c k s r j level key v d is has dead = c.an_empty_node_stands_for_nothing.ensures s.words k.seed level d.node key (λ slot below. cut_empty k s r j slot v d is has dead below)
