use Rattle.table_rule.proofs.Standing.{root_stands, cut_stands}
use Rattle.table_rule.proofs.laws.a_root_stands_for_the_map_after_the_whole_history.Goals as goal

pub returns-clause-root : goal.returns-clause-root
returns-clause-root c k s r = root_stands k c.nodes_stand_for_what_their_slots_show.ensures r.shape r.log s.words r.fine c.histories_go_on.ensures.all

pub returns-clause-cut_off : goal.returns-clause-cut_off
returns-clause-cut_off c k s r = cut_stands k c.nodes_stand_for_what_their_slots_show.ensures r.shape r.log s.words r.fine

pub returns-clause-earlier : goal.returns-clause-earlier
returns-clause-earlier c k s r = r.fine.cut
