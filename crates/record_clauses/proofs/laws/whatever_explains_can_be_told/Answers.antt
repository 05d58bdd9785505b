use Rattle.record_clauses.proofs.Claims.{can_be_told}
use Rattle.record_clauses.proofs.laws.whatever_explains_can_be_told.Goals as goal

pub returns : goal.returns
returns c plan outcome r explains = can_be_told plan r outcome c.the_law_is_its_parts.ensures c.each_journal_keeps_the_edge_law.ensures c.halts_stand_behind_all_else.ensures explains
