use Rattle.table_rule.proofs.Unused.{first_word, left_out, no_step, room_behind, used}
use Rattle.table_rule.proofs.laws.words_that_nothing_uses_stay_0.Goals as goal

pub returns-clause-first : goal.returns-clause-first
returns-clause-first c = first_word

pub returns-clause-left_out : goal.returns-clause-left_out
returns-clause-left_out c = left_out

pub returns-clause-no_step : goal.returns-clause-no_step
returns-clause-no_step c = no_step

pub returns-clause-room : goal.returns-clause-room
returns-clause-room c = room_behind

pub returns-clause-used : goal.returns-clause-used
returns-clause-used c = used
