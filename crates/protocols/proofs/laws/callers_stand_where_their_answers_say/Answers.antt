use Rattle.protocols.proofs.StandLemmas.{stands_in}
use Rattle.protocols.proofs.laws.callers_stand_where_their_answers_say.Goals as goal

pub returns : goal.returns
returns g c at moved moves = stands_in g.M.Machine.next at moved moves.0 moves.1
