use Rattle.ruled_object.proofs.Growth.{needs_none_several, needs_none_spent}
use Rattle.ruled_object.proofs.laws.turns_needed.Goals as goal

pub returns-clause-spent : goal.returns-clause-spent
returns-clause-spent g c start old mid new from to spent needs = let m = g.M.Machine in needs_none_spent m.next m.HALTS g.M.Worded.alone start old mid new from to spent needs

pub returns-clause-several : goal.returns-clause-several
returns-clause-several g c start old new es low high from to many more = let m = g.M.Machine in needs_none_several m.next m.HALTS g.M.Worded.alone start old new es low high from to many more
