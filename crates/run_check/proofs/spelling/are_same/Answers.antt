use Rattle.run_check.proofs.SpellWalk.{calls_decide}
use Rattle.std.proofs.lemmas.Slice.Eq.{slice_eq-Decides}
use Rattle.run_check.proofs.spelling.are_same.Goals as goal

pub returns : goal.returns
returns c = slice_eq-Decides calls_decide _ _ _ c.eq.ensures
