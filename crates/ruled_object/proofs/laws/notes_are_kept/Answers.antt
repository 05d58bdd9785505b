use Rattle.std.proofs.Common.{◌∙◌, arith}
use Rattle.ruled_object.proofs.laws.notes_are_kept.Goals as goal

pub returns : goal.returns
returns g c first second third before after = record {
  home = λ home is. after.home home (before.home home is);
  kept = after.kept ∙ before.kept;
  rises = ((λ k. let i = before.rises.0 k in let j = after.rises.0 k in omega arith), (let i = before.rises.1 in let j = after.rises.1 in omega arith));
}
