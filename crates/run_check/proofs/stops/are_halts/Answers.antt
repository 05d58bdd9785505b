use Rattle.std.proofs.Common.{length}
use Rattle.std.proofs.lemmas.Bool.{eq-eqb, eqb-true}
use Rattle.run_check.proofs.HaltWalks.{left_none, none_left, other_halts}
use Rattle.std.proofs.Common.{drop}
use Rattle.run_check.proofs.stops.are_halts.Goals as goal

pub returns-in_default : goal.returns-in_default
returns-in_default c =
    let list = c.args.list.now in
    let both = other_halts c.args.ending (drop c.args.from list) c.in_default.not-Misused in (
      λ yes_. both.1 (left_none list c.args.from (eqb-true c.args.from (length list) yes_)),
      λ are. eq-eqb c.args.from (length list) (none_left list c.args.from c.requires (both.0 are)),
    )
