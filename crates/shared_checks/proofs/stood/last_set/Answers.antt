use Rattle.std.proofs.Common.{◌<◌, ◌-◌, length, arith}
use Rattle.std.proofs.lemmas.Option.{slice_get-get_or}
use Rattle.shared_checks.specs.Placing.{contents_of}
use Rattle.shared_checks.proofs.StoodLemmas.{set_there}
use Rattle.shared_checks.proofs.stood.last_set.Goals as goal

pub returns-in-Some-clause-is : goal.returns-in-Some-clause-is
returns-in-Some-clause-is c =
    let inside : c.args.at - c.loop-back.back - 1 < length c.args.history.now = omega (arith, c.requires.at, c.loop-back-test.true) in
    set_there (contents_of c.args.objects.now) c.args.history.now c.args.map c.args.key (c.args.at - c.loop-back.back - 1) _ c.requires.there (slice_get-get_or _ _ _ inside) c.in-Some.left c.in-Some.ensures
