use Rattle.std.proofs.Common.{◌<◌, length, arith}
use Rattle.std.proofs.lemmas.Option.{slice_get-get_or}
use Rattle.shared_checks.specs.Placing.{contents_of}
use Rattle.shared_checks.proofs.StoodLemmas.{held_next}
use Rattle.shared_checks.proofs.stood.held_at.Goals as goal

pub loop-n-preserved : goal.loop-n-preserved
loop-n-preserved c =
    let inside : c.loop-n.n < length c.args.history.now = omega (arith, c.requires.at, c.loop-n-test.true) in
    held_next (contents_of c.args.objects.now) c.args.history.now c.args.map c.args.key c.loop-n.n _ c.loop-n.held c.requires.there (slice_get-get_or _ _ _ inside) c.loop-n.invariant c.value_after-held.result c.value_after-held.ensures
