use Rattle.std.proofs.Common.{◌<◌, length, sym, ◌∙◌, arith}
use Rattle.std.proofs.lemmas.Bool.{false≢true}
use Rattle.std.proofs.lemmas.Option.{slice_get-get_or}
use Rattle.shared_checks.specs.Placing.{contents_of}
use Rattle.shared_checks.proofs.StoodLemmas.{not_yet}
use Rattle.shared_checks.proofs.stood.stood_between.Goals as goal

pub loop-n-preserved : goal.loop-n-preserved
loop-n-preserved c =
    let inside : c.loop-n.n < length c.args.history.now = omega (arith, c.requires.to, c.loop-n-test.true) in
    not_yet (contents_of c.args.objects.now) c.args.history.now c.args.map c.args.key c.args.value c.args.from c.loop-n.n c.loop-n.held c.loop-n.invariant _ c.requires.there
    (slice_get-get_or _ _ _ inside)
    (λ behind same. false≢true (sym c.if-is_same.false ∙ c.is_same.ensures.1 same))
    c.value_after-held.result c.value_after-held.ensures
