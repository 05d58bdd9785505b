use Rattle.std.proofs.Common.{length, ◌<◌, refl, sym, ◌∙◌, arith}
use Rattle.std.proofs.lemmas.Bool.{false≢true}
use Rattle.std.proofs.lemmas.Option.{slice_get_read}
use Rattle.shared_checks.specs.Showing.{Shows}
use Rattle.shared_checks.proofs.Begun.{one_item_more}
use Rattle.shared_checks.proofs.ShowingLemmas.{one_shown, none_shown, none_yet}
use Rattle.shared_checks.proofs.shown.is_unshown.Goals as goal

pub returns-then-shows : goal.returns-then-shows
returns-then-shows c =
    let inside : c.loop-step.step < length c.args.items.now = omega (arith, c.requires.index, c.loop-step-test.true) in
    (λ no_. absurd (false≢true no_), λ unshown. absurd (one_shown c.args.items.now c.args.begin c.args.key c.loop-step.step c.args.index c.index-items-step.result c.loop-step-test.true (slice_get_read c.args.items.now (length c.args.items.now) c.loop-step.step c.index-items-step.result refl inside c.index-items-step.is) (c.shows.ensures.0 c.if-shows.true) unshown))

pub loop-step-preserved : goal.loop-step-preserved
loop-step-preserved c =
    let inside : c.loop-step.step < length c.args.items.now = omega (arith, c.requires.index, c.loop-step-test.true) in
    one_item_more (λ j x. Shows x c.args.begin c.args.key → ⊥) c.args.items.now c.loop-step.step c.index-items-step.result (slice_get_read c.args.items.now (length c.args.items.now) c.loop-step.step c.index-items-step.result refl inside c.index-items-step.is) (λ shows. false≢true (sym c.if-shows.false ∙ c.shows.ensures.1 shows)) c.loop-step.invariant

pub returns : goal.returns
returns c = (λ yes_. none_shown c.args.items.now c.args.begin c.args.key c.loop-step.step c.args.index c.loop-step-test.false c.loop-step.invariant, λ unshown. refl)

pub loop-step-init : goal.loop-step-init
loop-step-init c = none_yet c.args.items.now c.args.begin c.args.key c.requires.begun
