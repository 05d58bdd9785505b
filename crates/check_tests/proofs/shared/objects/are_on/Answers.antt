use Rattle.std.proofs.Common.{◌≡◌, [], length, slice_get, ◌∙◌, refl, sym, ap}
use Rattle.std.proofs.lemmas.Option.{slice_get_read, get_or_from_slice_get}
use Rattle.shared_checks.specs.Calls.{calls_in}
use Rattle.shared_checks.specs.Placing.{contents_of, IsOn}
use Rattle.shared_checks.proofs.Begun.{list_more, all_lists}
use Rattle.check_tests.proofs.shared.objects.are_on.Goals as goal

pub loop-items-preserved : goal.loop-items-preserved
loop-items-preserved c =
    let index = c.loop-items.items-index in
    let at = slice_get_read c.args.lists.now (length c.args.lists.now) index c.items-item.result refl c.loop-items-test.true c.items-item.is in
    let same : calls_in c.args.lists.now index ≡ c.as_slice.result.now = get_or_from_slice_get c.args.lists.now index c.items-item.result [] at ∙ sym c.as_slice.ensures in
    list_more (λ items j x. IsOn (contents_of c.args.objects.now) x.call) c.args.lists.now index (λ j x there. c.list_is_on.ensures c.if-not-list_is_on.false j x (ap (λ xs. slice_get xs j) (sym same) ∙ there)) c.loop-items.invariant

pub returns : goal.returns
returns c = λ yes_. all_lists (λ items j x. IsOn (contents_of c.args.objects.now) x.call) c.args.lists.now c.loop-items.items-index c.loop-items-test.false c.loop-items.invariant
