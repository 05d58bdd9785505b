use Rattle.std.proofs.Common.{◌≡◌, ℕ, ◌<◌, ◌≤◌, List, [], length, take, Some, slice_get, refl, sym, ap, ◌∙◌, subst, arith}
use Rattle.std.proofs.lemmas.Option.{slice_get_read, get_or_from_slice_get}
use Rattle.sync_model.specs.declared.item.Item.{Item}
use Rattle.sync_model.specs.SharedCalls.{bound}
use Rattle.shared_checks.specs.Calls.{calls_in}
use Rattle.shared_checks.specs.Fronts.{bound_of}
use Rattle.shared_checks.proofs.Orders.{order_of}
use Rattle.shared_checks.proofs.KnownLemmas.{known_more}
use Rattle.shared_checks.proofs.known.known_of.Goals as goal

pub last_bound-requires-clause-order : goal.last_bound-requires-clause-order
last_bound-requires-clause-order c =
    let at = slice_get_read c.args.lists.now (length c.args.lists.now) c.loop-items.items-index c.items-item.result refl c.loop-items-test.true c.items-item.is in
    let here : calls_in c.args.lists.now c.loop-items.items-index ≡ c.as_slice.result.now = get_or_from_slice_get c.args.lists.now c.loop-items.items-index c.items-item.result [] at ∙ sym c.as_slice.ensures in
    subst (λ (items : List Item). (i j : ℕ) (x y : Item) → i < j → slice_get items i ≡ Some x → slice_get items j ≡ Some y → bound x ≤ y.place) here
    (order_of (calls_in c.args.lists.now) c.requires.fronts c.loop-items.items-index).behind

pub loop-items-preserved : goal.loop-items-preserved
loop-items-preserved c =
    let at = slice_get_read c.args.lists.now (length c.args.lists.now) c.loop-items.items-index c.items-item.result refl c.loop-items-test.true c.items-item.is in
    let here : calls_in c.args.lists.now c.loop-items.items-index ≡ c.as_slice.result.now = get_or_from_slice_get c.args.lists.now c.loop-items.items-index c.items-item.result [] at ∙ sym c.as_slice.ensures in
    let bounds : bound_of (take c.next_count-count.result c.as_slice.result.now) ≡ bound_of (take c.next_count-count.result (calls_in c.args.lists.now c.loop-items.items-index)) = ap (λ items. bound_of (take c.next_count-count.result items)) (sym here) in
    known_more c.args.lists.now c.args.front.now c.loop-items.items-index c.loop-items.most c.loop-items.counts c.loop-items.invariant
    c.next_count-count.result c.next_count-count.new.counts c.loop-items-test.true c.next_count-count.ensures.count c.next_count-count.ensures.rest
    c.max-most.result (omega (arith, c.last_bound.ensures, bounds, c.max-most.ensures))
