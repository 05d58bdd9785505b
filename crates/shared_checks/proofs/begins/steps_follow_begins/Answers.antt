use Rattle.std.proofs.Common.{◌≡◌, ℕ, List, [], length, Some, slice_get, ◌∙◌, refl, sym, subst}
use Rattle.std.proofs.lemmas.Bool.{false≢true}
use Rattle.std.proofs.lemmas.Option.{slice_get_read, get_or_from_slice_get}
use Rattle.sync_model.specs.declared.item.Item.{Item}
use Rattle.shared_checks.specs.Calls.{calls_in}
use Rattle.shared_checks.specs.Parts.{HasBegun}
use Rattle.shared_checks.proofs.Begun.{list_more, all_lists}
use Rattle.shared_checks.proofs.begins.steps_follow_begins.Goals as goal

pub returns-then-not-have_begun : goal.returns-then-not-have_begun
returns-then-not-have_begun c =
    let index = c.loop-items.items-index in
    let at = slice_get_read c.args.lists.now (length c.args.lists.now) index c.items-item.result refl c.loop-items-test.true c.items-item.is in
    let same : calls_in c.args.lists.now index ≡ c.as_slice.result.now = get_or_from_slice_get c.args.lists.now index c.items-item.result [] at ∙ sym c.as_slice.ensures in
    (λ no_. absurd (false≢true no_), λ all. absurd (false≢true (sym c.if-not-have_begun.true ∙ c.have_begun.ensures.1 (subst (λ (xs : List Item). (j : ℕ) (x : Item) → slice_get xs j ≡ Some x → HasBegun xs j x) same (all index)))))

pub loop-items-preserved : goal.loop-items-preserved
loop-items-preserved c =
    let index = c.loop-items.items-index in
    let at = slice_get_read c.args.lists.now (length c.args.lists.now) index c.items-item.result refl c.loop-items-test.true c.items-item.is in
    let same : calls_in c.args.lists.now index ≡ c.as_slice.result.now = get_or_from_slice_get c.args.lists.now index c.items-item.result [] at ∙ sym c.as_slice.ensures in
    list_more HasBegun c.args.lists.now index (subst (λ (xs : List Item). (j : ℕ) (x : Item) → slice_get xs j ≡ Some x → HasBegun xs j x) (sym same) (c.have_begun.ensures.0 c.if-not-have_begun.false)) c.loop-items.invariant

pub returns : goal.returns
returns c = (λ yes_. all_lists HasBegun c.args.lists.now c.loop-items.items-index c.loop-items-test.false c.loop-items.invariant, λ all. refl)
