use Rattle.std.proofs.Common.{◌≡◌, ℕ, List, [], length, Some, slice_get, ◌∙◌, refl, sym, subst}
use Rattle.std.proofs.lemmas.Bool.{false≢true}
use Rattle.std.proofs.lemmas.Option.{slice_get_read, get_or_from_slice_get}
use Rattle.sync_model.specs.declared.item.Item.{Item}
use Rattle.shared_checks.specs.Calls.{calls_in}
use Rattle.shared_checks.specs.Placing.{contents_of}
use Rattle.shared_checks.specs.Showing.{KeepsStep}
use Rattle.shared_checks.proofs.Begun.{all_lists}
use Rattle.shared_checks.proofs.ShowingLemmas.{steps_of, ranges_of}
use Rattle.shared_checks.proofs.ranges.keeps_ranges.Goals as goal

pub returns-then-not-keep_ranges : goal.returns-then-not-keep_ranges
returns-then-not-keep_ranges c =
    let at = slice_get_read c.args.lists.now (length c.args.lists.now) c.loop-caller.caller c.index-lists-caller.result refl c.loop-caller-test.true c.index-lists-caller.is in
    let same : calls_in c.args.lists.now c.loop-caller.caller ≡ c.as_slice.result.now = get_or_from_slice_get c.args.lists.now c.loop-caller.caller c.index-lists-caller.result [] at ∙ sym c.as_slice.ensures in (
      λ no_. absurd (false≢true no_),
      λ law. absurd (false≢true (sym c.if-not-keep_ranges.true ∙ c.keep_ranges.ensures.1
          (subst (λ (xs : List Item). (i : ℕ) (x : Item) → slice_get xs i ≡ Some x → KeepsStep (contents_of c.args.objects.now) c.args.history.now c.args.lists.now xs i x) same
          (steps_of (contents_of c.args.objects.now) c.args.history.now c.args.lists.now c.requires.fronts law c.loop-caller.caller)))),
    )

pub returns : goal.returns
returns c = (
  λ yes_. ranges_of (contents_of c.args.objects.now) c.args.history.now c.args.lists.now c.requires.fronts
      (all_lists (KeepsStep (contents_of c.args.objects.now) c.args.history.now c.args.lists.now) c.args.lists.now c.loop-caller.caller c.loop-caller-test.false c.loop-caller.invariant),
  λ law. refl,
)
