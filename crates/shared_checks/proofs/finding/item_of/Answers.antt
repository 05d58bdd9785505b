use Rattle.std.proofs.Common.{◌≡◌, List, [], length, Some, slice_get, refl, sym, ap, ◌∙◌, subst, rules}
use Rattle.std.proofs.lemmas.Option.{slice_get_read, slice_get_within, get_or_from_slice_get}
use Rattle.sync_model.specs.declared.item.Item.{Item}
use Rattle.shared_checks.specs.Calls.{calls_in}
use Rattle.shared_checks.proofs.PlayedLemmas.{caller_inside}
use Rattle.shared_checks.proofs.finding.item_of.Goals as goal

pub bounds-items-one : goal.bounds-items-one
bounds-items-one c =
    let inside = caller_inside c.args.lists.now c.args.one.now c.requires in
    let at = slice_get_read c.args.lists.now (length c.args.lists.now) c.args.one.now.caller c.index-lists-one.result refl inside c.index-lists-one.is in
    let same : calls_in c.args.lists.now c.args.one.now.caller ≡ c.as_slice-items.result.now = get_or_from_slice_get c.args.lists.now c.args.one.now.caller c.index-lists-one.result [] at ∙ sym c.as_slice-items.ensures in
    slice_get_within c.as_slice-items.result.now c.args.one.now.index c.requires.0 (subst (λ (xs : List Item). slice_get xs c.args.one.now.index ≡ Some c.requires.0) same c.requires.1)

pub offset_bounds-items-one : goal.offset_bounds-items-one
offset_bounds-items-one c =
    let below = bounds-items-one c in
    search rules

pub returns : goal.returns
returns c =
    let inside = caller_inside c.args.lists.now c.args.one.now c.requires in
    let at = slice_get_read c.args.lists.now (length c.args.lists.now) c.args.one.now.caller c.index-lists-one.result refl inside c.index-lists-one.is in
    let same : calls_in c.args.lists.now c.args.one.now.caller ≡ c.as_slice-items.result.now = get_or_from_slice_get c.args.lists.now c.args.one.now.caller c.index-lists-one.result [] at ∙ sym c.as_slice-items.ensures in
    let within = slice_get_within c.as_slice-items.result.now c.args.one.now.index c.requires.0 (subst (λ (xs : List Item). slice_get xs c.args.one.now.index ≡ Some c.requires.0) same c.requires.1) in
    ap (λ (xs : List Item). slice_get xs c.args.one.now.index) same ∙ slice_get_read c.as_slice-items.result.now (length c.as_slice-items.result.now) c.args.one.now.index c.index-items-one.result refl within c.index-items-one.is
