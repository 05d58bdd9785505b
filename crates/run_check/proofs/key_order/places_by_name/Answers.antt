use Rattle.std.proofs.Common.{◌≡◌, ℕ, ◌+◌, ◌<◌, List, length, Some, slice_get, refl, sym, ap, ◌∙◌, subst, arith, rules}
use Rattle.std.specs.Ordering.{nat_cmp}
use Rattle.std.specs.Cmp.Lexicographic.{slice_cmp}
use Rattle.std.specs.FinMap.{FinMap, insert}
use Rattle.std.proofs.lemmas.Option.{slice_get_read, slice_get_within}
use Rattle.run_check.proofs.NameTables.{HasPlaces, none_yet, one_more}
use Rattle.run_check.proofs.key_order.places_by_name.Goals as goal

pub loop-place-init : goal.loop-place-init
loop-place-init c = subst (λ (table : FinMap (slice_cmp nat_cmp) ℕ). HasPlaces c.args.names.now 0 table) (sym c.new-places.ensures) (none_yet c.args.names.now)

pub loop-place-preserved : goal.loop-place-preserved
loop-place-preserved c =
    let names = c.args.names.now in
    let here = c.index-names-place.result in
    let i = c.loop-place.place in
    let within : i < length names = search rules in
    let at : slice_get names i ≡ Some here = slice_get_read names (length names) i here refl within c.index-names-place.is in
    subst (λ (table : FinMap (slice_cmp nat_cmp) ℕ). HasPlaces names (i + 1) table) (sym (c.in_ok-insert.ensures.ok ∙ ap (λ (word : List ℕ). insert c.loop-place.places word i) c.as_bytes.ensures.bytes))
    (one_more names c.requires.apart i here at c.loop-place.places c.loop-place.invariant)

pub returns-clause-all : goal.returns-clause-all
returns-clause-all c name place at =
    let within = slice_get_within c.args.names.now place name at in
    let past : place < c.loop-place.place = omega (arith, within) in
    c.loop-place.invariant.all name place past at
