use Rattle.std.proofs.Common.{◌≡◌, ◌+◌, ◌<◌, ◌++◌, length, Some, refl, sym, ap, ◌∙◌, arith, rules}
use Rattle.std.specs.List.{slice_get, slice_index_or}
use Rattle.std.proofs.lemmas.List.{length-append}
use Rattle.std.proofs.lemmas.Option.{slice_get-get_or}
use Rattle.go_pool.proofs.TableSteps.{corner_swapped, seam_get, front_get}
use Rattle.go_pool.proofs.columns.swap_corner.Goals as goal

pub returns : goal.returns
returns g c =
    let low = c.split_at_mut-low.result.0.now in
    let high = c.split_at_mut-low.result.1.now in
    let row = c.args.row in
    let column = c.args.column in
    let ps = c.args.passes.now in
    let split : ps ≡ low ++ high = search rules in
    let long : length low ≡ row = search rules in
    let whole : length ps ≡ length low + length high = ap length split ∙ length-append low high in
    let some : 0 < length high = let r = c.requires.row in omega arith in
    let a = slice_index_or low column c.index-low-column.result in
    let b = slice_index_or high 0 c.index-high-0.result in
    let before = c.requires.order in
    let at_row : slice_get ps row ≡ Some b = ap (λ l. slice_get l row) split ∙ seam_get low high row c.index-high-0.result long some in
    let at_column : slice_get ps column ≡ Some a = ap (λ l. slice_get l column) split ∙ front_get low high column c.index-low-column.result (omega arith) in
    let long_b : length b.parts.items ≡ length ps = c.requires.square row b at_row in
    let long_a : length a.parts.items ≡ length ps = c.requires.square column a at_column in
    let in_row : slice_get b.parts.items column ≡ Some c.swap.new.x = slice_get-get_or b.parts.items column _ (let r = c.requires.row in omega arith) ∙ ap Some (sym (c.swap.ensures.x_after ∙ c.index_mut-2.ensures.value)) in
    let in_column : slice_get a.parts.items row ≡ Some c.swap.new.y = slice_get-get_or a.parts.items row _ (let r = c.requires.row in omega arith) ∙ ap Some (sym (c.swap.ensures.y_after ∙ c.index_mut.ensures.value)) in
    corner_swapped low high ps row column a b _ _ c.swap.new.x c.swap.new.y split long before at_row at_column in_row in_column refl refl refl refl refl refl
