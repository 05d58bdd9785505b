use Rattle.std.proofs.Common.{List, [], ◌∷◌, ◌++◌, length, sym, ap, ◌∙◌, arith}
use Rattle.sync_model.specs.declared.item.Item.{Item}
use Rattle.shared_checks.specs.Marks.{all_marked_from}
use Rattle.shared_checks.proofs.MarkLemmas.{all_more, count_all}
use Rattle.shared_checks.proofs.marking.mark_all.Goals as goal

pub loop-items-preserved : goal.loop-items-preserved
loop-items-preserved c =
    let counted = ap (λ (xs : List (List Item)). length xs) c.loop-items.invariant ∙ count_all c.args.owners.now 0 c.loop-items.yielded in
    let long = c.len-caller.ensures ∙ c.loop-items.marked.ok.0 in
    let more = all_more c.args.owners.now 0 c.loop-items.yielded c.in-Some.items c.len-caller.result (omega (arith, counted, long)) in
    c.in_ok-push.ensures.items ∙ ap (λ (xs : List (List Item)). xs ++ c.in_ok-mark_items.field-0 ∷ []) c.loop-items.invariant
    ∙ ap (λ (x : List Item). all_marked_from c.args.owners.now 0 c.loop-items.yielded ++ x ∷ []) c.in_ok-mark_items.ensures ∙ sym more
