use Rattle.std.proofs.Common.{List, [], ◌∷◌, ◌++◌, length, sym, ap, ◌∙◌, arith}
use Rattle.sync_model.specs.declared.item.Item.{Item}
use Rattle.shared_checks.specs.Marks.{marked_from}
use Rattle.shared_checks.proofs.MarkLemmas.{count_marked, mark_more}
use Rattle.shared_checks.proofs.marking.mark_items.Goals as goal

pub loop-item-preserved : goal.loop-item-preserved
loop-item-preserved c =
    let counted = ap (λ (xs : List Item). length xs) c.loop-item.invariant ∙ count_marked c.args.owners.now c.args.caller 0 c.loop-item.yielded in
    let more = mark_more c.args.owners.now c.args.caller 0 c.loop-item.yielded c.in-Some.item c.len-index.result (omega (arith, counted, c.len-index.ensures)) in
    c.in_ok-push.ensures.ok ∙ ap (λ (xs : List Item). xs ++ c.mark.result ∷ []) c.loop-item.invariant
    ∙ ap (λ (x : Item). marked_from c.args.owners.now c.args.caller 0 c.loop-item.yielded ++ x ∷ []) c.mark.ensures ∙ sym more
