use Rattle.std.proofs.Common.{List, ap, sym, subst, ◌∙◌}
use Rattle.sync_model.specs.declared.item.Item.{Item}
use Rattle.shared_checks.specs.declared.placed.Placed.{Placed}
use Rattle.shared_checks.specs.Placing.{contents_of}
use Rattle.shared_checks.specs.Marks.{AreMarked, all_marked_from}
use Rattle.shared_checks.proofs.MarkLemmas.{are_all_marked}
use Rattle.shared_checks.proofs.marking.marked.Goals as goal

pub returns : goal.returns
returns c =
    let owned = rw c.deref-2.ensures.value at (rw c.in-Some.is at c.in_ok-owners.ensures) in
    let made = c.in_ok-marked.ensures ∙ ap (λ (os : List Placed). all_marked_from os 0 c.args.lists.items) c.deref-4.ensures.value in
    subst (λ (ms : List (List Item)). AreMarked (contents_of c.args.objects) c.args.lists.items ms) (sym made)
    (are_all_marked c.in-Some.owners.items (contents_of c.args.objects) c.args.lists.items owned)
