use Rattle.std.proofs.Common.{◌≡◌, ◌+◌, ◌∙◌, List, length, refl, slice_get, Some, sym, ap, subst}
use Rattle.std.proofs.lemmas.Option.{slice_get_read}
use Rattle.object_checks.specs.declared.journals.item.JournalItem.{JournalItem}
use Rattle.object_checks.proofs.GatherLemmas.{AreTables, table_more}
use Rattle.object_checks.proofs.journals.gathering.tables_of.Goals as goal

pub loop-items-preserved : goal.loop-items-preserved
loop-items-preserved c =
    let at : slice_get c.args.lists.now c.loop-items.items-index ≡ Some c.items-item.result = slice_get_read c.args.lists.now (length c.args.lists.now) c.loop-items.items-index c.items-item.result refl c.loop-items-test.true c.items-item.is in
    let sorted = rw c.in-Some.is at c.in_ok-table.ensures in
    subst (AreTables c.args.lists.now c.args.objects (c.loop-items.items-index + 1)) (sym c.in_ok-push.ensures.items)
    (table_more c.args.lists.now c.args.objects c.loop-items.items-index c.loop-items.tables.items c.loop-items.invariant
    c.as_slice.result.now (at ∙ ap (λ (l : List JournalItem). Some l) (sym c.as_slice.ensures)) c.in-Some.table sorted.0 sorted.1)
