use Rattle.std.proofs.Common.{◌∙◌, List, sym, ap, subst, arith}
use Rattle.std.specs.Borrow.{Bor}
use Rattle.object_checks.specs.declared.journals.item.JournalItem.{JournalItem}
use Rattle.object_checks.specs.JournalItems.{items_on}
use Rattle.object_checks.specs.JournalParts.{journal_at}
use Rattle.object_checks.specs.JournalRows.{items_in}
use Rattle.object_checks.proofs.GatherLemmas.{HaveJournals, none_without, merged_alike, journals_all}
use Rattle.object_checks.proofs.journals.gathering.journals_of.Goals as goal

pub returns-in_default : goal.returns-in_default
returns-in_default c = none_without c.args.lists.now c.args.objects (rw c.in_default.is at c.in_ok-tables.ensures)

pub returns-in_default-2 : goal.returns-in_default-2
returns-in_default-2 c = λ journals are.
    let tables = rw c.in-Some.is at c.in_ok-tables.ensures in
    let none = rw c.in_default-2.is at c.in_ok-journal.ensures in
    none (journal_at journals c.loop-object.object)
    (merged_alike (items_on c.args.lists.now c.loop-object.object) (items_in c.deref.result.now c.loop-object.object) (journal_at journals c.loop-object.object)
    (λ worker. sym (ap (λ (t : List (List (List (Bor JournalItem)))). items_in t c.loop-object.object worker) c.deref.ensures.value ∙ tables.1 c.loop-object.object worker))
    (are.merged c.loop-object.object))

pub returns : goal.returns
returns c =
    let tables = rw c.in-Some.is at c.in_ok-tables.ensures in
    journals_all c.args.lists.now c.args.objects c.loop-object.journals.items
    (subst (λ n. HaveJournals c.args.lists.now c.args.objects n c.loop-object.journals.items) (let past = c.loop-object-test.false in let before = c.loop-object.auto.object-end in omega (arith, past, before)) c.loop-object.invariant) tables.2
