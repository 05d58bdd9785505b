use Rattle.std.proofs.Common.{◌≡◌, List, ◌∷◌, ◌++◌, sym, ap, ◌∙◌}
use Rattle.sync_model.specs.Journal.{by}
use Rattle.run_record.specs.declared.made.Made.{Made}
use Rattle.run_record.specs.Record.{ObjectEntry, journal_of, entries_in}
use Rattle.run_record.proofs.ListOrder.{entries_cut, stands}
use Rattle.run_record.proofs.laws.edges.a_list_keeps_the_order_of_its_journals.Goals as goal

pub returns : goal.returns
returns c plan r worker object first second earlier between later lawful parts =
    let journal : List ObjectEntry = journal_of r object in
    let own : by worker journal ≡ entries_in object earlier ++ first ∷ (entries_in object between ++ second ∷ entries_in object later) =
    sym (lawful.once worker object) ∙ ap (λ (list : List Made). entries_in object list) parts ∙ entries_cut object earlier between later first second in
    let a = stands worker journal (entries_in object earlier) (entries_in object between ++ second ∷ entries_in object later) first own in
    let b = stands worker a.rest (entries_in object between) (entries_in object later) second a.own in
    let there = a.behind b.place second b.at in
    (a.place, there.0, there.1, a.at, there.2, a.caller, b.caller)
