use Rattle.std.proofs.Common.{refl}
use Rattle.record_text.specs.Reads.{told_by}
use Rattle.run_check.proofs.FoundVerdicts.{found_so}
use Rattle.run_check.proofs.verdict.place_calls.Goals as goal

pub mark_calls-requires-clause-on : goal.mark_calls-requires-clause-on
mark_calls-requires-clause-on c = c.what_is_told_is_on_objects_that_are_there.ensures.told (told_by c.args.text.now) c.args.found c.workers-workers.ensures.readable c.requires.spelt

pub returns-in_default : goal.returns-in_default
returns-in_default c = c.where_no_marks_are_lawful_the_clause_fails.ensures.any (told_by c.args.text.now) c.args.found c.requires.spelt (rw c.in_default.is at c.in_ok-marked.ensures)

pub returns : goal.returns
returns c =
    let (bytes, text) = c.requires.told in
    let told = told_by c.args.text.now in
    let calls = c.in-Some.field-0 in
    let lawful = rw c.in-Some.is at c.in_ok-marked.ensures in
    found_so told bytes text c.args.found c.requires.spelt
    (record { lines = c.args.found.lines; all = c.args.found.all; entries = c.args.found.entries; marked = calls.marked; history = calls.history }) refl refl refl
    (c.where_the_marks_are_lawful_one_claim_is_told.ensures told c.args.found calls.marked.items calls.history.items c.workers-workers.ensures.readable c.requires.spelt lawful.0 lawful.1)
