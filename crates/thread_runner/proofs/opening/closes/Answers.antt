use Rattle.std.proofs.Common.{sym, ◌∙◌}
use Rattle.run_record.specs.Objects.{starts_number}
use Rattle.run_record.specs.StartsKind.{done_part, end_part}
use Rattle.thread_runner.proofs.WholeLines.{closes_by, ends_at_once}
use Rattle.thread_runner.proofs.Working.{erred_first, halted_first, keeps_on, went_first}
use Rattle.thread_runner.proofs.opening.closes.Goals as goal

pub returns-then-not-has_dormant-clause-works : goal.returns-then-not-has_dormant-clause-works
returns-then-not-has_dormant-clause-works g c = ends_at_once c.args.site.now.catalog.workload.now c.args.worker.now.number c.moves.ensures.none _ (sym c.has_dormant.ensures ∙ c.if-not-has_dormant.true)

pub returns-in-Done-Err-clause-works : goal.returns-in-Done-Err-clause-works
returns-in-Done-Err-clause-works g c =
    let plan = c.args.site.now.catalog.workload.now in
    let worker = c.args.worker.now.number in
    closes_by plan worker _ _ _ (sym c.has_dormant.ensures ∙ c.if-not-has_dormant.false)
    (erred_first c.moves.ensures.none c.moves.ensures.joined (done_part plan worker) (λ done. end_part (starts_number plan)) _ _ c.in-Done-Err.misuse (rw c.in-Done-Err.field-0-is at c.in-Done-Err.ensures.works))

pub returns-in-Halted-clause-works : goal.returns-in-Halted-clause-works
returns-in-Halted-clause-works g c =
    let plan = c.args.site.now.catalog.workload.now in
    let worker = c.args.worker.now.number in
    closes_by plan worker _ _ _ (sym c.has_dormant.ensures ∙ c.if-not-has_dormant.false)
    (halted_first c.moves.ensures.none c.moves.ensures.joined (done_part plan worker) (λ done. end_part (starts_number plan)) _ _ c.in-Halted.misuse c.in-Halted.ensures.works)

pub end_at-requires-clause-dormant : goal.end_at-requires-clause-dormant
end_at-requires-clause-dormant g c = sym c.has_dormant.ensures ∙ c.if-not-has_dormant.false

pub end_at-requires-clause-note : goal.end_at-requires-clause-note
end_at-requires-clause-note g c = c.leaves_group.ensures.note.home _ c.requires.note

pub returns-clause-note : goal.returns-clause-note
returns-clause-note g c = keeps_on g.S.Mark.Note.at g.S.Mark.Note.own g.S.Mark.Note.front _ _ _ c.leaves_group.ensures.note c.end_at.ensures.note

pub returns-clause-works : goal.returns-clause-works
returns-clause-works g c =
    let plan = c.args.site.now.catalog.workload.now in
    let worker = c.args.worker.now.number in
    closes_by plan worker _ _ _ (sym c.has_dormant.ensures ∙ c.if-not-has_dormant.false)
    (went_first c.moves.ensures.none c.moves.ensures.joined (done_part plan worker) (λ done. end_part (starts_number plan)) _ _ tt _ _ (rw c.in-Done-Ok.field-0-is at c.in-Done-Ok.ensures.works) c.end_at.ensures.works)
