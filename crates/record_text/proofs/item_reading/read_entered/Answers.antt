use Rattle.std.proofs.Common.{◌∙◌, refl, sym, codes}
use Rattle.record_text.specs.Cuts.{parts_in}
use Rattle.record_text.proofs.SaidLemmas.{along, entered_words, entered_object, entered_number, entered_event, entered_answer, entered_row, entered_said}
use Rattle.record_text.proofs.item_reading.read_entered.Goals as goal

pub returns-in_err-first : goal.returns-in_err-first
returns-in_err-first c =
    rw c.from_residual.ensures (entered_words c.args.workload.now (parts_in 32 c.args.rest) c.in_err-first.ensures)

pub returns-in_err-object : goal.returns-in_err-object
returns-in_err-object c =
    let none = rw c.requires at c.in_err-object.ensures in rw c.from_residual-in_err-object.ensures (along c.args.workload.now (codes "event") _ (parts_in 32 c.args.rest) (entered_object c.args.workload.now c.in_ok-first.first.now c.in_ok-first.second.now c.in_ok-first.front.now c.in_ok-first.fourth.now c.in_ok-first.fifth.now none) (sym c.in_ok-first.ensures))

pub returns-in_err-number : goal.returns-in_err-number
returns-in_err-number c =
    rw c.from_residual-in_err-number.ensures (along c.args.workload.now (codes "event") _ (parts_in 32 c.args.rest) (entered_number c.args.workload.now c.in_ok-first.first.now c.in_ok-first.second.now c.in_ok-first.front.now c.in_ok-first.fourth.now c.in_ok-first.fifth.now c.in_err-number.ensures) (sym c.in_ok-first.ensures))

pub returns-in_err-event : goal.returns-in_err-event
returns-in_err-event c =
    let none = rw c.workers.ensures.workers at c.in_err-event.ensures in rw c.from_residual-in_err-event.ensures (along c.args.workload.now (codes "event") _ (parts_in 32 c.args.rest) (entered_event c.args.workload.now c.in_ok-first.first.now c.in_ok-first.second.now c.in_ok-first.front.now c.in_ok-first.fourth.now c.in_ok-first.fifth.now none) (sym c.in_ok-first.ensures))

pub returns-in_err-answer : goal.returns-in_err-answer
returns-in_err-answer c =
    let none = rw c.workers-2.ensures.workers at c.in_err-answer.ensures in rw c.from_residual-in_err-answer.ensures (along c.args.workload.now (codes "event") _ (parts_in 32 c.args.rest) (entered_answer c.args.workload.now c.in_ok-first.first.now c.in_ok-first.second.now c.in_ok-first.front.now c.in_ok-first.fourth.now c.in_ok-first.fifth.now none) (sym c.in_ok-first.ensures))

pub returns-else-has_answer : goal.returns-else-has_answer
returns-else-has_answer c =
    let found = rw c.requires at c.in_ok-object.ensures in
    let (named, at, word_is, kind_is) = found.1 in
    let event = rw c.workers.ensures.workers at c.in_ok-event.ensures in
    let answer = rw c.workers-2.ensures.workers at c.in_ok-answer.ensures in
    along c.args.workload.now (codes "event") _ (parts_in 32 c.args.rest)
    (entered_row c.args.workload.now c.in_ok-first.first.now c.in_ok-first.second.now c.in_ok-first.front.now c.in_ok-first.fourth.now c.in_ok-first.fifth.now c.in_ok-object.object named c.in_ok-event.event c.in_ok-answer.answer found.0 at event.0 event.1 answer.0 answer.1 c.workers.ensures.readable.few_workers (rw kind_is (sym c.has_answer.ensures ∙ c.if-has_answer.false)))
    (sym c.in_ok-first.ensures)

pub returns-then-has_answer : goal.returns-then-has_answer
returns-then-has_answer c =
    let found = rw c.requires at c.in_ok-object.ensures in
    let (named, at, word_is, kind_is) = found.1 in
    let event = rw c.workers.ensures.workers at c.in_ok-event.ensures in
    let answer = rw c.workers-2.ensures.workers at c.in_ok-answer.ensures in
    let said = entered_said c.args.workload.now c.in_ok-first.first.now c.in_ok-first.second.now c.in_ok-first.front.now c.in_ok-first.fourth.now c.in_ok-first.fifth.now c.in_ok-object.object c.in_ok-number.number named c.in_ok-event.event c.in_ok-answer.answer found.0 at word_is c.in_ok-number.ensures.0 c.in_ok-number.ensures.1 event.0 event.1 answer.0 answer.1 (rw kind_is (sym c.has_answer.ensures ∙ c.if-has_answer.true)) in
    (said.0, refl, said.1 ∙ c.in_ok-first.ensures)
