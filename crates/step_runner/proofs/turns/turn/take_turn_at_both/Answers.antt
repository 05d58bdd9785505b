use Rattle.std.proofs.Common.{◌≡◌, get_or, set, Some, ◌∙◌, ap, sym}
use Rattle.std.specs.Prelude.{slice_get}
use Rattle.std.proofs.lemmas.Result.{IfOk-weaker, on_ok_weaker}
use Rattle.step_runner.specs.declared.turns.answer.Answer.{Answer}
use Rattle.step_runner.specs.declared.turns.object_state.ObjectState.{ObjectState}
use Rattle.step_runner.specs.Items.{items_on_both}
use Rattle.step_runner.specs.Noted.{noted}
use Rattle.step_runner.specs.TurnAtObjects.{turn_on_both, with_both}
use Rattle.step_runner.proofs.AtObjects.{set_aside}
use Rattle.step_runner.proofs.ItemsNoted.{noted_aside}
use Rattle.step_runner.proofs.turns.turn.take_turn_at_both.Goals as goal

pub returns-clause-turn : goal.returns-clause-turn
returns-clause-turn c =
    let operation = c.args.operation.now in
    let worker = c.args.taker.worker in
    let moment = c.args.taker.moment in
    let objects = c.args.objects.now in
    let own = c.args.at.object in
    let other = c.args.at.target in
    let made = c.take_turn_on_both-answer in
    IfOk-weaker made.result
    (λ (answer : Answer). turn_on_both operation worker moment c.replace-object.result (get_or (set objects own c.replace-object.new.dest) other c.index-objects-at-2.result) ≡ ((made.new.object, made.new.target), answer))
    (λ (answer : Answer). (object target : ObjectState) → slice_get objects own ≡ Some object → slice_get objects other ≡ Some target
    → with_both own other objects (turn_on_both operation worker moment object target) ≡ (set (set (set objects own c.replace-object.new.dest) other made.new.target) own made.new.object, answer))
    (λ answer is object target at there.
    set_aside operation worker moment objects own other c.replace-object.new.dest object target c.index-objects-at.result c.index-objects-at-2.result made.new.object made.new.target answer
    c.requires.apart at there c.index-objects-at.is c.index-objects-at-2.is
    (ap (λ (o : ObjectState). turn_on_both operation worker moment o c.index-objects-at-2.result) (c.index-objects-at.is ∙ sym c.replace-object.ensures.value)
    ∙ ap (turn_on_both operation worker moment c.replace-object.result) c.index-objects-at-2.is
    ∙ is))
    made.ensures.turn

pub returns-clause-noted : goal.returns-clause-noted
returns-clause-noted c =
    let operation = c.args.operation.now in
    let worker = c.args.taker.worker in
    let moment = c.args.taker.moment in
    let objects = c.args.objects.now in
    let own = c.args.at.object in
    let other = c.args.at.target in
    on_ok_weaker c.take_turn_on_both-answer.result
    (λ more object target at there.
    noted_aside operation worker moment objects own other c.replace-object.new.dest object target c.index-objects-at.result c.index-objects-at-2.result c.args.notes.now c.take_turn_on_both-answer.new.notes
    c.requires.apart at there c.index-objects-at.is c.index-objects-at-2.is
    (more
    ∙ ap (λ (o : ObjectState). noted (items_on_both operation worker moment own other o (get_or (set objects own c.replace-object.new.dest) other c.index-objects-at-2.result)) c.args.notes.now)
    (sym (c.index-objects-at.is ∙ sym c.replace-object.ensures.value))
    ∙ ap (λ (o : ObjectState). noted (items_on_both operation worker moment own other c.index-objects-at.result o) c.args.notes.now) (sym c.index-objects-at-2.is)))
    c.take_turn_on_both-answer.ensures.noted
