use Rattle.std.proofs.Common.{◌≡◌, List, Some, None, get_or, set, sym, ap, ◌∙◌}
use Rattle.std.specs.Prelude.{slice_get}
use Rattle.std.proofs.lemmas.Option.{get_or_from_slice_get}
use Rattle.std.proofs.lemmas.Result.{IfOk-weaker, on_ok_weaker}
use Rattle.step_runner.specs.declared.turns.answer.Answer.{Answer}
use Rattle.step_runner.specs.declared.turns.item.Item.{Item}
use Rattle.step_runner.specs.declared.turns.object_state.ObjectState.{ObjectState}
use Rattle.step_runner.specs.Items.{items_on}
use Rattle.step_runner.specs.Noted.{noted}
use Rattle.step_runner.specs.TurnAtObjects.{turn_on, turn_on_both, turn_at, with_object, with_both}
use Rattle.step_runner.proofs.AtObjects.{apart, refers_as_read, turn_alone, turn_referring}
use Rattle.step_runner.proofs.ItemsNoted.{items_alone, items_referring}
use Rattle.step_runner.proofs.turns.turn.take_turn_at.Goals as goal

pub take_turn_at_both-requires-clause-target : goal.take_turn_at_both-requires-clause-target
take_turn_at_both-requires-clause-target c =
    let ready = c.requires.ready in
    let t = ready.refers c.in-Some.target (refers_as_read c.args.objects.now c.args.call.now.object ready.object c.index-objects-object.result c.refers_to.result (Some c.in-Some.target) ready.there c.refers_to.ensures c.in-Some.is) in
    (t.target, t.there, t.machine)

pub take_turn_at_both-requires-clause-apart : goal.take_turn_at_both-requires-clause-apart
take_turn_at_both-requires-clause-apart c =
    let ready = c.requires.ready in
    let t = ready.refers c.in-Some.target (refers_as_read c.args.objects.now c.args.call.now.object ready.object c.index-objects-object.result c.refers_to.result (Some c.in-Some.target) ready.there c.refers_to.ensures c.in-Some.is) in
    apart c.args.objects.now c.args.call.now.object c.in-Some.target ready.object t.target ready.there t.there t.is

pub returns-in-None-clause-turn : goal.returns-in-None-clause-turn
returns-in-None-clause-turn c =
    let objects = c.args.objects.now in
    let call = c.args.call.now in
    let object = c.requires.ready.object in
    let at_turn = get_or_from_slice_get objects call.object object c.index-objects-object-in-None.result c.requires.ready.there in
    let none = refers_as_read objects call.object object c.index-objects-object.result c.refers_to.result None c.requires.ready.there c.refers_to.ensures c.in-None.is in
    IfOk-weaker c.take_turn_on.result
    (λ answer. turn_on call.operation c.args.taker.worker c.args.taker.moment (get_or objects call.object c.index-objects-object-in-None.result) ≡ (c.take_turn_on.new.object, answer))
    (λ answer. turn_at call c.args.taker.worker c.args.taker.moment objects ≡ (set objects call.object c.take_turn_on.new.object, answer))
    (λ answer is.
    turn_alone call c.args.taker.worker c.args.taker.moment objects object c.requires.ready.there none
    ∙ ap (with_object call.object objects) (ap (turn_on call.operation c.args.taker.worker c.args.taker.moment) (sym at_turn) ∙ is))
    c.take_turn_on.ensures.turn

pub returns-in-None-clause-noted : goal.returns-in-None-clause-noted
returns-in-None-clause-noted c =
    let objects = c.args.objects.now in
    let call = c.args.call.now in
    let object = c.requires.ready.object in
    let at_turn = get_or_from_slice_get objects call.object object c.index-objects-object-in-None.result c.requires.ready.there in
    let none = refers_as_read objects call.object object c.index-objects-object.result c.refers_to.result None c.requires.ready.there c.refers_to.ensures c.in-None.is in
    on_ok_weaker c.take_turn_on.result
    (λ more.
    more ∙ ap (λ (o : ObjectState). noted (items_on call.operation c.args.taker.worker c.args.taker.moment call.object o) c.args.notes.now) at_turn
    ∙ ap (λ (made : List Item). noted made c.args.notes.now) (sym (items_alone call c.args.taker.worker c.args.taker.moment objects object c.requires.ready.there none)))
    c.take_turn_on.ensures.noted

pub returns-in-Some-clause-turn : goal.returns-in-Some-clause-turn
returns-in-Some-clause-turn c =
    let objects = c.args.objects.now in
    let call = c.args.call.now in
    let worker = c.args.taker.worker in
    let moment = c.args.taker.moment in
    let ready = c.requires.ready in
    let refers_other = refers_as_read objects call.object ready.object c.index-objects-object.result c.refers_to.result (Some c.in-Some.target) ready.there c.refers_to.ensures c.in-Some.is in
    let t = ready.refers c.in-Some.target refers_other in
    IfOk-weaker c.take_turn_at_both.result
    (λ (answer : Answer). (object target : ObjectState) → slice_get objects call.object ≡ Some object → slice_get objects c.in-Some.target ≡ Some target
    → with_both call.object c.in-Some.target objects (turn_on_both call.operation worker moment object target) ≡ (c.take_turn_at_both.new.objects, answer))
    (λ (answer : Answer). turn_at call worker moment objects ≡ (c.take_turn_at_both.new.objects, answer))
    (λ answer is. turn_referring call worker moment objects ready.object c.in-Some.target t.target ready.there refers_other t.there ∙ is ready.object t.target ready.there t.there)
    c.take_turn_at_both.ensures.turn

pub returns-in-Some-clause-noted : goal.returns-in-Some-clause-noted
returns-in-Some-clause-noted c =
    let objects = c.args.objects.now in
    let call = c.args.call.now in
    let worker = c.args.taker.worker in
    let moment = c.args.taker.moment in
    let ready = c.requires.ready in
    let refers_other = refers_as_read objects call.object ready.object c.index-objects-object.result c.refers_to.result (Some c.in-Some.target) ready.there c.refers_to.ensures c.in-Some.is in
    let t = ready.refers c.in-Some.target refers_other in
    on_ok_weaker c.take_turn_at_both.result
    (λ more.
    more ready.object t.target ready.there t.there
    ∙ ap (λ (made : List Item). noted made c.args.notes.now) (sym (items_referring call worker moment objects ready.object c.in-Some.target t.target ready.there refers_other t.there)))
    c.take_turn_at_both.ensures.noted
