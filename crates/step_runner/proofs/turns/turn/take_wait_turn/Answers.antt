use Rattle.std.proofs.Common.{◌≡◌, List, ◌∙◌, Some, None, sym, ap, subst}
use Rattle.std.specs.Prelude.{slice_get}
use Rattle.std.proofs.lemmas.Result.{IfOk-weaker, on_ok_weaker}
use Rattle.step_runner.specs.declared.turns.answer.Answer.{Answer}
use Rattle.step_runner.specs.declared.turns.object_state.ObjectState.{ObjectState}
use Rattle.step_runner.specs.declared.turns.item.Item.{Item}
use Rattle.step_runner.specs.Noted.{noted}
use Rattle.step_runner.specs.Ready.{IsReady}
use Rattle.step_runner.specs.TurnAtObjects.{turn_on_both, turn_at, with_both}
use Rattle.step_runner.specs.TurnWithin.{wait_on}
use Rattle.step_runner.proofs.AtObjects.{apart, refers_as_read, turn_referring}
use Rattle.step_runner.proofs.ItemsNoted.{items_referring}
use Rattle.step_runner.proofs.TurnOwn.{cond_refers}
use Rattle.step_runner.proofs.turns.turn.take_wait_turn.Goals as goal

pub take_turn_at_both-requires-clause-target : goal.take_turn_at_both-requires-clause-target
take_turn_at_both-requires-clause-target c =
    let t = c.requires.refers c.in-Some.mutex (refers_as_read c.args.objects.now c.args.cond c.requires.object c.index-objects-cond.result c.refers_to.result (Some c.in-Some.mutex) c.requires.there c.refers_to.ensures c.in-Some.is) in
    (t.target, t.there, t.machine)

pub take_turn_at_both-requires-clause-apart : goal.take_turn_at_both-requires-clause-apart
take_turn_at_both-requires-clause-apart c =
    let t = c.requires.refers c.in-Some.mutex (refers_as_read c.args.objects.now c.args.cond c.requires.object c.index-objects-cond.result c.refers_to.result (Some c.in-Some.mutex) c.requires.there c.refers_to.ensures c.in-Some.is) in
    apart c.args.objects.now c.args.cond c.in-Some.mutex c.requires.object t.target c.requires.there t.there t.is

pub returns-in-None : goal.returns-in-None
returns-in-None c =
    absurd (cond_refers c.requires.object _ c.requires.has (refers_as_read c.args.objects.now c.args.cond c.requires.object c.index-objects-cond.result c.refers_to.result None c.requires.there c.refers_to.ensures c.in-None.is))

pub returns-in-Some-clause-turn : goal.returns-in-Some-clause-turn
returns-in-Some-clause-turn c =
    let taker = c.args.taker in
    let wait = wait_on c.args.cond in
    let objects = c.args.objects.now in
    let refers_other = refers_as_read objects c.args.cond c.requires.object c.index-objects-cond.result c.refers_to.result (Some c.in-Some.mutex) c.requires.there c.refers_to.ensures c.in-Some.is in
    let t = c.requires.refers c.in-Some.mutex refers_other in
    IfOk-weaker c.take_turn_at_both.result
    (λ (answer : Answer). (object target : ObjectState) → slice_get objects c.args.cond ≡ Some object → slice_get objects c.in-Some.mutex ≡ Some target
    → with_both c.args.cond c.in-Some.mutex objects (turn_on_both wait.operation taker.worker taker.moment object target) ≡ (c.take_turn_at_both.new.objects, answer))
    (λ (answer : Answer). turn_at wait taker.worker taker.moment objects ≡ (c.take_turn_at_both.new.objects, answer))
    (λ answer is. turn_referring wait taker.worker taker.moment objects c.requires.object c.in-Some.mutex t.target c.requires.there refers_other t.there ∙ is c.requires.object t.target c.requires.there t.there)
    c.take_turn_at_both.ensures.turn

pub returns-in-Some-clause-ready : goal.returns-in-Some-clause-ready
returns-in-Some-clause-ready c =
    let taker = c.args.taker in
    let wait = wait_on c.args.cond in
    let objects = c.args.objects.now in
    let refers_other = refers_as_read objects c.args.cond c.requires.object c.index-objects-cond.result c.refers_to.result (Some c.in-Some.mutex) c.requires.there c.refers_to.ensures c.in-Some.is in
    let t = c.requires.refers c.in-Some.mutex refers_other in
    IfOk-weaker c.take_turn_at_both.result
    (λ (answer : Answer). (object target : ObjectState) → slice_get objects c.args.cond ≡ Some object → slice_get objects c.in-Some.mutex ≡ Some target
    → with_both c.args.cond c.in-Some.mutex objects (turn_on_both wait.operation taker.worker taker.moment object target) ≡ (c.take_turn_at_both.new.objects, answer))
    (λ (answer : Answer). IsReady taker.workers taker.worker wait c.take_turn_at_both.new.objects)
    (λ answer is.
    subst (λ (step : List ObjectState × Answer). IsReady taker.workers taker.worker wait step.0)
    (turn_referring wait taker.worker taker.moment objects c.requires.object c.in-Some.mutex t.target c.requires.there refers_other t.there ∙ is c.requires.object t.target c.requires.there t.there)
    (c.turns_keep_kinds_and_machines.ensures.ready taker.workers taker.worker taker.moment taker.worker wait wait objects c.requires c.requires))
    c.take_turn_at_both.ensures.turn

pub returns-in-Some-clause-noted : goal.returns-in-Some-clause-noted
returns-in-Some-clause-noted c =
    let taker = c.args.taker in
    let wait = wait_on c.args.cond in
    let objects = c.args.objects.now in
    let refers_other = refers_as_read objects c.args.cond c.requires.object c.index-objects-cond.result c.refers_to.result (Some c.in-Some.mutex) c.requires.there c.refers_to.ensures c.in-Some.is in
    let t = c.requires.refers c.in-Some.mutex refers_other in
    on_ok_weaker c.take_turn_at_both.result
    (λ more.
    more c.requires.object t.target c.requires.there t.there
    ∙ ap (λ (made : List Item). noted made c.args.notes.now)
    (sym (items_referring wait taker.worker taker.moment objects c.requires.object c.in-Some.mutex t.target c.requires.there refers_other t.there)))
    c.take_turn_at_both.ensures.noted
