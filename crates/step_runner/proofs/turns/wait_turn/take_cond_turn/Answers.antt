use Rattle.std.proofs.Common.{◌≡◌, ℕ, sym, ap, ◌∙◌}
use Rattle.std.proofs.lemmas.Result.{IfOk-weaker, on_ok_weaker}
use Rattle.script_calls.specs.declared.call.Operation.TheVariants as operations
use Rattle.step_runner.specs.declared.turns.answer.Answer.{Answer}
use Rattle.step_runner.specs.declared.turns.object_state.ObjectState.{ObjectState}
use Rattle.step_runner.specs.declared.turns.object_state.ObjectState.TheVariants as states
use Rattle.step_runner.specs.Items.{items_on_both}
use Rattle.step_runner.specs.Noted.{noted}
use Rattle.step_runner.specs.TurnAtObjects.{turn_on_both}
use Rattle.step_runner.proofs.turns.wait_turn.take_cond_turn.Goals as goal

pub returns-in-Mutex-clause-turn : goal.returns-in-Mutex-clause-turn
returns-in-Mutex-clause-turn c =
    let call = operations.Cond c.args.call in
    let made = c.take_turn_by_call in
    let turn : ObjectState → ObjectState → (ObjectState × ObjectState) × Answer = turn_on_both call c.args.taker.worker c.args.taker.moment in
    IfOk-weaker made.result
    (λ (answer : Answer). (place : ℕ) → turn (states.Cond c.in-Cond.cond place) (states.Mutex c.in-Mutex.mutex) ≡ ((states.Cond made.new.cond place, states.Mutex made.new.mutex), answer))
    (λ (answer : Answer). turn c.args.object.now c.args.target.now ≡ ((states.Cond made.new.cond c.in-Cond.mutex, states.Mutex made.new.mutex), answer))
    (λ answer is.
    ap (λ (x : ObjectState). turn x c.args.target.now) c.in-Cond.is ∙ ap (λ (x : ObjectState). turn (states.Cond c.in-Cond.cond c.in-Cond.mutex) x) c.in-Mutex.is
    ∙ is c.in-Cond.mutex)
    made.ensures.turn

pub returns-in-Mutex-clause-noted : goal.returns-in-Mutex-clause-noted
returns-in-Mutex-clause-noted c =
    let call = operations.Cond c.args.call in
    let worker = c.args.taker.worker in
    let moment = c.args.taker.moment in
    on_ok_weaker c.take_turn_by_call.result
    (λ more.
    more c.in-Cond.mutex
    ∙ ap (λ (x : ObjectState). noted (items_on_both call worker moment c.args.at.object c.args.at.target (states.Cond c.in-Cond.cond c.in-Cond.mutex) x) c.args.notes.now) (sym c.in-Mutex.is)
    ∙ ap (λ (x : ObjectState). noted (items_on_both call worker moment c.args.at.object c.args.at.target x c.args.target.now) c.args.notes.now) (sym c.in-Cond.is))
    c.take_turn_by_call.ensures.noted
