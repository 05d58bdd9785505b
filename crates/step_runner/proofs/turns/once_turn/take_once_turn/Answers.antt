use mir.Val.{to_z, of_z}
use Rattle.std.proofs.Common.{rules, ◌≡◌, ℕ, ◌++◌, sym, ap, ◌∙◌, subst}
use Rattle.std.specs.Prelude.{ℤ}
use Rattle.std.specs.Int.{w64, int_wrapping_add}
use Rattle.std.proofs.lemmas.Result.{IfOk-weaker, on_ok_weaker}
use Rattle.sync_types.specs.declared.atomic_object.Number.{Number}
use Rattle.sync_types.specs.declared.atomic_object.Number.TheVariants.{Int64}
use Rattle.script_calls.specs.declared.call.Operation.TheVariants as operations
use Rattle.run_record.specs.declared.entered.ObjectEvent.TheVariants as events
use Rattle.run_record.specs.declared.entered.ObjectReply.TheVariants as answered
use Rattle.step_runner.specs.declared.turns.answer.Answer.{Answer}
use Rattle.step_runner.specs.declared.turns.object_state.ObjectState.{ObjectState}
use Rattle.step_runner.specs.declared.turns.object_state.ObjectState.TheVariants as states
use Rattle.step_runner.specs.Items.{once_items, add_items, items_on_both}
use Rattle.step_runner.specs.Noted.{noted}
use Rattle.step_runner.specs.TurnAtObjects.{once_made, added, turn_on_both}
use Rattle.step_runner.proofs.turns.once_turn.take_once_turn.Goals as goal

pub returns-in-Atomic-Int64-clause-turn : goal.returns-in-Atomic-Int64-clause-turn
returns-in-Atomic-Int64-clause-turn c =
    let worker = c.args.taker.worker in
    let moment = c.args.taker.moment in
    let o = c.in-Once-object.once in
    let place = c.in-Once-object.atomic in
    let number = c.in-Atomic-Int64.number in
    let made = c.take_adding_turn in
    let same : c.in-Once.delta ≡ c.in-Once-object.delta = let both = c.in-Once-object.is in cc in
    let back : to_z w64 (of_z w64 c.in-Once.delta) ≡ c.in-Once.delta = search rules in
    let Adds : ℤ → ℕ → Answer → Type 0 = λ d place answer.
    added place d (Int64 number) (int_wrapping_add w64 number d) (once_made worker moment (int_wrapping_add w64 number d) o) ≡ ((states.Once made.new.once place d, states.Atomic (Int64 made.new.number)), answer) in
    IfOk-weaker made.result (λ (answer : Answer). (place : ℕ) → Adds (to_z w64 (of_z w64 c.in-Once.delta)) place answer)
    (λ (answer : Answer). turn_on_both operations.Once worker moment c.args.object.now c.args.target.now ≡ ((states.Once made.new.once place c.in-Once-object.delta, states.Atomic (Int64 made.new.number)), answer))
    (λ answer is.
    ap (λ (x : ObjectState). turn_on_both operations.Once worker moment x c.args.target.now) (c.in-Once.is ∙ c.in-Once-object.is)
    ∙ ap (λ (x : ObjectState). turn_on_both operations.Once worker moment (states.Once o place c.in-Once-object.delta) x) (c.in-Atomic-Int64.is ∙ ap (λ (n : Number). states.Atomic n) c.in-Atomic-Int64.field-0-is)
    ∙ subst (λ (d : ℤ). Adds d place answer) (back ∙ same) (is place))
    made.ensures.turn

pub returns-in-Atomic-Int64-clause-noted : goal.returns-in-Atomic-Int64-clause-noted
returns-in-Atomic-Int64-clause-noted c =
    let worker = c.args.taker.worker in
    let moment = c.args.taker.moment in
    let o = c.in-Once-object.once in
    let place = c.in-Once-object.atomic in
    let number = c.in-Atomic-Int64.number in
    let own = c.args.at.object in
    let other = c.args.at.target in
    let same : c.in-Once.delta ≡ c.in-Once-object.delta = let both = c.in-Once-object.is in cc in
    let back : to_z w64 (of_z w64 c.in-Once.delta) ≡ c.in-Once.delta = search rules in
    on_ok_weaker c.take_adding_turn.result
    (λ more.
    subst
    (λ (d : ℤ). c.take_adding_turn.new.notes
    ≡ noted (add_items worker other d (Int64 number) (once_made worker moment (int_wrapping_add w64 number d) o).1 ++ once_items events.Once answered.Once worker moment own (int_wrapping_add w64 number d) o) c.args.notes.now)
    (back ∙ same) more
    ∙ ap (λ (x : ObjectState). noted (items_on_both operations.Once worker moment own other (states.Once o place c.in-Once-object.delta) x) c.args.notes.now)
    (sym (c.in-Atomic-Int64.is ∙ ap (λ (n : Number). states.Atomic n) c.in-Atomic-Int64.field-0-is))
    ∙ ap (λ (x : ObjectState). noted (items_on_both operations.Once worker moment own other x c.args.target.now) c.args.notes.now) (sym (c.in-Once.is ∙ c.in-Once-object.is)))
    c.take_adding_turn.ensures.noted
