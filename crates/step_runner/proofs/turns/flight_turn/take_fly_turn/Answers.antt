use mir.Val.{to_z, of_z}
use Rattle.std.proofs.Common.{rules, ◌≡◌, ℕ, List, ◌++◌, sym, ap, ◌∙◌, subst}
use Rattle.std.specs.Prelude.{ℤ}
use Rattle.std.specs.Int.{w64, int_wrapping_add}
use Rattle.std.proofs.lemmas.Result.{IfOk-weaker, on_ok_weaker}
use Rattle.sync_types.specs.declared.atomic_object.Number.{Number}
use Rattle.sync_types.specs.declared.atomic_object.Number.TheVariants.{Int64}
use Rattle.script_calls.specs.declared.call.Operation.TheVariants as operations
use Rattle.workload.specs.Keys.{key_number}
use Rattle.step_runner.specs.declared.turns.answer.Answer.{Answer}
use Rattle.step_runner.specs.declared.turns.object_state.ObjectState.{ObjectState}
use Rattle.step_runner.specs.declared.turns.object_state.ObjectState.TheVariants as states
use Rattle.step_runner.specs.Items.{flight_items, landed_items, items_on_both}
use Rattle.step_runner.specs.Noted.{noted}
use Rattle.step_runner.specs.TurnAtObjects.{flight_made, flown_to, turn_on_both}
use Rattle.step_runner.proofs.turns.flight_turn.take_fly_turn.Goals as goal

pub returns-in-Atomic-Int64-clause-turn : goal.returns-in-Atomic-Int64-clause-turn
returns-in-Atomic-Int64-clause-turn c =
    let worker = c.args.taker.worker in
    let moment = c.args.taker.moment in
    let f = c.in-Flight-object.flight in
    let place = c.in-Flight-object.atomic in
    let keys = c.in-Flight-object.keys in
    let number = c.in-Atomic-Int64.number in
    let made = c.take_flying_turn in
    let same : c.in-Flight.delta ≡ c.in-Flight-object.delta = let both = c.in-Flight-object.is in cc in
    let back : to_z w64 (of_z w64 c.in-Flight.delta) ≡ c.in-Flight.delta = search rules in
    let key : c.number_at-key.result ≡ key_number keys c.args.key.now = c.number_at-key.ensures f keys place c.in-Flight-object.delta (c.in-Flight.is ∙ c.in-Flight-object.is) in
    let Adds : ℤ → ℕ → Answer → Type 0 = λ d k answer.
    flown_to keys place d (Int64 number) (int_wrapping_add w64 number d) (flight_made worker moment k (int_wrapping_add w64 number d) f) ≡ ((states.Flight made.new.flight keys place d, states.Atomic (Int64 made.new.number)), answer) in
    IfOk-weaker made.result
    (λ (answer : Answer). (keys : List (List ℕ)) (place : ℕ)
    → flown_to keys place (to_z w64 (of_z w64 c.in-Flight.delta)) (Int64 number) (int_wrapping_add w64 number (to_z w64 (of_z w64 c.in-Flight.delta))) (flight_made worker moment c.number_at-key.result (int_wrapping_add w64 number (to_z w64 (of_z w64 c.in-Flight.delta))) f)
    ≡ ((states.Flight made.new.flight keys place (to_z w64 (of_z w64 c.in-Flight.delta)), states.Atomic (Int64 made.new.number)), answer))
    (λ (answer : Answer). turn_on_both (operations.Fly c.args.key.now) worker moment c.args.object.now c.args.target.now ≡ ((states.Flight made.new.flight keys place c.in-Flight-object.delta, states.Atomic (Int64 made.new.number)), answer))
    (λ answer is.
    ap (λ (x : ObjectState). turn_on_both (operations.Fly c.args.key.now) worker moment x c.args.target.now) (c.in-Flight.is ∙ c.in-Flight-object.is)
    ∙ ap (λ (x : ObjectState). turn_on_both (operations.Fly c.args.key.now) worker moment (states.Flight f keys place c.in-Flight-object.delta) x) (c.in-Atomic-Int64.is ∙ ap (λ (n : Number). states.Atomic n) c.in-Atomic-Int64.field-0-is)
    ∙ subst (λ (k : ℕ). Adds c.in-Flight-object.delta k answer) key (subst (λ (d : ℤ). Adds d c.number_at-key.result answer) (back ∙ same) (is keys place)))
    made.ensures.turn

pub returns-in-Atomic-Int64-clause-noted : goal.returns-in-Atomic-Int64-clause-noted
returns-in-Atomic-Int64-clause-noted c =
    let worker = c.args.taker.worker in
    let moment = c.args.taker.moment in
    let f = c.in-Flight-object.flight in
    let place = c.in-Flight-object.atomic in
    let keys = c.in-Flight-object.keys in
    let number = c.in-Atomic-Int64.number in
    let own = c.args.at.object in
    let other = c.args.at.target in
    let same : c.in-Flight.delta ≡ c.in-Flight-object.delta = let both = c.in-Flight-object.is in cc in
    let back : to_z w64 (of_z w64 c.in-Flight.delta) ≡ c.in-Flight.delta = search rules in
    let key : c.number_at-key.result ≡ key_number keys c.args.key.now = c.number_at-key.ensures f keys place c.in-Flight-object.delta (c.in-Flight.is ∙ c.in-Flight-object.is) in
    let Noted : ℤ → ℕ → Type 0 = λ d k. c.take_flying_turn.new.notes
    ≡ noted (landed_items worker other d (Int64 number) (flight_made worker moment k (int_wrapping_add w64 number d) f).1 ++ flight_items worker moment own k (int_wrapping_add w64 number d) f) c.args.notes.now in
    on_ok_weaker c.take_flying_turn.result
    (λ more.
    subst (λ (k : ℕ). Noted c.in-Flight-object.delta k) key (subst (λ (d : ℤ). Noted d c.number_at-key.result) (back ∙ same) more)
    ∙ ap (λ (x : ObjectState). noted (items_on_both (operations.Fly c.args.key.now) worker moment own other (states.Flight f keys place c.in-Flight-object.delta) x) c.args.notes.now)
    (sym (c.in-Atomic-Int64.is ∙ ap (λ (n : Number). states.Atomic n) c.in-Atomic-Int64.field-0-is))
    ∙ ap (λ (x : ObjectState). noted (items_on_both (operations.Fly c.args.key.now) worker moment own other x c.args.target.now) c.args.notes.now) (sym (c.in-Flight.is ∙ c.in-Flight-object.is)))
    c.take_flying_turn.ensures.noted
