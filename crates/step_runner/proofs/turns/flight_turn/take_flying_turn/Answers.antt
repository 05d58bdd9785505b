use mir.Val.{to_z, of_z}
use Rattle.std.proofs.Common.{rules, ◌≡◌, cond, List, [], ◌++◌, Option, sym, ap, ◌∙◌}
use Rattle.std.specs.Prelude.{ℤ, Result}
use Rattle.std.specs.Int.{w64, int_wrapping_add}
use Rattle.sync_types.specs.declared.atomic_object.Number.TheVariants.{Int64}
use Rattle.flight_core.specs.FlightMachine.{FlightState, place_of, next}
use Rattle.flight_core.specs.FlightStages.{flight_event, flight_meaning}
use Rattle.flight_core.specs.declared.calls.FlightOutcome.{FlightOutcome}
use Rattle.flight_core.specs.declared.calls.FlightStage.{FlightStage}
use Rattle.flight_core.specs.declared.event.FlightPlace.{FlightPlace}
use Rattle.run_record.specs.declared.entered.ObjectEvent.TheVariants as events
use Rattle.run_record.specs.declared.entered.ObjectReply.TheVariants as answered
use Rattle.step_runner.specs.declared.turns.answer.Answer.{Answer}
use Rattle.step_runner.specs.declared.turns.item.Item.{Item}
use Rattle.step_runner.specs.declared.turns.object_state.ObjectState.TheVariants as states
use Rattle.step_runner.specs.Due.{flight_due, lands, flown}
use Rattle.step_runner.specs.Items.{stage_items}
use Rattle.step_runner.specs.Noted.{noted}
use Rattle.step_runner.specs.Stages.{make, answer_by}
use Rattle.step_runner.specs.TurnAtObjects.{flight_made, number_landed}
use Rattle.step_runner.proofs.NotedLemmas.{noted_append}
use Rattle.step_runner.proofs.OnceEnds.{Adds}
use Rattle.step_runner.proofs.FlightEnds.{number_then, items_then}
use Rattle.step_runner.proofs.turns.flight_turn.take_flying_turn.Goals as goal

abbrev sum : goal.After-flown → ℤ
sum c = int_wrapping_add w64 c.args.number.now c.args.delta

due : (c : goal.After-flown) → c.flight_due-due.result ≡ flight_due c.args.key (sum c) (place_of c.args.flight.now c.args.taker.worker)
due c = c.flight_due-due.ensures ∙ ap (λ (place : FlightPlace). flight_due c.args.key (sum c) place) c.place.ensures

made : (c : goal.After-flown) → flight_made c.args.taker.worker c.args.taker.moment c.args.key (sum c) c.args.flight.now ≡ (c.make.new.object, c.in_ok-made.made)
made c =
    ap (λ (stage : Option FlightStage). make next flight_event flight_meaning c.args.taker.worker c.args.taker.moment stage c.args.flight.now) (sym (due c)) ∙ c.in_ok-made.ensures.made

pub returns-clause-turn : goal.returns-clause-turn
returns-clause-turn c =
    let worker = c.args.taker.worker in
    let moment = c.args.taker.moment in
    let f = c.args.flight.now in
    let old = c.args.number.now in
    let delta = c.args.delta in
    let number : number_landed (flight_made worker moment c.args.key (sum c) f).1 (Int64 (sum c)) (Int64 old) ≡ Int64 c.add_at_landing.new.number =
    number_then worker moment c.args.key f old delta c.requires ∙ ap (λ (stage : Option FlightStage). Int64 (cond (lands stage) (sum c) old)) (sym (due c)) ∙ ap (λ (n : ℤ). Int64 n) (sym c.in_ok-add_at_landing.ensures.number) in
    let answer = ap (λ (step : FlightState × Result FlightOutcome Answer). answer_by (flown (sum c)) step.1) (made c) ∙ sym c.flown.ensures in
    λ keys place i. ((states.Flight (made c i).0 keys place delta, states.Atomic (number i)), answer i)

pub returns-clause-noted : goal.returns-clause-noted
returns-clause-noted c =
    let worker = c.args.taker.worker in
    let moment = c.args.taker.moment in
    let f = c.args.flight.now in
    let old = c.args.number.now in
    let delta = c.args.delta in
    let adds = Adds worker c.args.at.target delta (sum c) in
    let Made : Option FlightStage → List Item = λ stage. stage_items events.Flight answered.Flight next flight_event worker moment c.args.at.object stage f in
    let back : to_z w64 (of_z w64 delta) ≡ delta = search rules in
    let first : c.add_at_landing.new.notes ≡ noted (cond (lands c.flight_due-due.result) adds []) c.args.notes.now =
    c.in_ok-add_at_landing.ensures.noted ∙ ap (λ (d : ℤ). noted (cond (lands c.flight_due-due.result) (Adds worker c.args.at.target d (sum c)) []) c.args.notes.now) back in
    c.in_ok-made.ensures.noted ∙ ap (noted (Made c.flight_due-due.result)) first
    ∙ noted_append (cond (lands c.flight_due-due.result) adds []) (Made c.flight_due-due.result) c.args.notes.now
    ∙ ap (λ (stage : Option FlightStage). noted (cond (lands stage) adds [] ++ Made stage) c.args.notes.now) (due c)
    ∙ ap (λ (first : List Item). noted (first ++ Made (flight_due c.args.key (sum c) (place_of f worker))) c.args.notes.now) (sym (items_then worker moment c.args.key f old delta c.requires c.args.at.target))
