use mir.Val.{to_z, of_z}
use Rattle.std.proofs.Common.{rules, ◌≡◌, Bool, cond, List, [], ◌++◌, Option, sym, ap, ◌∙◌}
use Rattle.std.specs.Prelude.{ℤ, Result}
use Rattle.std.specs.Int.{w64, int_wrapping_add}
use Rattle.sync_types.specs.declared.atomic_object.Number.TheVariants.{Int64}
use Rattle.script_calls.specs.declared.call.Reply.TheVariants as replies
use Rattle.sync_types.specs.declared.once_call.DoReply.TheVariants as do_replies
use Rattle.wait_cores.specs.OnceMachine.{OnceState, place_of, next}
use Rattle.wait_cores.specs.OnceStanding.{runs_at}
use Rattle.wait_cores.specs.declared.once.OncePlace.{OncePlace}
use Rattle.protocols.specs.OnceStages.{once_event, once_meaning}
use Rattle.protocols.specs.declared.once.OnceOutcome.{OnceOutcome}
use Rattle.protocols.specs.declared.once.OnceStage.{OnceStage}
use Rattle.run_record.specs.declared.entered.ObjectEvent.TheVariants as events
use Rattle.run_record.specs.declared.entered.ObjectReply.TheVariants as answered
use Rattle.step_runner.specs.declared.turns.answer.Answer.{Answer}
use Rattle.step_runner.specs.declared.turns.item.Item.{Item}
use Rattle.step_runner.specs.declared.turns.object_state.ObjectState.TheVariants as states
use Rattle.step_runner.specs.Due.{once_due, ends_function, ran_or}
use Rattle.step_runner.specs.Items.{stage_items}
use Rattle.step_runner.specs.Noted.{noted}
use Rattle.step_runner.specs.Stages.{make, answer_by}
use Rattle.step_runner.specs.TurnAtObjects.{once_made, number_after}
use Rattle.step_runner.proofs.NotedLemmas.{noted_append}
use Rattle.step_runner.proofs.OnceEnds.{Adds, number_then, items_then}
use Rattle.step_runner.proofs.turns.once_turn.take_adding_turn.Goals as goal

abbrev sum : goal.After-did → ℤ
sum c = int_wrapping_add w64 c.args.number.now c.args.delta

due : (c : goal.After-did) → c.once_due-due.result ≡ once_due (sum c) (runs_at c.args.once.now c.args.taker.worker) (place_of c.args.once.now c.args.taker.worker)
due c =
    c.once_due-due.ensures ∙ ap (λ (runs : Bool). once_due (sum c) runs c.place.result) c.runs.ensures
    ∙ ap (λ (place : OncePlace). once_due (sum c) (runs_at c.args.once.now c.args.taker.worker) place) c.place.ensures

made : (c : goal.After-did) → once_made c.args.taker.worker c.args.taker.moment (sum c) c.args.once.now ≡ (c.make.new.object, c.in_ok-made.made)
made c =
    ap (λ (stage : Option (OnceStage ℤ)). make next once_event once_meaning c.args.taker.worker c.args.taker.moment stage c.args.once.now) (sym (due c)) ∙ c.in_ok-made.ensures.made

pub returns-clause-turn : goal.returns-clause-turn
returns-clause-turn c =
    let worker = c.args.taker.worker in
    let moment = c.args.taker.moment in
    let o = c.args.once.now in
    let old = c.args.number.now in
    let delta = c.args.delta in
    let number : number_after (once_made worker moment (sum c) o).1 (Int64 (sum c)) (Int64 old) ≡ Int64 c.add_at_end.new.number =
    number_then worker moment o old delta c.requires ∙ ap (λ (stage : Option (OnceStage ℤ)). Int64 (cond (ends_function stage) (sum c) old)) (sym (due c)) ∙ ap (λ (n : ℤ). Int64 n) (sym c.in_ok-add_at_end.ensures.number) in
    let answer = ap (λ (step : OnceState ℤ × Result (OnceOutcome ℤ) Answer). answer_by (ran_or (replies.Once (do_replies.Ran (sum c))) (λ kept. replies.Once do_replies.Done)) step.1) (made c) ∙ sym c.did.ensures in
    λ place i. ((states.Once (made c i).0 place delta, states.Atomic (number i)), answer i)

pub returns-clause-noted : goal.returns-clause-noted
returns-clause-noted c =
    let worker = c.args.taker.worker in
    let moment = c.args.taker.moment in
    let o = c.args.once.now in
    let old = c.args.number.now in
    let delta = c.args.delta in
    let adds = Adds worker c.args.at.target delta (sum c) in
    let Made : Option (OnceStage ℤ) → List Item = λ stage. stage_items events.Once answered.Once next once_event worker moment c.args.at.object stage o in
    let back : to_z w64 (of_z w64 delta) ≡ delta = search rules in
    let first : c.add_at_end.new.notes ≡ noted (cond (ends_function c.once_due-due.result) adds []) c.args.notes.now =
    c.in_ok-add_at_end.ensures.noted ∙ ap (λ (d : ℤ). noted (cond (ends_function c.once_due-due.result) (Adds worker c.args.at.target d (sum c)) []) c.args.notes.now) back in
    c.in_ok-made.ensures.noted ∙ ap (noted (Made c.once_due-due.result)) first
    ∙ noted_append (cond (ends_function c.once_due-due.result) adds []) (Made c.once_due-due.result) c.args.notes.now
    ∙ ap (λ (stage : Option (OnceStage ℤ)). noted (cond (ends_function stage) adds [] ++ Made stage) c.args.notes.now) (due c)
    ∙ ap (λ (first : List Item). noted (first ++ Made (once_due (sum c) (runs_at o worker) (place_of o worker))) c.args.notes.now) (sym (items_then worker moment o old delta c.requires c.args.at.target))
