use Rattle.std.proofs.Common.{◌≡◌, ℕ, ◌<◌, List, Some, drop, length, get_or, [], sym, ap, subst, ◌∙◌, arith}
use Rattle.std.specs.Vec.{with_items}
use Rattle.std.proofs.lemmas.Grind.{get_or_default_zero}
use Rattle.std.proofs.lemmas.List.{with_items_is}
use Rattle.std.proofs.lemmas.Result.{IfOk-weaker}
use Rattle.step_runner.specs.declared.trace.TraceItem.{TraceItem}
use Rattle.step_runner.specs.declared.turns.item.Item.{Item}
use Rattle.step_runner.specs.declared.turns.object_state.ObjectState.{ObjectState}
use Rattle.step_runner.specs.StandsWithin.{IsReadyWithin}
use Rattle.step_runner.specs.TurnWithin.{turn_within, items_within}
use Rattle.step_runner.specs.declared.step.Step.{Step}
use Rattle.step_runner.specs.Places.{Kept, IsKeptFor, places_behind}
use Rattle.step_runner.specs.State.{State, IsStateOf}
use Rattle.step_runner.specs.Noted.{noted, begun_as}
use Rattle.step_runner.specs.Traces.{script_turn, told_by, traced_by}
use Rattle.step_runner.specs.Turns.{answered, begun_by, next_call, script_left, settled_by, turn_of}
use Rattle.step_runner.proofs.NextCalls.{IsOfScript, next_of_script, script_first}
use Rattle.step_runner.proofs.NotedLemmas.{told_so}
use Rattle.step_runner.proofs.TraceLaws.{script_traced}
use Rattle.step_runner.proofs.PlaceLemmas.{kept_behind}
use Rattle.step_runner.proofs.ScriptRuns.{GoesFurther}
use Rattle.step_runner.proofs.TurnLemmas.{moved, ready, settled_script, turn_before}
use Rattle.step_runner.proofs.turn.take_script_turn.Goals as goal

pub take_turn_within-requires-clause-ready : goal.take_turn_within-requires-clause-ready
take_turn_within-requires-clause-ready c =
    let objects : c.deref_mut.result.now ≡ c.args.state.now.state.objects = c.deref_mut.ensures.value ∙ ap (λ (kept : Kept). kept.state.objects) c.state.view_is in
    subst (λ (workers : ℕ). IsReadyWithin workers c.args.worker c.args.call.now c.deref_mut.result.now) (sym c.workers.ensures.workers)
    (subst (λ (list : List ObjectState). IsReadyWithin c.args.workload.now.workers c.args.worker c.args.call.now list) (sym objects)
    (ready c.args.workload.now c.args.worker c.args.state.now.state c.args.call.now c.requires.of.of (next_of_script c.args.workload.now c.args.worker c.args.state.now.state c.args.call.now c.requires.live c.requires.next)))

-- what its fields say that is kept
abbrev seen : goal.After-settle → Kept
seen c = record {
  state = record { moment = c.state.inside.moment; objects = c.state.inside.objects.items; replies = c.state.inside.replies; begun = c.state.inside.begun.items; stands = c.state.inside.stands.items };
  places = c.state.inside.places.items;
  groups = c.state.inside.groups.items;
}

-- the objects that the turn leaves, where they stand
abbrev left : goal.After-settle → List ObjectState
left c = (with_items c.state.inside.objects c.take_turn_within.new.objects).items

next_is : (c : goal.After-settle) → next_call c.args.workload.now c.args.worker (seen c).state ≡ Some c.args.call.now
next_is c = ap (λ (kept : Kept). next_call c.args.workload.now c.args.worker kept.state) c.state.view_is ∙ next_of_script c.args.workload.now c.args.worker c.args.state.now.state c.args.call.now c.requires.live c.requires.next

of_script : (c : goal.After-settle) → IsOfScript c.args.workload.now c.args.worker (get_or (seen c).state.replies c.args.worker []) c.args.call.now
of_script c =
    subst (λ (kept : Kept). IsOfScript c.args.workload.now c.args.worker (get_or kept.state.replies c.args.worker []) c.args.call.now) (sym c.state.view_is)
    (script_first c.args.workload.now c.args.worker (get_or c.args.state.now.state.replies c.args.worker []) c.args.call.now c.requires.next)

begun_is : (c : goal.After-settle) → begun_by c.args.worker (seen c).state ≡ c.index-begun.result.now
begun_is c =
    let count : length c.state.inside.begun.items ≡ c.args.workload.now.workers = ap (λ (kept : Kept). length kept.state.begun) c.state.view_is ∙ c.requires.of.of.waits in
    let here : c.args.worker < length c.state.inside.begun.items = omega (arith, count, c.requires.worker) in
    sym (get_or_default_zero c.state.inside.begun.items c.args.worker c.index-begun.result.now here) ∙ sym c.index-begun.ensures

same_objects : (c : goal.After-settle) → left c ≡ c.take_turn_within.new.objects
same_objects c = with_items_is c.state.inside.objects c.take_turn_within.new.objects (c.take_turn_within.auto.objects ∙ c.deref_mut.ensures.len)

turn : (c : goal.After-settle) → turn_within c.args.call.now c.args.worker (seen c).state.moment (begun_by c.args.worker (seen c).state) (seen c).state.objects ≡ ((left c, c.in_ok-begun.begun), c.in_ok-begun.answer)
turn c =
    ap (λ (n : ℕ). turn_within c.args.call.now c.args.worker c.state.inside.moment n c.state.inside.objects.items) (begun_is c)
    ∙ ap (turn_within c.args.call.now c.args.worker c.state.inside.moment c.index-begun.result.now) (sym c.deref_mut.ensures.value) ∙ c.in_ok-begun.ensures.turn
    ∙ ap (λ (objects : List ObjectState). ((objects, c.in_ok-begun.begun), c.in_ok-begun.answer)) (sym (same_objects c))

whole : (c : goal.After-settle) → turn_of c.args.workload.now c.args.worker c.args.state.now.state ≡ settled_by (answered c.args.worker c.args.call.now) c.in_ok-begun.answer (moved c.args.worker (left c) c.in_ok-begun.begun (seen c).state)
whole c =
    ap (λ (kept : Kept). turn_of c.args.workload.now c.args.worker kept.state) (sym c.state.view_is)
    ∙ turn_before c.args.workload.now c.args.worker (seen c).state c.args.call.now (left c) c.in_ok-begun.begun c.in_ok-begun.answer (next_is c) (turn c)
    ∙ settled_script c.args.workload.now c.args.worker (moved c.args.worker (left c) c.in_ok-begun.begun (seen c).state) c.args.call.now c.in_ok-begun.answer (of_script c)

-- what is noted of the turn
abbrev made : goal.After-settle → List Item
made c = items_within c.args.call.now c.args.worker (seen c).state.moment (begun_by c.args.worker (seen c).state) (seen c).state.objects

told : (c : goal.After-settle) → c.note_script_turn.new.trace ≡ noted (traced_by c.args.workload.now c.args.worker c.args.state.now.state) c.args.trace.now
told c =
    let plan = c.args.workload.now in
    let worker = c.args.worker in
    let call = c.args.call.now in
    let apart : c.take_turn_within.new.notes ≡ noted (made c) (begun_as c.args.trace.now) =
    c.in_ok-begun.ensures.noted ∙ (λ i. noted (items_within call worker c.state.inside.moment (sym (begun_is c) i) (c.deref_mut.ensures.value i)) (c.apart-made.ensures i)) in
    let at : drop c.place-place.result (get_or plan.scripts worker []) ≡ script_left plan worker (seen c).state =
    ap (λ (n : ℕ). drop n (get_or plan.scripts worker [])) c.place-place.ensures ∙ c.requires.of.left worker ∙ ap (λ (kept : Kept). script_left plan worker kept.state) (sym c.state.view_is) in
    told_so (λ done. told_by (script_turn worker call c.place-place.result) done c.in_ok-begun.answer) (made c) c.take_turn_within.new.notes c.args.trace.now c.note_script_turn.new.trace apart c.in_ok-note_script_turn.ensures
    ∙ ap (λ (more : List TraceItem). noted more c.args.trace.now)
    (sym (script_traced plan worker (seen c).state call (left c) c.in_ok-begun.begun c.in_ok-begun.answer (next_is c) (turn c) c.place-place.result (of_script c) at)
    ∙ ap (λ (kept : Kept). traced_by plan worker kept.state) c.state.view_is)

abbrev Settles : goal.After-settle → Step → Type 0
Settles c step =
    (settled_by (answered c.args.worker c.args.call.now) c.in_ok-begun.answer (moved c.args.worker (left c) c.in_ok-begun.begun (seen c).state) ≡ (c.settle.new.self.state, step))
    × (c.settle.new.self.places ≡ places_behind c.args.worker c.args.call.now c.in_ok-begun.answer (seen c).places)

pub returns-clause-turn : goal.returns-clause-turn
returns-clause-turn c =
    IfOk-weaker c.settle.result (Settles c) (λ step. turn_of c.args.workload.now c.args.worker c.args.state.now.state ≡ (c.settle.new.self.state, step)) (λ step is. whole c ∙ is.0) c.settle.ensures.settled

pub returns-clause-of : goal.returns-clause-of
returns-clause-of c =
    let plan = c.args.workload.now in
    let further : GoesFurther = record { left = c.runs_go_on.ensures.left; made = c.runs_go_on.ensures.made; few = c.runs_go_on.ensures.few } in
    let is : IsKeptFor plan (seen c) = subst (IsKeptFor plan) (sym c.state.view_is) c.requires.of in
    IfOk-weaker c.settle.result (Settles c) (λ step. IsKeptFor plan c.settle.new.self)
    (λ step settles.
    kept_behind further plan c.args.worker (seen c) is c.requires.worker c.args.call.now (of_script c) (left c) c.in_ok-begun.begun c.in_ok-begun.answer c.settle.new.self.state step c.settle.new.self.places c.settle.new.self.groups settles.0 settles.1
    c.settle.ensures.groups (subst (λ (x : State × Step). IsStateOf plan x.0) (whole c ∙ settles.0) (c.validity.ensures.goes_on plan c.args.worker c.args.state.now.state c.requires.of.of))) c.settle.ensures.settled

pub returns-clause-noted : goal.returns-clause-noted
returns-clause-noted c =
    IfOk-weaker c.settle.result (Settles c) (λ (step : Step). c.note_script_turn.new.trace ≡ noted (traced_by c.args.workload.now c.args.worker c.args.state.now.state) c.args.trace.now) (λ step settles. told c) c.settle.ensures.settled
