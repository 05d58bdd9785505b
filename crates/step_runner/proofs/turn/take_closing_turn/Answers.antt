use Rattle.std.proofs.Common.{◌≡◌, ℕ, List, Some, get_or, [], sym, ap, subst, ◌∙◌}
use Rattle.std.specs.Vec.{with_items}
use Rattle.std.proofs.lemmas.List.{set-get_or, with_items_is}
use Rattle.step_runner.specs.declared.trace.TraceItem.{TraceItem}
use Rattle.step_runner.specs.declared.turns.item.Item.{Item}
use Rattle.step_runner.specs.declared.turns.object_state.ObjectState.{ObjectState}
use Rattle.step_runner.specs.Items.{items_at}
use Rattle.step_runner.specs.Noted.{noted, begun_as}
use Rattle.step_runner.specs.Traces.{closing_turn, told_by, traced_by}
use Rattle.step_runner.specs.Ready.{IsReady}
use Rattle.step_runner.specs.TurnAtObjects.{turn_at}
use Rattle.step_runner.specs.TurnWithin.{done_on, turn_within}
use Rattle.step_runner.specs.declared.step.Step.{Step}
use Rattle.step_runner.specs.declared.state.Stand.TheVariants.{Gone}
use Rattle.step_runner.specs.Places.{Kept, IsKeptFor}
use Rattle.step_runner.specs.State.{State, with_stand, IsStateOf}
use Rattle.step_runner.specs.Turns.{begun_by, next_call, settled_by, turn_of}
use Rattle.step_runner.proofs.NextCalls.{IsClosing, closing_is}
use Rattle.step_runner.proofs.NotedLemmas.{told_so}
use Rattle.step_runner.proofs.TraceLaws.{closing_traced}
use Rattle.step_runner.proofs.PlaceLemmas.{closing_next, kept_closed}
use Rattle.step_runner.proofs.TurnLemmas.{moved, ready, settled_closing, turn_before}
use Rattle.step_runner.proofs.turn.take_closing_turn.Goals as goal
use Rattle.step_runner.proofs.turn.take_closing_turn.Goals.{After-close}

pub take_done_turn-requires : goal.take_done_turn-requires
take_done_turn-requires c =
    let next = closing_next c.args.workload.now c.args.worker c.in-Some.group c.args.state.now c.requires.of c.requires.live c.requires.behind (sym c.group.ensures ∙ c.in-Some.is) in
    let objects : c.deref_mut.result.now ≡ c.args.state.now.state.objects = c.deref_mut.ensures.value ∙ ap (λ (kept : Kept). kept.state.objects) c.state.view_is in
    record {
      ready = subst (λ (workers : ℕ). IsReady workers c.args.worker (done_on c.in-Some.group) c.deref_mut.result.now) (sym c.workers.ensures.workers)
          (subst (λ (list : List ObjectState). IsReady c.args.workload.now.workers c.args.worker (done_on c.in-Some.group) list) (sym objects)
          (ready c.args.workload.now c.args.worker c.args.state.now.state (done_on c.in-Some.group) c.requires.of.of next));
    }

-- what its fields say that is kept
abbrev seen : After-close → Kept
seen c = record {
  state = record { moment = c.state.inside.moment; objects = c.state.inside.objects.items; replies = c.state.inside.replies; begun = c.state.inside.begun.items; stands = c.state.inside.stands.items };
  places = c.state.inside.places.items;
  groups = c.state.inside.groups.items;
}

-- the objects that the turn leaves, where they stand
abbrev left : After-close → List ObjectState
left c = (with_items c.state.inside.objects c.take_done_turn.new.objects).items

abbrev begun : After-close → ℕ
begun c = begun_by c.args.worker (seen c).state

abbrev behind : After-close → State
behind c = moved c.args.worker (left c) (begun c) (seen c).state

next_is : (c : After-close) → next_call c.args.workload.now c.args.worker (seen c).state ≡ Some (done_on c.in-Some.group)
next_is c =
    ap (λ (kept : Kept). next_call c.args.workload.now c.args.worker kept.state) c.state.view_is
    ∙ closing_next c.args.workload.now c.args.worker c.in-Some.group c.args.state.now c.requires.of c.requires.live c.requires.behind (sym c.group.ensures ∙ c.in-Some.is)

closes : (c : After-close) → IsClosing c.args.workload.now c.args.worker (get_or (seen c).state.replies c.args.worker []) (done_on c.in-Some.group)
closes c =
    subst (λ (kept : Kept). IsClosing c.args.workload.now c.args.worker (get_or kept.state.replies c.args.worker []) (done_on c.in-Some.group)) (sym c.state.view_is)
    (closing_is c.args.workload.now c.args.worker c.args.state.now.state (done_on c.in-Some.group)
    (closing_next c.args.workload.now c.args.worker c.in-Some.group c.args.state.now c.requires.of c.requires.live c.requires.behind (sym c.group.ensures ∙ c.in-Some.is)) c.requires.behind)

turn : (c : After-close) → turn_within (done_on c.in-Some.group) c.args.worker (seen c).state.moment (begun c) (seen c).state.objects ≡ ((left c, begun c), c.in_ok-answer-in-Some.answer)
turn c =
    let answer = c.in_ok-answer-in-Some.answer in
    let same : left c ≡ c.take_done_turn.new.objects = with_items_is c.state.inside.objects c.take_done_turn.new.objects (c.take_done_turn.auto.objects ∙ c.deref_mut.ensures.len) in
    let at : turn_at (done_on c.in-Some.group) c.args.worker c.state.inside.moment c.state.inside.objects.items ≡ (left c, answer) =
    ap (turn_at (done_on c.in-Some.group) c.args.worker c.state.inside.moment) (sym c.deref_mut.ensures.value) ∙ c.in_ok-answer-in-Some.ensures.turn ∙ ap (λ (objects : List ObjectState). (objects, answer)) (sym same) in
    λ i. (((at i).0, begun c), (at i).1)

whole : (c : After-close) → turn_of c.args.workload.now c.args.worker c.args.state.now.state ≡ settled_by (λ reply. with_stand c.args.worker Gone) c.in_ok-answer-in-Some.answer (behind c)
whole c =
    ap (λ (kept : Kept). turn_of c.args.workload.now c.args.worker kept.state) (sym c.state.view_is)
    ∙ turn_before c.args.workload.now c.args.worker (seen c).state (done_on c.in-Some.group) (left c) (begun c) c.in_ok-answer-in-Some.answer (next_is c) (turn c)
    ∙ settled_closing c.args.workload.now c.args.worker (behind c) (done_on c.in-Some.group) c.in_ok-answer-in-Some.answer (closes c)

-- what is noted of the turn
pub returns-in_ok-note_closing_turn-in-Some-clause-noted : goal.returns-in_ok-note_closing_turn-in-Some-clause-noted
returns-in_ok-note_closing_turn-in-Some-clause-noted c =
    let plan = c.args.workload.now in
    let worker = c.args.worker in
    let call = done_on c.in-Some.group in
    let answer = c.in_ok-answer-in-Some.answer in
    let made : List Item = items_at call worker c.state.inside.moment c.state.inside.objects.items in
    let apart : c.take_done_turn.new.notes ≡ noted made (begun_as c.args.trace.now) =
    c.in_ok-answer-in-Some.ensures.noted ∙ (λ i. noted (items_at call worker c.state.inside.moment (c.deref_mut.ensures.value i)) (c.apart-made.ensures i)) in
    told_so (λ done. told_by (λ more reply. closing_turn worker more) done answer) made c.take_done_turn.new.notes c.args.trace.now c.note_closing_turn.new.trace apart c.in_ok-note_closing_turn-in-Some.ensures
    ∙ ap (λ (more : List TraceItem). noted more c.args.trace.now)
    (sym (closing_traced plan worker (seen c).state call (left c) (begun c) answer (next_is c) (turn c) (closes c))
    ∙ ap (λ (kept : Kept). traced_by plan worker kept.state) c.state.view_is)

-- no wait was begun
settles : (c : After-close) → settled_by (λ reply. with_stand c.args.worker Gone) c.in_ok-answer-in-Some.answer (behind c) ≡ (c.close.new.self.state, c.close.result)
settles c =
    let s = (seen c).state in
    ap (λ (list : List ℕ). settled_by (λ reply. with_stand c.args.worker Gone) c.in_ok-answer-in-Some.answer (record s { objects = left c; begun = list })) (set-get_or s.begun c.args.worker 0) ∙ c.close.ensures.state

pub returns-in_ok-note_closing_turn-in-Some-clause-turn : goal.returns-in_ok-note_closing_turn-in-Some-clause-turn
returns-in_ok-note_closing_turn-in-Some-clause-turn c = whole c ∙ settles c

pub returns-in_ok-note_closing_turn-in-Some-clause-of : goal.returns-in_ok-note_closing_turn-in-Some-clause-of
returns-in_ok-note_closing_turn-in-Some-clause-of c =
    let plan = c.args.workload.now in
    let is : IsKeptFor plan (seen c) = subst (IsKeptFor plan) (sym c.state.view_is) c.requires.of in
    kept_closed plan c.args.worker (seen c) (left c) (begun c) c.in_ok-answer-in-Some.answer c.close.new.self.state c.close.result c.close.new.self.places c.close.new.self.groups is (settles c) c.close.ensures.places c.close.ensures.groups
    (subst (λ (x : State × Step). IsStateOf plan x.0) (whole c ∙ settles c) (c.validity.ensures.goes_on plan c.args.worker c.args.state.now.state c.requires.of.of))
