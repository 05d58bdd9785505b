-- Each object of a run comes by the run's own items on it to what it is.
use Rattle.std.proofs.Common.{◌≡◌, ℕ, zero, suc, ◌+◌, List, [], ◌∷◌, ◌++◌, Option, Some, None, refl, sym, ap, ◌∙◌, subst, arith}
use Rattle.std.specs.Prelude.{slice_get, ◌==◌}
use Rattle.std.specs.Option.{option_map, option_map_or}
use Rattle.std.proofs.lemmas.List.Elements.{filter-append}
use Rattle.script_calls.specs.declared.call.Call.{Call}
use Rattle.script_calls.specs.declared.outcome.Report.{Report}
use Rattle.workload.specs.declared.object.ObjectLine.{ObjectLine}
use Rattle.workload.specs.declared.turn.Turn.{Turn}
use Rattle.workload.specs.declared.turn.Turn.TheVariants as items
use Rattle.workload.specs.Plan.{Plan}
use Rattle.workload.specs.Puts.{puts_at}
use Rattle.workload.specs.Keys.{keys_in}
use Rattle.step_runner.specs.declared.turns.answer.Answer.{Answer}
use Rattle.step_runner.specs.declared.turns.answer.Answer.TheVariants as answers
use Rattle.step_runner.specs.declared.turns.object_state.ObjectState.{ObjectState}
use Rattle.step_runner.specs.LeadsTo.{on_object, LeadsTo}
use Rattle.step_runner.specs.declared.turns.item.Item.{Item}
use Rattle.step_runner.specs.Objects.{new_object, kind_of}
use Rattle.step_runner.specs.StandsWithin.{IsReadyWithin}
use Rattle.step_runner.specs.TurnWithin.{turn_within, items_within}
use Rattle.step_runner.specs.declared.step.Step.{Step}
use Rattle.step_runner.specs.declared.step.Step.TheVariants as steps
use Rattle.step_runner.specs.Ends.{scheduled_ends}
use Rattle.step_runner.specs.Outcomes.{rounds, IsDone}
use Rattle.step_runner.specs.RunItems.{made_by, unless_ended, all_made, LeadTo}
use Rattle.step_runner.specs.State.{State, start, new_objects, with_moment, IsStateOf}
use Rattle.step_runner.specs.Turns.{begun_by, turn_of, and_then, items_of, after_items}
use Rattle.step_runner.proofs.MadeLemmas.{event_state}
use Rattle.step_runner.proofs.RunLemmas.{GoesOn, moment_valid}
use Rattle.step_runner.proofs.TurnLemmas.{Takes, takes_by, turn_cases, kind_there}

-- what the law of turns says
pub record Leads : Type 0 where
  pub turn : (workers worker moment place begun : ℕ) (call : Call) (objects : List ObjectState) (old new : ObjectState) → IsReadyWithin workers worker call objects → slice_get objects place ≡ Some old
      → slice_get (turn_within call worker moment begun objects).0.0 place ≡ Some new → LeadsTo old (on_object place (items_within call worker moment begun objects)) new
  pub nowhere : (object : ObjectState) → LeadsTo object [] object
  pub on : (first middle last : ObjectState) (earlier later : List Item) → LeadsTo first earlier middle → LeadsTo middle later last → LeadsTo first (earlier ++ later) last

module _ (laws : Leads) (plan : Plan) (k : ℕ) where
  -- from what the object is to what it is behind, if it is there
  abbrev Comes : State → List Item → State → Type 0
  Comes s made t = (old new : ObjectState) → slice_get s.objects k ≡ Some old → slice_get t.objects k ≡ Some new → LeadsTo old (on_object k made) new

  stays : (s : State) → Comes s [] s
  stays s old new at there = let same : old ≡ new = one (sym at ∙ there) in subst (λ (o : ObjectState). LeadsTo old [] o) same (laws.nowhere old)
    where
      one : {a b : ObjectState} → Some a ≡ Some b → a ≡ b
      one e = cc

  -- an object that was there is there behind the turn
  still_there : (s t : State) (old : ObjectState) → IsStateOf plan s → IsStateOf plan t → slice_get s.objects k ≡ Some old → (middle : ObjectState) × (slice_get t.objects k ≡ Some middle)
  still_there s t old of later at = by_option (slice_get t.objects k) refl
    where
      kinds : option_map kind_of (slice_get t.objects k) ≡ Some (kind_of old)
      kinds = kind_there plan t k later ∙ (sym (kind_there plan s k of) ∙ ap (option_map kind_of) at)

      by_option : (o : Option ObjectState) → slice_get t.objects k ≡ o → (middle : ObjectState) × (slice_get t.objects k ≡ Some middle)
      by_option None none = let no : None ≡ Some (kind_of old) = sym (ap (option_map kind_of) none) ∙ kinds in cc
      by_option (Some middle) is = (middle, is)

  joined : (s t u : State) (earlier later : List Item) → IsStateOf plan s → IsStateOf plan t → Comes s earlier t → Comes t later u → Comes s (earlier ++ later) u
  joined s t u earlier later of goes first second old new at there =
      let middle = still_there s t old of goes at in
      subst (λ (made : List Item). LeadsTo old made new) (sym (filter-append (λ item. item.object == k) earlier later))
      (laws.on old middle.0 new (on_object k earlier) (on_object k later) (first old middle.0 at middle.1) (second middle.0 new middle.1 there))

  -- one turn
  turn_comes : (worker : ℕ) (s : State) → IsStateOf plan s → Comes s (made_by plan worker s) (turn_of plan worker s).0
  turn_comes worker s of = turn_cases (λ x. Comes s (made_by plan worker s) x.0) plan worker s of (record {
    ended = λ none. subst (λ (o : Option Call). Comes s (option_map_or (λ call. items_within call worker s.moment (begun_by worker s) s.objects) o []) s) (sym none) (stays s);
    still = λ call objects waits takes. at_objects call objects waits answers.Still takes;
    unfinished = λ call objects waits takes. at_objects call objects waits answers.Unfinished takes;
    completed = λ call objects waits reply takes is. at_objects call objects waits (answers.Completed reply) takes;
    closed = λ call objects waits reply takes is. at_objects call objects waits (answers.Completed reply) takes;
    misused = λ call objects waits misuse takes. at_objects call objects waits (answers.Misused misuse) takes;
  })
    where
      at_objects : (call : Call) (objects : List ObjectState) (waits : ℕ) (answer : Answer) → Takes plan worker s call objects waits answer → (old new : ObjectState) → slice_get s.objects k ≡ Some old → slice_get objects k ≡ Some new
          → LeadsTo old (on_object k (made_by plan worker s)) new
      at_objects call objects waits answer takes old new at there =
          subst (λ (o : Option Call). LeadsTo old (on_object k (option_map_or (λ call. items_within call worker s.moment (begun_by worker s) s.objects) o [])) new) (sym takes.next)
          (takes_by (λ y. slice_get y.0.0 k ≡ Some new → LeadsTo old (on_object k (items_within call worker s.moment (begun_by worker s) s.objects)) new) plan worker s call objects waits answer of takes
          (λ r there. laws.turn plan.workers worker s.moment k (begun_by worker s) call s.objects old new r at there) there)

  -- what follows, unless the turn was a misuse
  later_comes : (rest : List Turn) (x : State × Step) → ((t : State) → IsStateOf plan t → Comes t (all_made plan rest t) (after_items plan rest t)) → IsStateOf plan x.0 → Comes x.0 (unless_ended x (all_made plan rest)) (and_then x (items_of plan rest)).0
  later_comes rest (t, steps.Still) later of = later t of
  later_comes rest (t, steps.Made) later of = subst (λ (u : State). Comes t (all_made plan rest t) u) (sym (event_state (items_of plan rest t))) (later t of)
  later_comes rest (t, steps.Misused misuse) later of = stays t

  pub items_come : GoesOn plan → (list : List Turn) (s : State) → IsStateOf plan s → Comes s (all_made plan list s) (after_items plan list s)
  items_come goes [] s of = stays s
  items_come goes (items.Worker worker ∷ rest) s of =
      let x = turn_of plan worker s in
      joined s x.0 (and_then x (items_of plan rest)).0 (made_by plan worker s) (unless_ended x (all_made plan rest)) of (goes worker s of) (turn_comes worker s of)
      (later_comes rest x (items_come goes rest) (goes worker s of))
  items_come goes (items.Moment moment ∷ rest) s of = items_come goes rest (with_moment moment s) (moment_valid plan moment s of)

-- an object begins as its line says
new_there : (plan : Plan) (first k : ℕ) (lines : List ObjectLine) (line : ObjectLine) → slice_get lines k ≡ Some line → slice_get (new_objects plan first lines) k ≡ Some (new_object plan.workers (puts_at (first + k) plan.scripts) (keys_in plan.scripts) line.kind)
new_there plan first k [] line at = absurd cc
new_there plan first zero (here ∷ lines) line at =
    let same : here ≡ line = cc in
    let place : first ≡ first + 0 = omega arith in
    ap (λ (l : ObjectLine). Some (new_object plan.workers (puts_at first plan.scripts) (keys_in plan.scripts) l.kind)) same ∙ ap (λ (n : ℕ). Some (new_object plan.workers (puts_at n plan.scripts) (keys_in plan.scripts) line.kind)) place
new_there plan first (suc k) (here ∷ lines) line at =
    let place : first + 1 + k ≡ first + suc k = omega arith in
    new_there plan (first + 1) k lines line at ∙ ap (λ (n : ℕ). Some (new_object plan.workers (puts_at n plan.scripts) (keys_in plan.scripts) line.kind)) place

-- at every moment
pub run_leads : Leads → (plan : Plan) → GoesOn plan → IsStateOf plan (start plan) → (list : List Turn) → LeadTo plan (all_made plan list (start plan)) (after_items plan list (start plan)).objects
run_leads laws plan goes of list place line object at there =
    let same : 0 + place ≡ place = omega arith in
    let begun : slice_get (start plan).objects place ≡ Some (new_object plan.workers (puts_at place plan.scripts) (keys_in plan.scripts) line.kind) =
    new_there plan 0 place plan.objects line at ∙ ap (λ (n : ℕ). Some (new_object plan.workers (puts_at n plan.scripts) (keys_in plan.scripts) line.kind)) same in
    items_come laws plan place goes list (start plan) of (new_object plan.workers (puts_at place plan.scripts) (keys_in plan.scripts) line.kind) object begun there

-- at the end of a run that is done
pub ends_lead : Leads → (plan : Plan) → GoesOn plan → IsStateOf plan (start plan) → (report : Report) → IsDone plan report
    → (count : ℕ) × (objects : List ObjectState) × LeadTo plan (all_made plan (plan.schedule ++ rounds count plan.workers) (start plan)) objects × (report.ends ≡ scheduled_ends plan objects)
ends_lead laws plan goes of report done =
    let turns = plan.schedule ++ rounds done.reached.count plan.workers in (
      done.reached.count,
      done.state.objects,
      subst (λ (x : State × Step). LeadTo plan (all_made plan turns (start plan)) x.0.objects) done.reached.is (run_leads laws plan goes of turns),
      ap (λ (r : Report). r.ends) done.leaves,
    )
