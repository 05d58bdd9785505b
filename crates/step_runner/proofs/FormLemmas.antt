-- Each reply of a run has the form of its call's replies, and each worker stands at the mutex at which its call waits, and at no other.
use Rattle.std.proofs.Common.{◌≡◌, ◌≢◌, ℕ, zero, suc, ◌≤◌, inl, inr, true, false, eqb, ◌&&◌, List, [], ◌∷◌, ◌++◌, map, drop, length, get_or, set, replicate, Option, Some, None, refl, sym, ap, ◌∙◌, subst, arith}
use Rattle.std.specs.Prelude.{slice_get}
use Rattle.std.specs.Option.{option_map_or}
use Rattle.std.proofs.lemmas.Bool.{eqb-true, eqb-false}
use Rattle.script_calls.specs.Outcome.{with_keys_renamed}
use Rattle.script_calls.specs.Replies.{is_reply_to}
use Rattle.script_calls.specs.Runs.{passed_over, left_of, made_of}
use Rattle.script_calls.specs.declared.call.Call.{Call}
use Rattle.script_calls.specs.declared.call.Operation.{Operation}
use Rattle.script_calls.specs.declared.call.Reply.{Reply}
use Rattle.script_calls.specs.declared.outcome.Ending.{Ending}
use Rattle.script_calls.specs.declared.outcome.Ending.TheVariants as endings
use Rattle.workload.specs.Keys.{keys_in, key_number}
use Rattle.workload.specs.Plan.{Plan}
use Rattle.workload.specs.Puts.{puts_at}
use Rattle.workload.specs.declared.object.ObjectKind.{ObjectKind}
use Rattle.workload.specs.declared.object.ObjectLine.{ObjectLine}
use Rattle.workload.specs.declared.turn.Turn.{Turn}
use Rattle.step_runner.specs.declared.turns.answer.Answer.{Answer}
use Rattle.step_runner.specs.declared.turns.answer.Answer.TheVariants as answers
use Rattle.step_runner.specs.declared.turns.object_state.ObjectState.{ObjectState}
use Rattle.step_runner.specs.Objects.{new_object, kind_of}
use Rattle.step_runner.specs.ReplyForm.{HasForm}
use Rattle.step_runner.specs.Stands.{IsOutAt, IsOutBut, waits_behind}
use Rattle.step_runner.specs.StandsWithin.{IsReadyWithin, waits_within}
use Rattle.step_runner.specs.TurnWithin.{turn_within}
use Rattle.step_runner.specs.Computed.{whole_run, outcome_of, turns}
use Rattle.workload.specs.Forms.{have_forms, all_have_forms, has_forms}
use Rattle.step_runner.specs.declared.state.Stand.TheVariants.{Waits, Gone}
use Rattle.step_runner.specs.State.{State, start, stand_of, with_reply, with_stand, IsStateOf}
use Rattle.step_runner.specs.Turns.{answered, begun_by, next_call, turn_of, after_items}
use Rattle.step_runner.proofs.NextCalls.{waiting_next}
use Rattle.step_runner.proofs.Numbered.{NamesAside}
use Rattle.step_runner.proofs.StartLemmas.{each_start}
use Rattle.step_runner.proofs.TurnLemmas.{both, both_true, Takes, takes_by, turn_cases, moved, begun_own, begun_other, next_gone, next_other, replied_begun_other, valid_scripts}
use Rattle.step_runner.proofs.RunLemmas.{GoesOn, moment_valid, Kept, items_keep, run_keeps}
use Rattle.step_runner.proofs.WithinKeeps.{out_anywhere}

-- what the law of turns says
pub record TurnStands : Type 0 where
  pub begins : (worker workers room : ℕ) (keys : List (List ℕ)) (kind : ObjectKind) → IsOutAt worker (new_object workers room keys kind)
  pub forms : (workers worker moment begun : ℕ) (call : Call) (objects : List ObjectState) → IsReadyWithin workers worker call objects → IsOutBut (waits_within (map kind_of objects) call begun) worker objects
      → HasForm call.operation (turn_within call worker moment begun objects).1
  pub own : (workers worker moment begun : ℕ) (call : Call) (objects : List ObjectState) → IsReadyWithin workers worker call objects → IsOutBut (waits_within (map kind_of objects) call begun) worker objects
      → IsOutBut (waits_behind (turn_within call worker moment begun objects).1 (waits_within (map kind_of objects) call (turn_within call worker moment begun objects).0.1)) worker (turn_within call worker moment begun objects).0.0
  pub others : (workers worker other moment begun : ℕ) (call : Call) (but : Option ℕ) (objects : List ObjectState) → IsReadyWithin workers other call objects → worker ≢ other → IsOutBut but worker objects
      → IsOutBut but worker (turn_within call other moment begun objects).0.0

-- ---- replies in a list

forms_push : (script : List Call) (given : List (Reply (List ℕ))) (call : Call) (reply : Reply (List ℕ)) → have_forms (made_of script given) given ≡ true → slice_get (left_of script given) 0 ≡ Some call
    → is_reply_to call.operation reply ≡ true → have_forms (made_of script (given ++ reply ∷ [])) (given ++ reply ∷ []) ≡ true
forms_push [] [] call reply e at form = absurd cc
forms_push [] (x ∷ given) call reply e at form = absurd cc
forms_push (first ∷ script) [] call reply e at form =
    let same : call ≡ first = cc in
    both_true (is_reply_to first.operation reply) true (subst (λ (c : Call). is_reply_to c.operation reply ≡ true) same form) refl
forms_push (first ∷ script) (x ∷ given) call reply e at form =
    let behind = drop (passed_over first x) script in
    let parts = both (is_reply_to first.operation x) (have_forms (made_of behind given) given) e in
    both_true (is_reply_to first.operation x) (have_forms (made_of behind (given ++ reply ∷ [])) (given ++ reply ∷ [])) parts.0 (forms_push behind given call reply parts.1 at form)

forms_set : (scripts : List (List Call)) (lists : List (List (Reply (List ℕ)))) (worker : ℕ) (call : Call) (reply : Reply (List ℕ)) → all_have_forms scripts lists ≡ true
    → slice_get (left_of (get_or scripts worker []) (get_or lists worker [])) 0 ≡ Some call → is_reply_to call.operation reply ≡ true → all_have_forms scripts (set lists worker (get_or lists worker [] ++ reply ∷ [])) ≡ true
forms_set [] [] worker call reply e at form = refl
forms_set (script ∷ scripts) [] worker call reply e at form = refl
forms_set [] (list ∷ lists) worker call reply e at form = absurd cc
forms_set (script ∷ scripts) (list ∷ lists) zero call reply e at form =
    let parts = both (have_forms (made_of script list) list) (all_have_forms scripts lists) e in
    both_true (have_forms (made_of script (list ++ reply ∷ [])) (list ++ reply ∷ [])) (all_have_forms scripts lists) (forms_push script list call reply parts.0 at form) parts.1
forms_set (script ∷ scripts) (list ∷ lists) (suc worker) call reply e at form =
    let parts = both (have_forms (made_of script list) list) (all_have_forms scripts lists) e in
    both_true (have_forms (made_of script list) list) (all_have_forms scripts (set lists worker (get_or lists worker [] ++ reply ∷ []))) parts.0 (forms_set scripts lists worker call reply parts.1 at form)

forms_begin : (scripts : List (List Call)) (n : ℕ) → n ≤ length scripts → all_have_forms scripts (replicate {A = List (Reply (List ℕ))} n []) ≡ true
forms_begin [] zero few = refl
forms_begin [] (suc n) few = absurd (omega (arith, few))
forms_begin (script ∷ scripts) zero few = refl
forms_begin (script ∷ scripts) (suc n) few = forms_begin scripts n (omega (arith, few))

-- other names for keys leave each reply its form
abbrev pub Renamed : Type 0
Renamed = (rename : List ℕ → ℕ) (operation : Operation) (reply : Reply (List ℕ)) → is_reply_to operation (with_keys_renamed rename reply) ≡ is_reply_to operation reply

forms_renamed : Renamed → (rename : List ℕ → ℕ) (calls : List Call) (replies : List (Reply (List ℕ))) → have_forms calls (map (with_keys_renamed rename) replies) ≡ have_forms calls replies
forms_renamed law rename [] [] = refl
forms_renamed law rename (call ∷ calls) [] = refl
forms_renamed law rename [] (reply ∷ replies) = refl
forms_renamed law rename (call ∷ calls) (reply ∷ replies) = λ i. law rename call.operation reply i && forms_renamed law rename calls replies i

all_renamed : Renamed → NamesAside → (rename : List ℕ → ℕ) (scripts : List (List Call)) (lists : List (List (Reply (List ℕ)))) → all_have_forms scripts (map (map (with_keys_renamed rename)) lists) ≡ all_have_forms scripts lists
all_renamed law names rename [] [] = refl
all_renamed law names rename (script ∷ scripts) [] = refl
all_renamed law names rename [] (list ∷ lists) = refl
all_renamed law names rename (script ∷ scripts) (list ∷ lists) =
    let renamed = map (with_keys_renamed rename) list in
    let first = ap (λ (made : List Call). have_forms made renamed) (names.made rename script list) ∙ forms_renamed law rename (made_of script list) list in
    λ i. first i && all_renamed law names rename scripts lists i

-- ---- what every state keeps

abbrev pub kinds_in : Plan → List ObjectKind
kinds_in plan = map (λ (line : ObjectLine). line.kind) plan.objects

-- the place at which a worker's call waits, if there is one
abbrev awaited : Plan → ℕ → State → Option ℕ
awaited plan worker s = option_map_or (λ call. waits_within (kinds_in plan) call (begun_by worker s)) (next_call plan worker s) None

pub record Standing (plan : Plan) (s : State) : Type 0 where
  pub of : IsStateOf plan s
  pub out : (worker : ℕ) → IsOutBut (awaited plan worker s) worker s.objects
  pub forms : all_have_forms plan.scripts s.replies ≡ true

module _ (laws : TurnStands) (plan : Plan) (by : ℕ) (s : State) (h : Standing plan s) where
  -- the worker that takes the turn, before it
  pub own_out : (call : Call) → next_call plan by s ≡ Some call → IsOutBut (waits_within (map kind_of s.objects) call (begun_by by s)) by s.objects
  own_out call next =
      subst (λ (ks : List ObjectKind). IsOutBut (waits_within ks call (begun_by by s)) by s.objects) (sym h.of.objects)
      (subst (λ (o : Option Call). IsOutBut (option_map_or (λ c. waits_within (kinds_in plan) c (begun_by by s)) o None) by s.objects) next (h.out by))

  -- and behind it
  pub own_at : (call : Call) (objects : List ObjectState) (waits : ℕ) (answer : Answer) → Takes plan by s call objects waits answer → IsOutBut (waits_behind answer (waits_within (kinds_in plan) call waits)) by objects
  own_at call objects waits answer takes =
      subst (λ (ks : List ObjectKind). IsOutBut (waits_behind answer (waits_within ks call waits)) by objects) h.of.objects
      (takes_by (λ x. IsOutBut (waits_behind x.1 (waits_within (map kind_of s.objects) call x.0.1)) by x.0.0) plan by s call objects waits answer h.of takes
      (λ r. laws.own plan.workers by s.moment (begun_by by s) call s.objects r (own_out call takes.next)))

  form_at : (call : Call) (objects : List ObjectState) (waits : ℕ) (answer : Answer) → Takes plan by s call objects waits answer → HasForm call.operation answer
  form_at call objects waits answer takes =
      takes_by (λ x. HasForm call.operation x.1) plan by s call objects waits answer h.of takes (λ r. laws.forms plan.workers by s.moment (begun_by by s) call s.objects r (own_out call takes.next))

  -- another worker, which has begun as many waits as before
  other_at : (worker : ℕ) (call : Call) (objects : List ObjectState) (waits : ℕ) (answer : Answer) → worker ≢ by → Takes plan by s call objects waits answer → IsOutBut (awaited plan worker (moved by objects waits s)) worker objects
  other_at worker call objects waits answer apart takes =
      subst (λ (n : ℕ). IsOutBut (option_map_or (λ c. waits_within (kinds_in plan) c n) (next_call plan worker s) None) worker objects) (sym (begun_other by worker waits objects s apart))
      (takes_by (λ x. IsOutBut (awaited plan worker s) worker x.0.0) plan by s call objects waits answer h.of takes
      (λ r. laws.others plan.workers worker by s.moment (begun_by by s) call (awaited plan worker s) s.objects r apart (h.out worker)))

  -- behind a turn that completes no call
  unchanged : (worker : ℕ) (call : Call) (objects : List ObjectState) (waits : ℕ) (answer : Answer) → waits_behind answer (waits_within (kinds_in plan) call waits) ≡ waits_within (kinds_in plan) call waits
      → Takes plan by s call objects waits answer → IsOutBut (awaited plan worker (moved by objects waits s)) worker objects
  unchanged worker call objects waits answer same takes = elim (eqb worker by) as (λ b. eqb worker by ≡ b → IsOutBut (awaited plan worker (moved by objects waits s)) worker objects) [
    | true ↦ λ e.
        let here : by ≡ worker = sym (eqb-true worker by e) in
        subst (λ (w : ℕ). IsOutBut (awaited plan w (moved by objects waits s)) w objects) here
        (subst (λ (n : ℕ). IsOutBut (option_map_or (λ c. waits_within (kinds_in plan) c n) (next_call plan by s) None) by objects) (sym (begun_own by waits objects s (omega (arith, takes.below, h.of.waits))))
        (subst (λ (o : Option Call). IsOutBut (option_map_or (λ c. waits_within (kinds_in plan) c waits) o None) by objects) (sym takes.next)
        (subst (λ (w : Option ℕ). IsOutBut w by objects) same (own_at call objects waits answer takes))))
    | false ↦ λ e. other_at worker call objects waits answer (eqb-false worker by e) takes
  ] refl

  -- who waits to be started is out everywhere
  pub waiting_out : (worker : ℕ) (call : Call) (objects : List ObjectState) (waits : ℕ) (answer : Answer) → worker ≢ by → Takes plan by s call objects waits answer → stand_of worker s ≡ Waits → IsOutBut None worker objects
  waiting_out worker call objects waits answer apart takes waiting =
      subst (λ (o : Option Call). IsOutBut (option_map_or (λ c. waits_within (kinds_in plan) c (begun_by worker (moved by objects waits s))) o None) worker objects) (waiting_next plan worker s waiting)
      (other_at worker call objects waits answer apart takes)

  -- behind the `done` behind its script, or another's
  closed : (worker : ℕ) (call : Call) (objects : List ObjectState) (waits : ℕ) (reply : Reply (List ℕ)) → Takes plan by s call objects waits (answers.Completed reply)
      → IsOutBut (awaited plan worker (with_stand by Gone (moved by objects waits s))) worker objects
  closed worker call objects waits reply takes =
      let t = moved by objects waits s in
      elim (eqb worker by) as (λ b. eqb worker by ≡ b → IsOutBut (awaited plan worker (with_stand by Gone (moved by objects waits s))) worker objects) [
        | true ↦ λ e.
            let here : by ≡ worker = sym (eqb-true worker by e) in
            subst (λ (w : ℕ). IsOutBut (awaited plan w (with_stand by Gone t)) w objects) here
            (out_anywhere (awaited plan by (with_stand by Gone t)) by objects (own_at call objects waits (answers.Completed reply) takes))
        | false ↦ λ e.
            let apart : worker ≢ by = eqb-false worker by e in
            subst (λ (o : Option Call). IsOutBut (option_map_or (λ c. waits_within (kinds_in plan) c (begun_by worker t)) o None) worker objects) (sym (next_gone plan by worker t apart))
            (other_at worker call objects waits (answers.Completed reply) apart takes)
      ] refl

  -- behind one that completes its call
  replied : (worker : ℕ) (call : Call) (objects : List ObjectState) (waits : ℕ) (reply : Reply (List ℕ)) → Takes plan by s call objects waits (answers.Completed reply)
      → IsOutBut (awaited plan worker (answered by call reply (moved by objects waits s))) worker objects
  replied worker call objects waits reply takes =
      let t = moved by objects waits s in
      elim (eqb worker by) as (λ b. eqb worker by ≡ b → IsOutBut (awaited plan worker (answered by call reply (moved by objects waits s))) worker objects) [
        | true ↦ λ e.
            let here : by ≡ worker = sym (eqb-true worker by e) in
            subst (λ (w : ℕ). IsOutBut (awaited plan w (answered by call reply t)) w objects) here
            (out_anywhere (awaited plan by (answered by call reply t)) by objects (own_at call objects waits (answers.Completed reply) takes))
        | false ↦ λ e.
            let apart : worker ≢ by = eqb-false worker by e in
            elim (next_other plan by worker call reply t apart) [
              | inl same ↦
                  subst (λ (o : Option Call). IsOutBut (option_map_or (λ c. waits_within (kinds_in plan) c (begun_by worker (with_reply by reply t))) o None) worker objects) (sym same)
                  (subst (λ (n : ℕ). IsOutBut (option_map_or (λ c. waits_within (kinds_in plan) c n) (next_call plan worker s) None) worker objects) (sym (replied_begun_other by worker reply t apart))
                  (other_at worker call objects waits (answers.Completed reply) apart takes))
              | inr waiting ↦ out_anywhere (awaited plan worker (answered by call reply t)) worker objects (waiting_out worker call objects waits (answers.Completed reply) apart takes waiting)
            ]
      ] refl

  pub turn_out : (worker : ℕ) → IsOutBut (awaited plan worker (turn_of plan by s).0) worker (turn_of plan by s).0.objects
  turn_out worker = turn_cases (λ step. IsOutBut (awaited plan worker step.0) worker step.0.objects) plan by s h.of (record {
    ended = λ is. h.out worker;
    still = λ call objects waits takes. unchanged worker call objects waits answers.Still refl takes;
    unfinished = λ call objects waits takes. unchanged worker call objects waits answers.Unfinished refl takes;
    completed = λ call objects waits reply takes is. replied worker call objects waits reply takes;
    closed = λ call objects waits reply takes is. closed worker call objects waits reply takes;
    misused = λ call objects waits misuse takes. unchanged worker call objects waits (answers.Misused misuse) refl takes;
  })

  pub turn_forms : all_have_forms plan.scripts (turn_of plan by s).0.replies ≡ true
  turn_forms = turn_cases (λ step. all_have_forms plan.scripts step.0.replies ≡ true) plan by s h.of (record {
    ended = λ is. h.forms;
    still = λ call objects waits takes. h.forms;
    unfinished = λ call objects waits takes. h.forms;
    completed = λ call objects waits reply takes is. forms_set plan.scripts s.replies by call reply h.forms is.first (form_at call objects waits (answers.Completed reply) takes);
    closed = λ call objects waits reply takes is. h.forms;
    misused = λ call objects waits misuse takes. h.forms;
  })

pub standing_kept : TurnStands → (plan : Plan) → GoesOn plan → Kept plan (Standing plan)
standing_kept laws plan goes_on = record {
  turn = λ worker s h. record { of = goes_on worker s h.of; out = turn_out laws plan worker s h; forms = turn_forms laws plan worker s h };
  moment = λ moment s h. record { of = moment_valid plan moment s h.of; out = h.out; forms = h.forms };
}

pub start_stands : TurnStands → (plan : Plan) → IsStateOf plan (start plan) → Standing plan (start plan)
start_stands laws plan of = record {
  of = of;
  out = λ worker. each_start (λ place object. (awaited plan worker (start plan) ≡ Some place → ⊥) → IsOutAt worker object) plan (λ place kind ne. laws.begins worker plan.workers (puts_at place plan.scripts) (keys_in plan.scripts) kind);
  forms = forms_begin plan.scripts plan.workers (omega (arith, valid_scripts plan of.valid));
}

pub items_stand : TurnStands → (plan : Plan) → GoesOn plan → IsStateOf plan (start plan) → (list : List Turn) → Standing plan (after_items plan list (start plan))
items_stand laws plan goes_on of list = items_keep plan (Standing plan) (standing_kept laws plan goes_on) list (start plan) (start_stands laws plan of)

left_forms : Renamed → NamesAside → (plan : Plan) (x : State × Ending) → all_have_forms plan.scripts x.0.replies ≡ true → has_forms plan (outcome_of plan x) ≡ true
left_forms law names plan (s, endings.Done) forms = all_renamed law names (key_number (keys_in plan.scripts)) plan.scripts s.replies ∙ forms
left_forms law names plan (s, endings.Misused misuse) forms = all_renamed law names (key_number (keys_in plan.scripts)) plan.scripts s.replies ∙ forms
left_forms law names plan (s, endings.Deadlocked) forms = all_renamed law names (key_number (keys_in plan.scripts)) plan.scripts s.replies ∙ forms

-- the replies of a run
pub run_forms : TurnStands → Renamed → NamesAside → (plan : Plan) → GoesOn plan → IsStateOf plan (start plan) → has_forms plan (turns plan) ≡ true
run_forms laws renamed names plan goes_on of =
    left_forms renamed names plan (whole_run plan) (run_keeps plan (Standing plan) (standing_kept laws plan goes_on) (start_stands laws plan of)).forms
