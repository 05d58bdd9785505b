-- The calls that a worker completes are those of its script, in order.
use Rattle.std.proofs.Common.{◌≡◌, ◌≢◌, ℕ, ◌⊎◌, Bool, true, false, cond, eqb, List, [], ◌∷◌, ◌++◌, map, length, get_or, Some, refl, sym, ap, ◌∙◌, inl, inr, append-nil, append_assoc, arith}
use Rattle.std.specs.Prelude.{◌==◌, nat_lt, if◌then◌else◌}
use Rattle.std.specs.List.{filter}
use Rattle.std.specs.Option.{option_to_list}
use Rattle.std.proofs.lemmas.Bool.{eqb-true, eqb-false, lt-ltb, ltb-true}
use Rattle.std.proofs.lemmas.List.{length-append, get_or-set_same}
use Rattle.script_calls.specs.Runs.{made_of}
use Rattle.script_calls.specs.declared.call.Call.{Call}
use Rattle.script_calls.specs.declared.call.Reply.{Reply}
use Rattle.workload.specs.declared.turn.Turn.{Turn}
use Rattle.workload.specs.declared.turn.Turn.TheVariants as items
use Rattle.workload.specs.Plan.{Plan}
use Rattle.step_runner.specs.declared.turns.answer.Answer.TheVariants.{Completed}
use Rattle.step_runner.specs.declared.turns.object_state.ObjectState.{ObjectState}
use Rattle.step_runner.specs.declared.step.Step.{Step}
use Rattle.step_runner.specs.declared.step.Step.TheVariants as steps
use Rattle.step_runner.specs.State.{State, IsStateOf, start, with_moment}
use Rattle.step_runner.specs.Turns.{answered, next_call, turn_of, with_event, and_then, items_of, after_items}
use Rattle.step_runner.specs.MadeCalls.{completed_by, unless_misused, made_calls, calls_of}
use Rattle.step_runner.proofs.NextCalls.{IsOfScript}
use Rattle.step_runner.proofs.ScriptRuns.{GoesFurther}
use Rattle.step_runner.proofs.StartLemmas.{none_replied}
use Rattle.step_runner.proofs.TurnLemmas.{Takes, moved, turn_cases, replied_other}
use Rattle.step_runner.proofs.RunLemmas.{GoesOn, moment_valid}

-- ---- the replies behind a turn

-- one call of the worker's script is completed
pub record Completes (plan : Plan) (worker : ℕ) (s t : State) : Type 0 where
  pub call : Call
  pub reply : Reply (List ℕ)
  pub next : next_call plan worker s ≡ Some call
  pub of : IsOfScript plan worker (get_or s.replies worker []) call
  pub own : get_or t.replies worker [] ≡ get_or s.replies worker [] ++ reply ∷ []
  pub others : (k : ℕ) → k ≢ worker → get_or t.replies k [] ≡ get_or s.replies k []

abbrev pub completes_answered : (plan : Plan) (worker : ℕ) (s : State) (call : Call) (objects : List ObjectState) (waits : ℕ) (reply : Reply (List ℕ)) → IsStateOf plan s → Takes plan worker s call objects waits (Completed reply)
    → IsOfScript plan worker (get_or s.replies worker []) call → Completes plan worker s (answered worker call reply (moved worker objects waits s))
completes_answered plan worker s call objects waits reply of takes is = record {
  call = call;
  reply = reply;
  next = takes.next;
  of = is;
  own = get_or-set_same s.replies worker (get_or s.replies worker [] ++ reply ∷ []) [] (omega (arith, of.workers, takes.below));
  others = λ k apart. replied_other worker k reply (moved worker objects waits s) apart;
}

turn_replies : (plan : Plan) (worker : ℕ) (s : State) → IsStateOf plan s → ((turn_of plan worker s).0.replies ≡ s.replies) ⊎ Completes plan worker s (turn_of plan worker s).0
turn_replies plan worker s of = turn_cases (λ step. (step.0.replies ≡ s.replies) ⊎ Completes plan worker s step.0) plan worker s of (record {
  ended = λ is. inl refl;
  still = λ call objects waits takes. inl refl;
  unfinished = λ call objects waits takes. inl refl;
  completed = λ call objects waits reply takes is. inr (completes_answered plan worker s call objects waits reply of takes is);
  closed = λ call objects waits reply takes is. inl refl;
  misused = λ call objects waits misuse takes. inl refl;
})

-- ---- the calls of a script that a worker has completed

abbrev made : Plan → ℕ → State → List Call
made plan worker s = made_of (get_or plan.scripts worker []) (get_or s.replies worker [])

none_completed : (plan : Plan) (worker : ℕ) (s : State) → (turn_of plan worker s).0.replies ≡ s.replies → completed_by plan worker s ≡ []
none_completed plan worker s same =
    let n = length (get_or s.replies worker []) in
    let count : length (get_or (turn_of plan worker s).0.replies worker []) ≡ n = ap (λ (replies : List (List (Reply (List ℕ)))). length (get_or replies worker [])) same in
    let no : nat_lt n (length (get_or (turn_of plan worker s).0.replies worker [])) ≡ false = not_more n _ (omega (arith, count)) in
    ap (λ b. if b then option_to_list (next_call plan worker s) else []) no
  where
    not_more : (n m : ℕ) → m ≡ n → nat_lt n m ≡ false
    not_more n m e = elim (nat_lt n m) as (λ b. nat_lt n m ≡ b → b ≡ false) [
      | true ↦ λ f. absurd (omega (arith, ltb-true n m f, e))
      | false ↦ λ f. refl
    ] refl

pub one_completed : (plan : Plan) (worker : ℕ) (s : State) → (c : Completes plan worker s (turn_of plan worker s).0) → completed_by plan worker s ≡ c.call ∷ []
one_completed plan worker s c =
    let given = get_or s.replies worker [] in
    let count = ap (length {A = Reply (List ℕ)}) c.own ∙ length-append given (c.reply ∷ []) in
    let more : nat_lt (length given) (length (get_or (turn_of plan worker s).0.replies worker [])) ≡ true = lt-ltb _ _ (omega (arith, count)) in
    ap (λ b. if b then option_to_list (next_call plan worker s) else []) more ∙ ap option_to_list c.next

made_own : GoesFurther → (plan : Plan) (worker : ℕ) (s : State) → (c : Completes plan worker s (turn_of plan worker s).0) → made plan worker (turn_of plan worker s).0 ≡ made plan worker s ++ c.call ∷ []
made_own further plan worker s c =
    let script = get_or plan.scripts worker [] in
    ap (made_of script) c.own ∙ further.made script (get_or s.replies worker []) c.call c.of.rest c.reply c.of.left

-- one completed call, of this worker or of another
made_turn : GoesFurther → (plan : Plan) (worker turn : ℕ) (s : State) (more : List (ℕ × Call)) (b : Bool) → eqb turn worker ≡ b → (c : Completes plan turn s (turn_of plan turn s).0)
    → made plan worker s ++ map (λ (one : ℕ × Call). one.1) (cond b ((turn, c.call) ∷ filter (λ one. one.0 == worker) more) (filter (λ one. one.0 == worker) more)) ≡ made plan worker (turn_of plan turn s).0 ++ calls_of worker more
made_turn further plan worker turn s more true e c =
    let same : turn ≡ worker = eqb-true turn worker e in
    ap (λ v. made plan v s ++ (c.call ∷ calls_of worker more)) (sym same)
    ∙ sym (append_assoc (made plan turn s) (c.call ∷ []) (calls_of worker more))
    ∙ ap (λ (cs : List Call). cs ++ calls_of worker more) (sym (made_own further plan turn s c))
    ∙ ap (λ v. made plan v (turn_of plan turn s).0 ++ calls_of worker more) same
made_turn further plan worker turn s more false e c =
    let apart : worker ≢ turn = λ (same : worker ≡ turn). eqb-false turn worker e (sym same) in
    ap (λ (done : List (Reply (List ℕ))). made_of (get_or plan.scripts worker []) done ++ calls_of worker more) (sym (c.others worker apart))

made_next : GoesFurther → (plan : Plan) (worker turn : ℕ) (s : State) (more : List (ℕ × Call)) → IsStateOf plan s
    → made plan worker s ++ calls_of worker (map (λ (call : Call). (turn, call)) (completed_by plan turn s) ++ more) ≡ made plan worker (turn_of plan turn s).0 ++ calls_of worker more
made_next further plan worker turn s more of = elim (turn_replies plan turn s of) [
  | inl same ↦
      ap (λ (cs : List Call). made plan worker s ++ calls_of worker (map (λ (call : Call). (turn, call)) cs ++ more)) (none_completed plan turn s same)
      ∙ ap (λ (replies : List (List (Reply (List ℕ)))). made_of (get_or plan.scripts worker []) (get_or replies worker []) ++ calls_of worker more) (sym same)
  | inr c ↦
      ap (λ (cs : List Call). made plan worker s ++ calls_of worker (map (λ (call : Call). (turn, call)) cs ++ more)) (one_completed plan turn s c)
      ∙ made_turn further plan worker turn s more (eqb turn worker) refl c
]

pub event_state : (x : State × Step) → (with_event x).0 ≡ x.0
event_state (s, steps.Still) = refl
event_state (s, steps.Made) = refl
event_state (s, steps.Misused misuse) = refl

-- what follows, unless the turn was a misuse
made_later : (plan : Plan) (worker : ℕ) (rest : List Turn) (x : State × Step) → IsStateOf plan x.0
    → ((t : State) → IsStateOf plan t → made plan worker t ++ calls_of worker (made_calls plan rest t) ≡ made plan worker (after_items plan rest t))
    → made plan worker x.0 ++ calls_of worker (unless_misused x (made_calls plan rest)) ≡ made plan worker (and_then x (items_of plan rest)).0
made_later plan worker rest (t, steps.Still) of later = later t of
made_later plan worker rest (t, steps.Made) of later = later t of ∙ ap (made plan worker) (sym (event_state (items_of plan rest t)))
made_later plan worker rest (t, steps.Misused misuse) of later = append-nil (made plan worker t)

made_so_far : GoesFurther → (plan : Plan) → GoesOn plan → (worker : ℕ) (list : List Turn) (s : State) → IsStateOf plan s → made plan worker s ++ calls_of worker (made_calls plan list s) ≡ made plan worker (after_items plan list s)
made_so_far further plan goes_on worker [] s of = append-nil (made plan worker s)
made_so_far further plan goes_on worker (items.Worker turn ∷ rest) s of =
    made_next further plan worker turn s (unless_misused (turn_of plan turn s) (made_calls plan rest)) of
    ∙ made_later plan worker rest (turn_of plan turn s) (goes_on turn s of) (made_so_far further plan goes_on worker rest)
made_so_far further plan goes_on worker (items.Moment moment ∷ rest) s of = made_so_far further plan goes_on worker rest (with_moment moment s) (moment_valid plan moment s of)

pub made_in_order : GoesFurther → (plan : Plan) → GoesOn plan → (list : List Turn) (worker : ℕ) → IsStateOf plan (start plan) → calls_of worker (made_calls plan list (start plan)) ≡ made plan worker (after_items plan list (start plan))
made_in_order further plan goes_on list worker of =
    ap (λ (done : List (Reply (List ℕ))). made_of (get_or plan.scripts worker []) done ++ calls_of worker (made_calls plan list (start plan))) (sym (none_replied plan.workers worker))
    ∙ made_so_far further plan goes_on worker list (start plan) of
