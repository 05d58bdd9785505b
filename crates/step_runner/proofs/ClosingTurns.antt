-- The `done` behind a script is one turn, behind which its worker is gone, or a misuse.
use Rattle.std.proofs.Common.{◌≡◌, ◌≢◌, ℕ, ◌+◌, ◌<◌, ◌≤◌, Bool, true, false, ◌&&◌, List, [], ◌∷◌, get_or, Option, Some, None, inl, inr, refl, sym, ap, ◌∙◌, subst, arith}
use Rattle.std.specs.Prelude.{pos, negsuc, ◌+ℤ◌, ◌==◌, if◌then◌else◌, slice_get}
use Rattle.std.proofs.lemmas.Bool.{eqb-true, lt-ltb}
use Rattle.script_calls.specs.Starts.{started_by}
use Rattle.script_calls.specs.declared.call.Call.{Call}
use Rattle.wait_cores.specs.GroupMachine.{GroupState, callers_of, within, added, next}
use Rattle.wait_cores.specs.declared.group.GroupEvent.TheVariants.{Add}
use Rattle.wait_cores.specs.declared.group.GroupReply.TheVariants.{Still}
use Rattle.protocols.specs.GroupStages.{add_meaning}
use Rattle.workload.specs.declared.turn.Turn.{Turn}
use Rattle.workload.specs.declared.turn.Turn.TheVariants as items
use Rattle.workload.specs.Plan.{Plan, has_call}
use Rattle.step_runner.specs.declared.turns.answer.Answer.{Answer}
use Rattle.step_runner.specs.declared.turns.answer.Answer.TheVariants as answers
use Rattle.step_runner.specs.declared.turns.object_state.ObjectState.{ObjectState}
use Rattle.step_runner.specs.declared.turns.object_state.ObjectState.TheVariants as states
use Rattle.step_runner.specs.Due.{returned}
use Rattle.step_runner.specs.Objects.{kind_of, IsMachineOf}
use Rattle.step_runner.specs.Ready.{IsReady}
use Rattle.step_runner.specs.Stages.{outcome_of, answer_by}
use Rattle.step_runner.specs.StandsWithin.{IsReadyWithin}
use Rattle.step_runner.specs.TurnAtObjects.{turn_at}
use Rattle.step_runner.specs.TurnWithin.{done_on, turn_within}
use Rattle.step_runner.specs.CallTurns.{makes_event, one_if, behind, count_turns}
use Rattle.step_runner.specs.Closing.{GoesOrMisuses, IsLastDone, closes}
use Rattle.step_runner.specs.declared.step.Step.{Step}
use Rattle.step_runner.specs.declared.step.Step.TheVariants as steps
use Rattle.step_runner.specs.declared.state.Stand.{Stand}
use Rattle.step_runner.specs.declared.state.Stand.TheVariants.{Waits, Live, Gone}
use Rattle.step_runner.specs.State.{State, IsStateOf, start, stand_of, with_moment}
use Rattle.step_runner.specs.Turns.{begun_by, script_left, is_empty, is_behind, next_call, turn_of}
use Rattle.step_runner.proofs.AtObjects.{turn_alone}
use Rattle.step_runner.proofs.NextCalls.{IsClosing, gone_own, next_is, next_live, not_woken}
use Rattle.step_runner.proofs.RunLemmas.{GoesOn, moment_valid}
use Rattle.step_runner.proofs.TurnLemmas.{Takes, gone_each, takes_by, turn_cases}
use Rattle.step_runner.proofs.Refuted.{no}

-- ---- a `done` on a wait group

-- a turn that completes its call, or is a misuse
abbrev IsWhole : Answer → Type 0
IsWhole answers.Still = ⊥
IsWhole answers.Unfinished = ⊥
IsWhole (answers.Completed reply) = Unit {0}
IsWhole (answers.Misused misuse) = Unit {0}

module _ (workers worker moment group : ℕ) (objects : List ObjectState) where
  by_sum : (g : GroupState) (sum : Option ℕ) → IsWhole (answer_by returned (outcome_of (add_meaning (added sum g).1)))
  by_sum g (Some sum) = tt
  by_sum g None = tt

  by_step : (g : GroupState) → worker < callers_of g → IsWhole (answer_by returned (outcome_of (add_meaning (next g worker (Add (negsuc 0))).1)))
  by_step g below = subst (λ (b : Bool). IsWhole (answer_by returned (outcome_of (add_meaning (if b then added (within (pos g.counter +ℤ negsuc 0)) g else (g, Still)).1)))) (sym (lt-ltb worker (callers_of g) below))
      (by_sum g (within (pos g.counter +ℤ negsuc 0)))

  by_object : (object : ObjectState) → slice_get objects group ≡ Some object → has_call (kind_of object) (done_on group).operation ≡ true → IsMachineOf workers object → worker < workers → IsWhole (turn_at (done_on group) worker moment objects).1
  by_object (states.WaitGroup g first) there has machine below =
      subst (λ (step : List ObjectState × Answer). IsWhole step.1) (sym (turn_alone (done_on group) worker moment objects (states.WaitGroup g first) there refl)) (by_step g (omega (arith, below, machine)))
  by_object object there has machine below = no has

  done_whole : (begun : ℕ) → IsReadyWithin workers worker (done_on group) objects → IsWhole (turn_within (done_on group) worker moment begun objects).1
  done_whole begun ready =
      let r : IsReady workers worker (done_on group) objects = ready in
      by_object r.object r.there r.has r.machine r.below

-- ---- the call behind a script

module _ (plan : Plan) (worker : ℕ) (s : State) (of : IsStateOf plan s) (none : script_left plan worker s ≡ []) where
  not_left : (call : Call) (rest : List Call) → script_left plan worker s ≡ call ∷ rest → ⊥
  not_left call rest is = no (sym none ∙ is)
    where
      no : [] ≡ call ∷ rest → ⊥
      no e = cc

  closing_of : (call : Call) → next_call plan worker s ≡ Some call → IsClosing plan worker (get_or s.replies worker []) call
  closing_of call next = elim (next_is plan worker s call next) [
    | inl is ↦ absurd (not_left call is.rest is.left)
    | inr is ↦ is
  ]

  takes_whole : (call : Call) (objects : List ObjectState) (waits : ℕ) (answer : Answer) → Takes plan worker s call objects waits answer → IsWhole answer
  takes_whole call objects waits answer takes =
      let is = closing_of call takes.next in
      let whole : (c : Call) → c ≡ done_on is.group → IsReadyWithin plan.workers worker c s.objects → IsWhole (turn_within c worker s.moment (begun_by worker s) s.objects).1 =
      λ c same. subst (λ (c : Call). IsReadyWithin plan.workers worker c s.objects → IsWhole (turn_within c worker s.moment (begun_by worker s) s.objects).1) (sym same)
      (done_whole plan.workers worker s.moment is.group s.objects (begun_by worker s)) in
      takes_by (λ x. IsWhole x.1) plan worker s call objects waits answer of takes (whole call is.is)

  -- its turn, where it is the next
  abbrev Ends : State × Step → Type 0
  Ends x = GoesOrMisuses worker x × (x.0.replies ≡ s.replies)

  done_turn : (call : Call) → next_call plan worker s ≡ Some call → Ends (turn_of plan worker s)
  done_turn call next = turn_cases Ends plan worker s of (record {
    ended = λ is. absurd (no_call (sym is ∙ next));
    still = λ call objects waits takes. absurd (takes_whole call objects waits answers.Still takes);
    unfinished = λ call objects waits takes. absurd (takes_whole call objects waits answers.Unfinished takes);
    completed = λ call objects waits reply takes is. absurd (not_left call is.rest is.left);
    closed = λ call objects waits reply takes is. (gone_own s.stands worker, refl);
    misused = λ call objects waits misuse takes. (tt, refl);
  })
    where
      no_call : None ≡ Some call → ⊥
      no_call e = cc

pub is_last_done : (plan : Plan) (worker : ℕ) (s : State) (call : Call) → IsStateOf plan s → next_call plan worker s ≡ Some call → script_left plan worker s ≡ [] → IsLastDone plan worker call s
is_last_done plan worker s call of next none =
    let is = closing_of plan worker s of none call next in
    let turn = done_turn plan worker s of none call next in
    (is.group, is.under, is.is, turn.0, turn.1)

-- ---- how many turns a worker takes behind its script

-- one as long as it isn't gone
abbrev room : Stand → ℕ
room Waits = 1
room Live = 1
room Gone = 0

room_most : (stand : Stand) → room stand ≤ 1
room_most Waits = omega arith
room_most Live = omega arith
room_most Gone = omega arith

behind_less : (x : State × Step) (more : State → ℕ) (n : ℕ) → more x.0 ≤ n → behind x more ≤ n
behind_less (s, steps.Still) more n less = less
behind_less (s, steps.Made) more n less = less
behind_less (s, steps.Misused misuse) more n less = omega arith

none_left : (calls : List Call) → is_empty calls ≡ true → calls ≡ []
none_left [] is = refl
none_left (call ∷ calls) is = absurd cc

module _ (plan : Plan) (worker : ℕ) where
  abbrev room_in : State → ℕ
  room_in s = room (stand_of worker s)

  -- whoever is gone stays so
  gone_stays : (by : ℕ) (s : State) → IsStateOf plan s → stand_of worker s ≡ Gone → stand_of worker (turn_of plan by s).0 ≡ Gone
  gone_stays by s of gone = turn_cases (λ x. stand_of worker x.0 ≡ Gone) plan by s of (record {
    ended = λ is. gone;
    still = λ call objects waits takes. gone;
    unfinished = λ call objects waits takes. gone;
    completed = λ call objects waits reply takes is. not_woken (started_by call.operation) s.stands worker Gone gone_waits gone;
    closed = λ call objects waits reply takes is. gone_each (λ k stand. stand_of k s ≡ Gone → stand ≡ Gone) by s (λ e. refl) (λ k e. e) worker gone;
    misused = λ call objects waits misuse takes. gone;
  })
    where
      gone_waits : Gone ≢ Waits
      gone_waits e = cc

  room_kept : (by : ℕ) (s : State) → IsStateOf plan s → room_in (turn_of plan by s).0 ≤ room_in s
  room_kept by s of = by_stand (stand_of worker s) refl
    where
      by_stand : (stand : Stand) → stand_of worker s ≡ stand → room_in (turn_of plan by s).0 ≤ room_in s
      by_stand Waits is = omega (arith, room_most (stand_of worker (turn_of plan by s).0), ap room is)
      by_stand Live is = omega (arith, room_most (stand_of worker (turn_of plan by s).0), ap room is)
      by_stand Gone is = omega (arith, ap room (gone_stays by s of is), ap room is)

  -- a turn behind the script with an event
  event_behind : (s : State) → IsStateOf plan s → script_left plan worker s ≡ [] → (more : State → ℕ) → makes_event (turn_of plan worker s).1 ≡ true → more (turn_of plan worker s).0 ≤ room_in (turn_of plan worker s).0
      → behind (turn_of plan worker s) more + 1 ≤ room_in s
  event_behind s of none more = turn_cases (λ x. makes_event x.1 ≡ true → more x.0 ≤ room_in x.0 → behind x more + 1 ≤ room_in s) plan worker s of (record {
    ended = λ is event less. absurd (no_event event);
    still = λ call objects waits takes event less. absurd (no_event event);
    unfinished = λ call objects waits takes event less. absurd (takes_whole plan worker s of none call objects waits answers.Unfinished takes);
    completed = λ call objects waits reply takes is event less. absurd (not_left plan worker s of none call is.rest is.left);
    closed = λ call objects waits reply takes is event less. omega (arith, less, ap room (gone_own s.stands worker), ap room (next_live plan worker s call takes.next));
    misused = λ call objects waits misuse takes event less. omega (arith, ap room (next_live plan worker s call takes.next));
  })
    where
      no_event : false ≡ true → ⊥
      no_event e = cc

  -- any turn
  turn_counts : (by : ℕ) (s : State) → IsStateOf plan s → (more : State → ℕ) → more (turn_of plan by s).0 ≤ room_in (turn_of plan by s).0 → one_if (closes plan worker by s) + behind (turn_of plan by s) more ≤ room_in s
  turn_counts by s of more less = by_tests (by == worker) (is_behind plan worker s) (makes_event (turn_of plan by s).1) refl refl refl
    where
      later : behind (turn_of plan by s) more ≤ room_in s
      later = behind_less (turn_of plan by s) more (room_in s) (omega (arith, less, room_kept by s of))

      own : (v : ℕ) → v ≡ worker → makes_event (turn_of plan v s).1 ≡ true → is_behind plan worker s ≡ true → more (turn_of plan v s).0 ≤ room_in (turn_of plan v s).0 → behind (turn_of plan v s) more + 1 ≤ room_in s
      own v same = subst (λ (w : ℕ). makes_event (turn_of plan w s).1 ≡ true → is_behind plan worker s ≡ true → more (turn_of plan w s).0 ≤ room_in (turn_of plan w s).0 → behind (turn_of plan w s) more + 1 ≤ room_in s) (sym same)
          (λ event at_end less. event_behind s of (none_left (script_left plan worker s) at_end) more event less)

      by_tests : (is at_end event : Bool) → (by == worker) ≡ is → is_behind plan worker s ≡ at_end → makes_event (turn_of plan by s).1 ≡ event → one_if (is && (at_end && event)) + behind (turn_of plan by s) more ≤ room_in s
      by_tests true true true e f g = omega (arith, own by (eqb-true by worker e) g f less)
      by_tests true true false e f g = omega (arith, later)
      by_tests true false event e f g = omega (arith, later)
      by_tests false at_end event e f g = omega (arith, later)

  module _ (goes : GoesOn plan) where
    counted : (list : List Turn) (s : State) → IsStateOf plan s → count_turns plan (closes plan worker) list s ≤ room_in s
    counted [] s of = omega arith
    counted (items.Worker by ∷ rest) s of = turn_counts by s of (count_turns plan (closes plan worker) rest) (counted rest (turn_of plan by s).0 (goes by s of))
    counted (items.Moment moment ∷ rest) s of = counted rest (with_moment moment s) (moment_valid plan moment s of)

    pub closes_once : (list : List Turn) → IsStateOf plan (start plan) → count_turns plan (closes plan worker) list (start plan) ≤ 1
    closes_once list of = omega (arith, counted list (start plan) of, room_most (stand_of worker (start plan)))
