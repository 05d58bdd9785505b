-- A call takes few turns, and a worker goes back to a queue no more often than it was told to go on.
use Rattle.std.proofs.Common.{◌≡◌, ◌≢◌, ℕ, zero, suc, ◌+◌, ◌<◌, ◌≤◌, inl, inr, Bool, true, false, ◌&&◌, List, [], ◌∷◌, map, length, get_or, Option, Some, None, refl, sym, ap, ◌∙◌, subst, arith}
use Rattle.std.specs.Prelude.{◌==◌, nat_lt, not, slice_get, unwrap_or}
use Rattle.std.specs.Option.{option_map_or}
use Rattle.std.proofs.lemmas.List.{get_or-set_other}
use Rattle.std.proofs.lemmas.Bool.{eqb-true, eqb-false, eq-eqb, lt-ltb, ltb-true, ltb-false}
use Rattle.script_calls.specs.Starts.{started_by}
use Rattle.script_calls.specs.declared.call.Call.{Call}
use Rattle.script_calls.specs.declared.call.ComposedCall.TheVariants.{WaitFor}
use Rattle.script_calls.specs.declared.call.Operation.{Operation}
use Rattle.script_calls.specs.declared.call.Operation.TheVariants as operations
use Rattle.script_calls.specs.declared.call.Reply.{Reply}
use Rattle.workload.specs.Draft.{tries_of}
use Rattle.workload.specs.declared.object.ObjectKind.{ObjectKind}
use Rattle.workload.specs.declared.turn.Turn.{Turn}
use Rattle.workload.specs.declared.turn.Turn.TheVariants as items
use Rattle.workload.specs.Plan.{Plan}
use Rattle.workload.specs.Puts.{puts_at}
use Rattle.workload.specs.Keys.{keys_in}
use Rattle.step_runner.specs.declared.turns.answer.Answer.{Answer}
use Rattle.step_runner.specs.declared.turns.answer.Answer.TheVariants as answers
use Rattle.step_runner.specs.declared.turns.object_state.ObjectState.{ObjectState}
use Rattle.step_runner.specs.TurnsLeft.{refers_to, TakesBy, told_at, is_told, TellsOwn}
use Rattle.step_runner.specs.declared.turns.item.Item.{Item}
use Rattle.step_runner.specs.Items.{goes_back, unlocks}
use Rattle.step_runner.specs.Objects.{kind_of}
use Rattle.step_runner.specs.Stands.{IsOutAt, IsOutBut}
use Rattle.step_runner.specs.StandsWithin.{IsReadyWithin, most_turns, turns_by_operation, turns_within}
use Rattle.step_runner.specs.TurnWithin.{turn_within, items_within}
use Rattle.step_runner.specs.declared.step.Step.{Step}
use Rattle.step_runner.specs.declared.step.Step.TheVariants as steps
use Rattle.step_runner.specs.CallTurns.{makes_event, stands_before, kinds_in, most_turns_for, calls_met, was_told, advances, requeues, wakes, one_if, behind, count_turns}
use Rattle.step_runner.specs.RunItems.{made_by}
use Rattle.step_runner.specs.declared.state.Stand.{Stand}
use Rattle.step_runner.specs.declared.state.Stand.TheVariants.{Waits, Live, Gone}
use Rattle.step_runner.specs.State.{State, start, stand_of, stands_behind, with_reply, with_stand, with_moment, IsStateOf}
use Rattle.step_runner.specs.Turns.{answered, begun_by, next_call, turn_of, and_then, items_of, after_items}
use Rattle.step_runner.proofs.FormLemmas.{TurnStands, Standing, own_at, standing_kept, start_stands, waiting_out}
use Rattle.step_runner.proofs.MadeLemmas.{event_state}
use Rattle.step_runner.proofs.MetCalls.{met_later, meets_next, four_at_most}
use Rattle.step_runner.proofs.NextCalls.{gone_own, left_with, next_live, not_woken, started_stand}
use Rattle.step_runner.proofs.RunLemmas.{GoesOn, Kept, moment_valid}
use Rattle.step_runner.proofs.ScriptRuns.{GoesFurther}
use Rattle.step_runner.proofs.StartLemmas.{each_start}
use Rattle.step_runner.proofs.TurnLemmas.{Takes, takes_by, turn_cases, moved, begun_own, begun_other, few_begun, replied_begun_other, replied_more, replied_other, turn_before}
use Rattle.step_runner.proofs.Refuted.{no}

-- what the laws of turns say
pub record CallLaws : Type 0 where
  pub most : (worker begun : ℕ) (call : Call) (objects : List ObjectState) → begun ≤ tries_of call.operation → turns_within (map kind_of objects) call worker objects begun ≤ most_turns call.operation
  pub own : (workers worker moment begun : ℕ) (call : Call) (objects : List ObjectState) → IsReadyWithin workers worker call objects
      → TakesBy (goes_back (items_within call worker moment begun objects)) (turns_within (map kind_of objects) call worker objects begun)
      (turns_within (map kind_of objects) call worker (turn_within call worker moment begun objects).0.0 (turn_within call worker moment begun objects).0.1) (turn_within call worker moment begun objects).1
  pub others : (workers worker other moment begun later : ℕ) (own call : Call) (objects : List ObjectState) → IsReadyWithin workers other call objects → worker ≢ other
      → turns_within (map kind_of objects) own worker (turn_within call other moment later objects).0.0 begun ≤ turns_within (map kind_of objects) own worker objects begun
  pub told_before : (workers worker moment begun : ℕ) (call : Call) (objects : List ObjectState) → IsReadyWithin workers worker call objects
      → TellsOwn (goes_back (items_within call worker moment begun objects)) (is_told (map kind_of objects) call worker objects) (is_told (map kind_of objects) call worker (turn_within call worker moment begun objects).0.0)
  pub told_by : (workers worker other moment begun : ℕ) (own call : Call) (objects : List ObjectState) → IsReadyWithin workers other call objects → worker ≢ other
      → is_told (map kind_of objects) own worker objects ≡ false → is_told (map kind_of objects) own worker (turn_within call other moment begun objects).0.0 ≡ true → unlocks (items_within call other moment begun objects) ≡ true
  pub untold : (worker : ℕ) (object : ObjectState) → IsOutAt worker object → told_at worker object ≡ false

-- a turn without an event changes nothing
abbrev pub StillSame : Type 0
StillSame = (plan : Plan) (worker : ℕ) (old new : State) → IsStateOf plan old → turn_of plan worker old ≡ (new, steps.Still) → new ≡ old

live_waits : Live ≡ Waits → ⊥
live_waits e = cc

gone_waits : Gone ≡ Waits → ⊥
gone_waits e = cc

one_most : (b : Bool) → one_if b ≤ 1
one_most true = omega arith
one_most false = omega arith

-- tests of which one fails
none_by : (a : Bool) (b : Bool) → a ≡ false → one_if (a && b) ≡ 0
none_by a b e = ap (λ (t : Bool). one_if (t && b)) e

none_second : (a b c : Bool) → b ≡ false → one_if (a && (b && c)) ≡ 0
none_second true b c e = ap (λ (t : Bool). one_if (t && c)) e
none_second false b c e = refl

none_still : (a b c : Bool) → one_if (a && (b && (false && c))) ≡ 0
none_still true true c = refl
none_still true false c = refl
none_still false b c = refl

none_back : (a b c back : Bool) → back ≡ true → one_if (a && (b && (c && not back))) ≡ 0
none_back true true true back e = ap (λ (t : Bool). one_if (not t)) e
none_back true true false back e = refl
none_back true false c back e = refl
none_back false b c back e = refl

-- what a worker's own turn, and another's, does to whether it was told
own_told : (a n back o w : Bool) → TellsOwn back o w → one_if (a && (n && back)) + one_if (n && w) ≤ one_if (n && o)
own_told a false back o w tells = omega (arith, none_second a false back refl)
own_told a true true o w tells = omega (arith, one_most (a && true), ap one_if tells.0, ap one_if tells.1)
own_told a true false o false tells = omega (arith, dropped a)
  where
    dropped : (a : Bool) → one_if (a && false) ≡ 0
    dropped true = refl
    dropped false = refl
own_told a true false o true tells = omega (arith, dropped a, ap one_if (tells refl))
  where
    dropped : (a : Bool) → one_if (a && false) ≡ 0
    dropped true = refl
    dropped false = refl

other_told : (e n u o w : Bool) → e ≡ false → (o ≡ false → w ≡ true → u ≡ true) → one_if (n && w) ≤ one_if (not e && (n && (u && (not o && w)))) + one_if (n && o)
other_told true n u o w apart tells = no (sym apart)
other_told false false u o w apart tells = omega arith
other_told false true u true w apart tells = omega (arith, one_most w)
other_told false true u false false apart tells = omega arith
other_told false true true false true apart tells = omega arith
other_told false true false false true apart tells = no (tells refl refl)

-- a call that is not completed takes one turn more at least
one_left : (kinds : List ObjectKind) (call : Call) (worker : ℕ) (objects : List ObjectState) (operation : Operation) (begun : ℕ) → 1 ≤ turns_by_operation kinds call worker objects operation begun
one_left kinds call worker objects (operations.Composed (WaitFor atomic value tries)) zero = omega arith
one_left kinds call worker objects (operations.Composed (WaitFor atomic value tries)) (suc begun) = omega arith
one_left kinds call worker objects operation begun = omega arith

-- ---- one call of one worker

module _ (plan : Plan) (worker number : ℕ) where
  -- what is left of the call before which the worker stands, and whether it was told to go on, by how it stands, its replies and begun waits so far
  abbrev left_by : Stand → List (Reply (List ℕ)) → ℕ → List ObjectState → ℕ
  left_by stand done begun objects = option_map_or (λ call. turns_within (kinds_in plan) call worker objects begun) (slice_get (left_with plan worker stand done) 0) 0

  abbrev told_by : Stand → List (Reply (List ℕ)) → List ObjectState → Bool
  told_by stand done objects = option_map_or (λ call. is_told (kinds_in plan) call worker objects) (slice_get (left_with plan worker stand done) 0) false

  abbrev told : State → ℕ
  told s = one_if ((length (get_or s.replies worker []) == number) && told_by (stand_of worker s) (get_or s.replies worker []) s.objects)

  not_less : (n m : ℕ) → m ≤ n → nat_lt n m ≡ false
  not_less n m e = elim (nat_lt n m) as (λ b. nat_lt n m ≡ b → b ≡ false) [
    | true ↦ λ f. absurd (omega (arith, ltb-true n m f, e))
    | false ↦ λ f. refl
  ] refl

  not_same : (n m : ℕ) → (n ≡ m → ⊥) → (n == m) ≡ false
  not_same n m ne = elim (n == m) as (λ b. (n == m) ≡ b → b ≡ false) [
    | true ↦ λ f. absurd (ne (eqb-true n m f))
    | false ↦ λ f. refl
  ] refl

  -- ---- the most turns that can be counted: as many as the call may take before it, and as long as the worker waits to be started, what is left of it then, and none behind it

  module _ (limit : ℕ) where
    abbrev most_of : Bool → Bool → ℕ → ℕ
    most_of true at n = limit
    most_of false true n = n
    most_of false false n = 0

    abbrev most_so : Stand → ℕ → ℕ
    most_so Waits n = limit
    most_so Live n = n
    most_so Gone n = n

    abbrev most_by : Stand → List (Reply (List ℕ)) → ℕ → List ObjectState → ℕ
    most_by stand done begun objects = most_so stand (most_of (nat_lt (length done) number) (length done == number) (left_by stand done begun objects))

    abbrev most : State → ℕ
    most s = most_by (stand_of worker s) (get_or s.replies worker []) (begun_by worker s) s.objects

    so_started : (stand : Stand) (n : ℕ) → stand ≢ Waits → most_so stand n ≡ n
    so_started Waits n started = absurd (started refl)
    so_started Live n started = refl
    so_started Gone n started = refl

    so_limit : (stand : Stand) → most_so stand limit ≡ limit
    so_limit Waits = refl
    so_limit Live = refl
    so_limit Gone = refl

    most_before : (stand : Stand) (done : List (Reply (List ℕ))) (begun : ℕ) (objects : List ObjectState) → length done < number → most_by stand done begun objects ≡ limit
    most_before stand done begun objects e =
        ap (λ (b : Bool). most_so stand (most_of b (length done == number) (left_by stand done begun objects))) (lt-ltb (length done) number e) ∙ so_limit stand

    most_at : (stand : Stand) (done : List (Reply (List ℕ))) (begun : ℕ) (objects : List ObjectState) → stand ≢ Waits → length done ≡ number → most_by stand done begun objects ≡ left_by stand done begun objects
    most_at stand done begun objects started e =
        so_started stand (most_of (nat_lt (length done) number) (length done == number) (left_by stand done begun objects)) started
        ∙ ap (λ (b : Bool). most_of b (length done == number) (left_by stand done begun objects)) (not_less (length done) number (omega (arith, e)))
        ∙ ap (λ (b : Bool). most_of false b (left_by stand done begun objects)) (eq-eqb (length done) number e)

    most_past : (stand : Stand) (done : List (Reply (List ℕ))) (begun : ℕ) (objects : List ObjectState) → stand ≢ Waits → number < length done → most_by stand done begun objects ≡ 0
    most_past stand done begun objects started e =
        so_started stand (most_of (nat_lt (length done) number) (length done == number) (left_by stand done begun objects)) started
        ∙ ap (λ (b : Bool). most_of b (length done == number) (left_by stand done begun objects)) (not_less (length done) number (omega (arith, e)))
        ∙ ap (λ (b : Bool). most_of false b (left_by stand done begun objects)) (not_same (length done) number (λ same. omega (arith, e, same)))

    -- no more where no more is left of the call, or where the worker stands before another one
    most_less : (stand : Stand) (done : List (Reply (List ℕ))) (begun later : ℕ) (old new : List ObjectState) → left_by stand done later new ≤ left_by stand done begun old → most_by stand done later new ≤ most_by stand done begun old
    most_less stand done begun later old new less = by_stand stand (by_place (nat_lt (length done) number) (length done == number))
      where
        by_place : (a b : Bool) → most_of a b (left_by stand done later new) ≤ most_of a b (left_by stand done begun old)
        by_place true b = omega arith
        by_place false true = less
        by_place false false = omega arith

        by_stand : {n m : ℕ} (so : Stand) → n ≤ m → most_so so n ≤ most_so so m
        by_stand Waits fewer = omega arith
        by_stand Live fewer = fewer
        by_stand Gone fewer = fewer

    most_apart : (old_stand new_stand : Stand) (done : List (Reply (List ℕ))) (begun later : ℕ) (old new : List ObjectState) → old_stand ≢ Waits → new_stand ≢ Waits → (length done == number) ≡ false
        → most_by new_stand done later new ≡ most_by old_stand done begun old
    most_apart old_stand new_stand done begun later old new old_started new_started apart =
        so_started new_stand (most_of (nat_lt (length done) number) (length done == number) (left_by new_stand done later new)) new_started
        ∙ ap (λ (b : Bool). most_of (nat_lt (length done) number) b (left_by new_stand done later new)) apart
        ∙ by_place (nat_lt (length done) number)
        ∙ ap (λ (b : Bool). most_of (nat_lt (length done) number) b (left_by old_stand done begun old)) (sym apart)
        ∙ sym (so_started old_stand (most_of (nat_lt (length done) number) (length done == number) (left_by old_stand done begun old)) old_started)
      where
        by_place : (a : Bool) → most_of a false (left_by new_stand done later new) ≡ most_of a false (left_by old_stand done begun old)
        by_place true = refl
        by_place false = refl

    -- no more is left of this call than it may take
    abbrev Fits : State → Type 0
    Fits s = length (get_or s.replies worker []) ≡ number → left_by (stand_of worker s) (get_or s.replies worker []) (begun_by worker s) s.objects ≤ limit

    most_fits : (s : State) → Fits s → most s ≤ limit
    most_fits s fits = by_stand (stand_of worker s) (by_place (nat_lt (length done) number) (length done == number) refl)
      where
        done : List (Reply (List ℕ))
        done = get_or s.replies worker []

        by_place : (a b : Bool) → (length done == number) ≡ b → most_of a b (left_by (stand_of worker s) done (begun_by worker s) s.objects) ≤ limit
        by_place true b e = omega arith
        by_place false true e = fits (eqb-true (length done) number e)
        by_place false false e = omega arith

        by_stand : {n : ℕ} (so : Stand) → n ≤ limit → most_so so n ≤ limit
        by_stand Waits few = omega arith
        by_stand Live few = few
        by_stand Gone few = few

  module _ (laws : CallLaws) where
    -- at objects at which it is out it isn't told
    out_everywhere : (objects : List ObjectState) → IsOutBut None worker objects → (stand : Stand) (done : List (Reply (List ℕ))) → told_by stand done objects ≡ false
    out_everywhere objects out stand done = by_call (slice_get (left_with plan worker stand done) 0)
      where
        by_object : (k : ℕ) (o : Option ObjectState) → slice_get objects k ≡ o → option_map_or (told_at worker) o false ≡ false
        by_object k None at = refl
        by_object k (Some object) at = laws.untold worker object (out k object at (λ e. cc))

        by_call : (o : Option Call) → option_map_or (λ call. is_told (kinds_in plan) call worker objects) o false ≡ false
        by_call None = refl
        by_call (Some call) = let k = unwrap_or (refers_to (kinds_in plan) call) call.object in by_object k (slice_get objects k) refl

    told_none : (a b : Bool) → b ≡ false → one_if (a && b) ≡ 0
    told_none true b e = ap one_if e
    told_none false b e = refl

    -- ---- another's turn

    module _ (by : ℕ) (s : State) (of : IsStateOf plan s) (apart : worker ≢ by) where
      abbrev done : List (Reply (List ℕ))
      done = get_or s.replies worker []

      abbrev stand : Stand
      stand = stand_of worker s

      eased : (limit : ℕ) (call : Call) (objects : List ObjectState) (waits : ℕ) (answer : Answer) → Takes plan by s call objects waits answer → most limit (moved by objects waits s) ≤ most limit s
      eased limit call objects waits answer takes =
          most_less limit stand done (begun_by worker s) (begun_by worker (moved by objects waits s)) s.objects objects
          (subst (λ (n : ℕ). left_by stand done n objects ≤ left_by stand done (begun_by worker s) s.objects) (sym (begun_other by worker waits objects s apart)) (by_own (slice_get (left_with plan worker stand done) 0)))
        where
          by_own : (o : Option Call) → option_map_or (λ call. turns_within (kinds_in plan) call worker objects (begun_by worker s)) o 0 ≤ option_map_or (λ call. turns_within (kinds_in plan) call worker s.objects (begun_by worker s)) o 0
          by_own None = omega arith
          by_own (Some own) = subst (λ (ks : List ObjectKind). turns_within ks own worker objects (begun_by worker s) ≤ turns_within ks own worker s.objects (begun_by worker s)) of.objects
              (takes_by (λ y. turns_within (map kind_of s.objects) own worker y.0.0 (begun_by worker s) ≤ turns_within (map kind_of s.objects) own worker s.objects (begun_by worker s)) plan by s call objects waits answer of takes
              (λ r. laws.others plan.workers worker by s.moment (begun_by worker s) (begun_by by s) own call s.objects r apart))

      -- another's reply changes nothing of it, unless it is started
      same_most : (limit : ℕ) (call : Call) (objects : List ObjectState) (waits : ℕ) (reply : Reply (List ℕ)) → Takes plan by s call objects waits (answers.Completed reply) → Fits limit (answered by call reply (moved by objects waits s))
          → most limit (answered by call reply (moved by objects waits s)) ≤ most limit s
      same_most limit call objects waits reply takes fits =
          let t = moved by objects waits s in
          elim (started_stand (started_by call.operation) s.stands worker) [
            | inl stays ↦
                (let same : most limit (answered by call reply t) ≡ most limit t = λ i. most_by limit (stays i) (replied_other by worker reply t apart i) (replied_begun_other by worker reply t apart i) objects in
                omega (arith, same, eased limit call objects waits (answers.Completed reply) takes))
            | inr wakes ↦
                (let before : most limit s ≡ limit = ap (λ (so : Stand). most_so limit so (most_of limit (nat_lt (length done) number) (length done == number) (left_by stand done (begun_by worker s) s.objects))) wakes.waited in
                omega (arith, before, most_fits limit (answered by call reply t) fits))
          ]

      -- nor does the `done` behind another's script
      same_gone : stand_of worker (with_stand by Gone s) ≡ stand
      same_gone = get_or-set_other s.stands by worker Gone Gone apart

      other_few : (limit : ℕ) → Fits limit (turn_of plan by s).0 → behind (turn_of plan by s) (most limit) ≤ most limit s
      other_few limit = turn_cases (λ x. Fits limit x.0 → behind x (most limit) ≤ most limit s) plan by s of (record {
        ended = λ is fits. omega arith;
        still = λ call objects waits takes fits. eased limit call objects waits answers.Still takes;
        unfinished = λ call objects waits takes fits. eased limit call objects waits answers.Unfinished takes;
        completed = λ call objects waits reply takes is fits. same_most limit call objects waits reply takes fits;
        closed = λ call objects waits reply takes is fits.
            let t = moved by objects waits s in
            let same : most limit (with_stand by Gone t) ≡ most limit t = ap (λ (so : Stand). most_by limit so done (begun_by worker t) objects) same_gone in
            omega (arith, same, eased limit call objects waits (answers.Completed reply) takes);
        misused = λ call objects waits misuse takes fits. omega arith;
      })

      tells : (call : Call) (objects : List ObjectState) (waits : ℕ) (answer : Answer) → Takes plan by s call objects waits answer → told_by stand done s.objects ≡ false → told_by stand done objects ≡ true → unlocks (made_by plan by s) ≡ true
      tells call objects waits answer takes = by_own (slice_get (left_with plan worker stand done) 0)
        where
          made : made_by plan by s ≡ items_within call by s.moment (begun_by by s) s.objects
          made = ap (λ (o : Option Call). option_map_or (λ call. items_within call by s.moment (begun_by by s) s.objects) o []) takes.next

          by_own : (o : Option Call) → option_map_or (λ call. is_told (kinds_in plan) call worker s.objects) o false ≡ false → option_map_or (λ call. is_told (kinds_in plan) call worker objects) o false ≡ true → unlocks (made_by plan by s) ≡ true
          by_own None = λ was now. no now
          by_own (Some own) = subst (λ (ks : List ObjectKind). is_told ks own worker s.objects ≡ false → is_told ks own worker objects ≡ true → unlocks (made_by plan by s) ≡ true) of.objects
              (takes_by (λ y. is_told (map kind_of s.objects) own worker s.objects ≡ false → is_told (map kind_of s.objects) own worker y.0.0 ≡ true → unlocks (made_by plan by s) ≡ true) plan by s call objects waits answer of takes
              (λ r was now. ap unlocks made ∙ laws.told_by plan.workers worker by s.moment (begun_by by s) own call s.objects r apart was now))

      abbrev Wakes : State → Type 0
      Wakes t = told t ≤ one_if (not (by == worker) && (stands_before worker number s && (unlocks (made_by plan by s) && (not (was_told plan worker s) && was_told plan worker t)))) + told s

      woken : (call : Call) (objects : List ObjectState) (waits : ℕ) (answer : Answer) → Takes plan by s call objects waits answer → Wakes (moved by objects waits s)
      woken call objects waits answer takes =
          other_told (by == worker) (length done == number) (unlocks (made_by plan by s)) (told_by stand done s.objects) (told_by stand done objects) (not_same by worker (λ same. apart (sym same))) (tells call objects waits answer takes)

      -- where it stands so behind the turn, with these replies
      abbrev WakesWith : Stand → List (Reply (List ℕ)) → List ObjectState → Type 0
      WakesWith so replies objects =
          one_if ((length replies == number) && told_by so replies objects)
          ≤ one_if (not (by == worker) && (stands_before worker number s && (unlocks (made_by plan by s) && (not (was_told plan worker s) && told_by so replies objects)))) + told s

      replied_woken : ((call : Call) (objects : List ObjectState) (waits : ℕ) (reply : Reply (List ℕ)) → Takes plan by s call objects waits (answers.Completed reply) → stand_of worker s ≡ Waits → IsOutBut None worker objects)
          → (call : Call) (objects : List ObjectState) (waits : ℕ) (reply : Reply (List ℕ)) → Takes plan by s call objects waits (answers.Completed reply) → Wakes (answered by call reply (moved by objects waits s))
      replied_woken outs call objects waits reply takes =
          let t = moved by objects waits s in
          let behind_stand = get_or (stands_behind (started_by call.operation) s.stands) worker Gone in
          subst (λ (replies : List (Reply (List ℕ))). WakesWith behind_stand replies objects) (sym (replied_other by worker reply t apart))
          (elim (started_stand (started_by call.operation) s.stands worker) [
            | inl stays ↦ subst (λ (so : Stand). WakesWith so done objects) (sym stays) (woken call objects waits (answers.Completed reply) takes)
            | inr wakes ↦ omega (arith, told_none (length done == number) (told_by behind_stand done objects) (out_everywhere objects (outs call objects waits reply takes wakes.waited) behind_stand done))
          ])

      other_woken : ((call : Call) (objects : List ObjectState) (waits : ℕ) (reply : Reply (List ℕ)) → Takes plan by s call objects waits (answers.Completed reply) → stand_of worker s ≡ Waits → IsOutBut None worker objects)
          → behind (turn_of plan by s) told ≤ one_if (wakes plan worker number by s) + told s
      other_woken outs = turn_cases (λ x. behind x told ≤ one_if (not (by == worker) && (stands_before worker number s && (unlocks (made_by plan by s) && (not (was_told plan worker s) && was_told plan worker x.0)))) + told s) plan by s of (record {
        ended = λ is. omega arith;
        still = λ call objects waits takes. woken call objects waits answers.Still takes;
        unfinished = λ call objects waits takes. woken call objects waits answers.Unfinished takes;
        completed = λ call objects waits reply takes is. replied_woken outs call objects waits reply takes;
        closed = λ call objects waits reply takes is. subst (λ (so : Stand). WakesWith so done objects) (sym same_gone) (woken call objects waits (answers.Completed reply) takes);
        misused = λ call objects waits misuse takes. omega arith;
      })

    -- ---- the worker's own turn

    module _ (same : StillSame) (s : State) (of : IsStateOf plan s) where
      abbrev own_done : List (Reply (List ℕ))
      own_done = get_or s.replies worker []

      abbrev own_stand : Stand
      own_stand = stand_of worker s

      -- who stands before a call doesn't wait, nor does it behind its turn
      live_started : (call : Call) → next_call plan worker s ≡ Some call → own_stand ≢ Waits
      live_started call next = λ (waits : own_stand ≡ Waits). live_waits (sym (next_live plan worker s call next) ∙ waits)

      still_live : (started : Option ℕ) (call : Call) → next_call plan worker s ≡ Some call → get_or (stands_behind started s.stands) worker Gone ≢ Waits
      still_live started call next = λ (waits : get_or (stands_behind started s.stands) worker Gone ≡ Waits). live_waits (sym (not_woken started s.stands worker Live live_waits (next_live plan worker s call next)) ∙ waits)

      is_gone : stand_of worker (with_stand worker Gone s) ≡ Gone
      is_gone = gone_own s.stands worker

      own_made : (call : Call) → next_call plan worker s ≡ Some call → made_by plan worker s ≡ items_within call worker s.moment (begun_by worker s) s.objects
      own_made call next = ap (λ (o : Option Call). option_map_or (λ call. items_within call worker s.moment (begun_by worker s) s.objects) o []) next

      own_left : (call : Call) (begun : ℕ) (objects : List ObjectState) → next_call plan worker s ≡ Some call → left_by own_stand own_done begun objects ≡ turns_within (kinds_in plan) call worker objects begun
      own_left call begun objects next = ap (λ (o : Option Call). option_map_or (λ call. turns_within (kinds_in plan) call worker objects begun) o 0) next

      own_takes : (call : Call) (objects : List ObjectState) (waits : ℕ) (answer : Answer) → Takes plan worker s call objects waits answer
          → TakesBy (goes_back (made_by plan worker s)) (left_by own_stand own_done (begun_by worker s) s.objects) (left_by own_stand own_done (begun_by worker (moved worker objects waits s)) objects) answer
      own_takes call objects waits answer takes =
          let begun = begun_by worker s in
          let back = goes_back (items_within call worker s.moment begun s.objects) in
          subst (λ (n : ℕ). TakesBy (goes_back (made_by plan worker s)) (left_by own_stand own_done (begun_by worker s) s.objects) (left_by own_stand own_done n objects) answer) (sym (begun_own worker waits objects s (omega (arith, takes.below, of.waits))))
          (subst (λ (made : List Item). TakesBy (goes_back made) (left_by own_stand own_done (begun_by worker s) s.objects) (left_by own_stand own_done waits objects) answer) (sym (own_made call takes.next))
          (subst (λ (n : ℕ). TakesBy back n (left_by own_stand own_done waits objects) answer) (sym (own_left call begun s.objects takes.next))
          (subst (λ (n : ℕ). TakesBy back (turns_within (kinds_in plan) call worker s.objects begun) n answer) (sym (own_left call waits objects takes.next))
          (subst (λ (ks : List ObjectKind). TakesBy back (turns_within ks call worker s.objects begun) (turns_within ks call worker objects waits) answer) of.objects
          (takes_by (λ y. TakesBy (goes_back (items_within call worker s.moment (begun_by worker s) s.objects)) (turns_within (map kind_of s.objects) call worker s.objects (begun_by worker s)) (turns_within (map kind_of s.objects) call worker y.0.0 y.0.1) y.1)
          plan worker s call objects waits answer of takes
          (λ r. laws.own plan.workers worker s.moment (begun_by worker s) call s.objects r))))))

      some_left : (call : Call) → next_call plan worker s ≡ Some call → 1 ≤ left_by own_stand own_done (begun_by worker s) s.objects
      some_left call next = omega (arith, own_left call (begun_by worker s) s.objects next, one_left (kinds_in plan) call worker s.objects call.operation (begun_by worker s))

      abbrev advance : Step → ℕ
      advance step = one_if ((worker == worker) && (stands_before worker number s && (makes_event step && not (goes_back (made_by plan worker s)))))

      -- behind a call more
      replied_count : (objects : List ObjectState) (waits : ℕ) (reply : Reply (List ℕ)) → worker < plan.workers → length (get_or (with_reply worker reply (moved worker objects waits s)).replies worker []) ≡ length own_done + 1
      replied_count objects waits reply below = replied_more worker reply (moved worker objects waits s) (omega (arith, of.workers, below))

      module _ (limit : ℕ) where
        -- before another call of the worker
        elsewhere : Fits limit (turn_of plan worker s).0 → (length own_done == number) ≡ false → behind (turn_of plan worker s) (most limit) ≤ most limit s
        elsewhere fits apart = turn_cases (λ x. Fits limit x.0 → behind x (most limit) ≤ most limit s) plan worker s of (record {
          ended = λ is fits. omega arith;
          still = λ call objects waits takes fits. not_here call objects waits takes.next own_stand (live_started call takes.next);
          unfinished = λ call objects waits takes fits. not_here call objects waits takes.next own_stand (live_started call takes.next);
          completed = λ call objects waits reply takes is fits. replied call takes.next reply objects waits takes.below fits;
          closed = λ call objects waits reply takes is fits.
              not_here call objects waits takes.next (stand_of worker (with_stand worker Gone s)) (λ (waits : stand_of worker (with_stand worker Gone s) ≡ Waits). gone_waits (sym is_gone ∙ waits));
          misused = λ call objects waits misuse takes fits. omega arith;
        }) fits
          where
            not_here : (call : Call) (objects : List ObjectState) (waits : ℕ) → next_call plan worker s ≡ Some call → (so : Stand) → so ≢ Waits → most_by limit so own_done (begun_by worker (moved worker objects waits s)) objects ≤ most limit s
            not_here call objects waits next so started =
                omega (arith, most_apart limit own_stand so own_done (begun_by worker s) (begun_by worker (moved worker objects waits s)) s.objects objects (live_started call next) started apart)

            replied : (call : Call) → next_call plan worker s ≡ Some call → (reply : Reply (List ℕ)) (objects : List ObjectState) (waits : ℕ) → worker < plan.workers → Fits limit (answered worker call reply (moved worker objects waits s))
                → most limit (answered worker call reply (moved worker objects waits s)) ≤ most limit s
            replied call next reply objects waits below fits =
                let t = answered worker call reply (moved worker objects waits s) in
                elim (nat_lt (length own_done) number) as (λ b. nat_lt (length own_done) number ≡ b → most limit (answered worker call reply (moved worker objects waits s)) ≤ most limit s) [
                  | true ↦ λ e. omega (arith, most_before limit own_stand own_done (begun_by worker s) s.objects (ltb-true (length own_done) number e), most_fits limit t fits)
                  | false ↦ λ e.
                      omega (arith, most_past limit (stand_of worker t) (get_or t.replies worker []) (begun_by worker t) objects (still_live (started_by call.operation) call next) (omega (arith, replied_count objects waits reply below, past e)))
                ] refl
              where
                past : nat_lt (length own_done) number ≡ false → number < length own_done
                past e = elim (nat_lt number (length own_done)) as (λ b. nat_lt number (length own_done) ≡ b → number < length own_done) [
                  | true ↦ λ f. ltb-true number (length own_done) f
                  | false ↦ λ f. absurd (eqb-false (length own_done) number apart (omega (arith, ltb-false (length own_done) number e, ltb-false number (length own_done) f)))
                ] refl

        -- before this call
        here : (length own_done == number) ≡ true → advance (turn_of plan worker s).1 + behind (turn_of plan worker s) (most limit) ≤ most limit s
        here is = turn_cases (λ x. advance x.1 + behind x (most limit) ≤ most limit s) plan worker s of (record {
          ended = λ none. omega (arith, none_still (worker == worker) (stands_before worker number s) (not (goes_back (made_by plan worker s))));
          still = λ call objects waits takes. omega (
            arith,
            none_still (worker == worker) (stands_before worker number s) (not (goes_back (made_by plan worker s))),
            ap (most limit) (same plan worker s (moved worker objects waits s) of (turn_before plan worker s call objects waits answers.Still takes.next takes.turn)),
          );
          unfinished = λ call objects waits takes. unfinished (live_started call takes.next) (goes_back (made_by plan worker s)) objects waits refl (own_takes call objects waits answers.Unfinished takes);
          completed = λ call objects waits reply takes is.
              let t = answered worker call reply (moved worker objects waits s) in
              omega (
                arith,
                at,
                most_at limit own_stand own_done (begun_by worker s) s.objects (live_started call takes.next) at,
                some_left call takes.next,
                one_most ((worker == worker) && (stands_before worker number s && (true && not (goes_back (made_by plan worker s))))),
                most_past limit (stand_of worker t) (get_or t.replies worker []) (begun_by worker t) objects (still_live (started_by call.operation) call takes.next) (omega (arith, at, replied_count objects waits reply takes.below)),
              );
          closed = λ call objects waits reply takes is.
              let t = with_stand worker Gone (moved worker objects waits s) in
              let none : most limit t ≡ 0 =
              ap (λ (so : Stand). most_by limit so own_done (begun_by worker t) objects) is_gone ∙ most_at limit Gone own_done (begun_by worker t) objects gone_waits at in
              omega (
                arith,
                most_at limit own_stand own_done (begun_by worker s) s.objects (live_started call takes.next) at,
                some_left call takes.next,
                one_most ((worker == worker) && (stands_before worker number s && (true && not (goes_back (made_by plan worker s))))),
                none,
              );
          misused = λ call objects waits misuse takes. omega (
            arith,
            most_at limit own_stand own_done (begun_by worker s) s.objects (live_started call takes.next) at,
            some_left call takes.next,
            one_most ((worker == worker) && (stands_before worker number s && (true && not (goes_back (made_by plan worker s))))),
          );
        })
          where
            at : length own_done ≡ number
            at = eqb-true (length own_done) number is

            unfinished : own_stand ≢ Waits → (back : Bool) (objects : List ObjectState) (waits : ℕ) → goes_back (made_by plan worker s) ≡ back
                → TakesBy (goes_back (made_by plan worker s)) (left_by own_stand own_done (begun_by worker s) s.objects) (left_by own_stand own_done (begun_by worker (moved worker objects waits s)) objects) answers.Unfinished
                → advance steps.Made + most limit (moved worker objects waits s) ≤ most limit s
            unfinished started true objects waits e takes =
                let later = begun_by worker (moved worker objects waits s) in
                let less : left_by own_stand own_done later objects ≤ left_by own_stand own_done (begun_by worker s) s.objects = subst (λ (b : Bool). TakesBy b (left_by own_stand own_done (begun_by worker s) s.objects) (left_by own_stand own_done later objects) answers.Unfinished) e takes in
                omega (arith, less, most_at limit own_stand own_done (begun_by worker s) s.objects started at, most_at limit own_stand own_done later objects started at, none_back (worker == worker) (stands_before worker number s) true (goes_back (made_by plan worker s)) e)
            unfinished started false objects waits e takes =
                let later = begun_by worker (moved worker objects waits s) in
                let less : left_by own_stand own_done later objects < left_by own_stand own_done (begun_by worker s) s.objects = subst (λ (b : Bool). TakesBy b (left_by own_stand own_done (begun_by worker s) s.objects) (left_by own_stand own_done later objects) answers.Unfinished) e takes in
                omega (arith, less, most_at limit own_stand own_done (begun_by worker s) s.objects started at, most_at limit own_stand own_done later objects started at, one_most ((worker == worker) && (stands_before worker number s && (true && not (goes_back (made_by plan worker s))))))

        own_few : Fits limit (turn_of plan worker s).0 → advance (turn_of plan worker s).1 + behind (turn_of plan worker s) (most limit) ≤ most limit s
        own_few fits = elim (length own_done == number) as (λ b. (length own_done == number) ≡ b → advance (turn_of plan worker s).1 + behind (turn_of plan worker s) (most limit) ≤ most limit s) [
          | true ↦ λ e. here e
          | false ↦ λ e. omega (
            arith,
            none_second (worker == worker) (stands_before worker number s) (makes_event (turn_of plan worker s).1 && not (goes_back (made_by plan worker s))) e,
            elsewhere fits e,
          )
        ] refl

      -- whether it was told, by its own turn
      own_tells : (call : Call) (objects : List ObjectState) (waits : ℕ) (answer : Answer) → Takes plan worker s call objects waits answer → TellsOwn (goes_back (made_by plan worker s)) (told_by own_stand own_done s.objects) (told_by own_stand own_done objects)
      own_tells call objects waits answer takes =
          subst (λ (o : Option Call). TellsOwn (goes_back (option_map_or (λ call. items_within call worker s.moment (begun_by worker s) s.objects) o [])) (option_map_or (λ call. is_told (kinds_in plan) call worker s.objects) o false) (option_map_or (λ call. is_told (kinds_in plan) call worker objects) o false)) (sym takes.next)
          (subst (λ (ks : List ObjectKind). TellsOwn (goes_back (items_within call worker s.moment (begun_by worker s) s.objects)) (is_told ks call worker s.objects) (is_told ks call worker objects)) of.objects
          (takes_by (λ y. TellsOwn (goes_back (items_within call worker s.moment (begun_by worker s) s.objects)) (is_told (map kind_of s.objects) call worker s.objects) (is_told (map kind_of s.objects) call worker y.0.0)) plan worker s call objects waits answer of takes
          (λ r. laws.told_before plan.workers worker s.moment (begun_by worker s) call s.objects r)))

      abbrev returned : ℕ
      returned = one_if ((worker == worker) && (stands_before worker number s && goes_back (made_by plan worker s)))

      kept : (call : Call) (objects : List ObjectState) (waits : ℕ) (answer : Answer) → Takes plan worker s call objects waits answer → returned + told (moved worker objects waits s) ≤ told s
      kept call objects waits answer takes = own_told (worker == worker) (length own_done == number) (goes_back (made_by plan worker s)) (told_by own_stand own_done s.objects) (told_by own_stand own_done objects) (own_tells call objects waits answer takes)

      own_woken : ((call : Call) (objects : List ObjectState) (waits : ℕ) (reply : Reply (List ℕ)) → Takes plan worker s call objects waits (answers.Completed reply) → IsOutBut None worker objects) → returned + behind (turn_of plan worker s) told ≤ told s
      own_woken outs = turn_cases (λ x. returned + behind x told ≤ told s) plan worker s of (record {
        ended = λ none. own_told (worker == worker) (length own_done == number) (goes_back (made_by plan worker s)) (told_by own_stand own_done s.objects) (told_by own_stand own_done s.objects) (nothing none);
        still = λ call objects waits takes. kept call objects waits answers.Still takes;
        unfinished = λ call objects waits takes. kept call objects waits answers.Unfinished takes;
        completed = λ call objects waits reply takes is.
            let t = answered worker call reply (moved worker objects waits s) in
            let after = get_or t.replies worker [] in
            omega (
              arith,
              kept call objects waits (answers.Completed reply) takes,
              told_none (length after == number) (told_by (stand_of worker t) after objects) (out_everywhere objects (outs call objects waits reply takes) (stand_of worker t) after),
            );
        closed = λ call objects waits reply takes is.
            let t = with_stand worker Gone (moved worker objects waits s) in
            omega (
              arith,
              kept call objects waits (answers.Completed reply) takes,
              told_none (length own_done == number) (told_by (stand_of worker t) own_done objects) (out_everywhere objects (outs call objects waits reply takes) (stand_of worker t) own_done),
            );
        misused = λ call objects waits misuse takes. omega (arith, kept call objects waits (answers.Misused misuse) takes);
      })
        where
          nothing : next_call plan worker s ≡ None → TellsOwn (goes_back (made_by plan worker s)) (told_by own_stand own_done s.objects) (told_by own_stand own_done s.objects)
          nothing none = subst (λ (o : Option Call). TellsOwn (goes_back (option_map_or (λ call. items_within call worker s.moment (begun_by worker s) s.objects) o [])) (told_by own_stand own_done s.objects) (told_by own_stand own_done s.objects)) (sym none) (λ was. was)

    -- ---- any turn

    turn_few : StillSame → (limit by : ℕ) (s : State) → IsStateOf plan s → Fits limit (turn_of plan by s).0 → one_if (advances plan worker number by s) + behind (turn_of plan by s) (most limit) ≤ most limit s
    turn_few same limit by s of fits = elim (by == worker) as (λ b. (by == worker) ≡ b → one_if (advances plan worker number by s) + behind (turn_of plan by s) (most limit) ≤ most limit s) [
      | true ↦ λ e. let same_worker : worker ≡ by = sym (eqb-true by worker e) in
          subst (λ (w : ℕ). Fits limit (turn_of plan w s).0 → one_if (advances plan worker number w s) + behind (turn_of plan w s) (most limit) ≤ most limit s) same_worker (own_few same s of limit) fits
      | false ↦ λ e. omega (
        arith,
        none_by (by == worker) (stands_before worker number s && (makes_event (turn_of plan by s).1 && not (goes_back (made_by plan by s)))) e,
        other_few by s of (λ one. eqb-false by worker e (sym one)) limit fits,
      )
    ] refl

    turn_woken : TurnStands → StillSame → (by : ℕ) (s : State) → Standing plan s → one_if (requeues plan worker number by s) + behind (turn_of plan by s) told ≤ one_if (wakes plan worker number by s) + told s
    turn_woken stands same by s h = elim (by == worker) as (λ b. (by == worker) ≡ b → one_if (requeues plan worker number by s) + behind (turn_of plan by s) told ≤ one_if (wakes plan worker number by s) + told s) [
      | true ↦ λ e. let same_worker : worker ≡ by = sym (eqb-true by worker e) in
          subst (λ (w : ℕ). one_if (requeues plan worker number w s) + behind (turn_of plan w s) told ≤ one_if (wakes plan worker number w s) + told s) same_worker
          (omega (arith, own_woken same s h.of (λ call objects waits reply takes. own_at stands plan worker s h call objects waits (answers.Completed reply) takes)))
      | false ↦ λ e. omega (
        arith,
        none_by (by == worker) (stands_before worker number s && goes_back (made_by plan by s)) e,
        other_woken by s h.of (λ one. eqb-false by worker e (sym one)) (λ call objects waits reply takes waiting. waiting_out stands plan by s h worker call objects waits (answers.Completed reply) (λ one. eqb-false by worker e (sym one)) takes waiting),
      )
    ] refl

    -- ---- turns in order

    behind_sum : (x : State × Step) (f g h : State → ℕ) → f x.0 ≤ g x.0 + h x.0 → behind x f ≤ behind x g + behind x h
    behind_sum (s, steps.Still) f g h less = less
    behind_sum (s, steps.Made) f g h less = less
    behind_sum (s, steps.Misused misuse) f g h less = omega arith

    -- no more is left of the call than it may take, by what the worker has met at last
    abbrev limit_at : State → ℕ
    limit_at s = most_turns_for plan worker number s

    fits_later : GoesFurther → GoesOn plan → (list : List Turn) (s : State) → IsStateOf plan s → Fits (limit_at (after_items plan list s)) s
    fits_later further goes list s of at = by_next (next_call plan worker s) refl
      where
        by_next : (o : Option Call) → next_call plan worker s ≡ o → left_by (stand_of worker s) (get_or s.replies worker []) (begun_by worker s) s.objects ≤ limit_at (after_items plan list s)
        by_next None none = omega (arith, ap (λ (o : Option Call). option_map_or (λ call. turns_within (kinds_in plan) call worker s.objects (begun_by worker s)) o 0) none)
        by_next (Some call) some =
            let most_left : turns_within (kinds_in plan) call worker s.objects (begun_by worker s) ≤ most_turns call.operation =
            subst (λ (ks : List ObjectKind). turns_within ks call worker s.objects (begun_by worker s) ≤ most_turns call.operation) of.objects (laws.most worker (begun_by worker s) call s.objects (few_begun plan worker s call of some)) in
            omega (
              arith,
              most_left,
              ap (λ (o : Option Call). option_map_or (λ call. turns_within (kinds_in plan) call worker s.objects (begun_by worker s)) o 0) some,
              met_later further plan worker number call goes list s of (meets_next plan worker number s call of at some),
            )

    -- what follows a turn, unless that was a misuse
    fits_behind : GoesFurther → GoesOn plan → (rest : List Turn) (x : State × Step) → IsStateOf plan x.0 → Fits (limit_at (and_then x (items_of plan rest)).0) x.0
    fits_behind further goes rest (t, steps.Still) of = fits_later further goes rest t of
    fits_behind further goes rest (t, steps.Made) of = subst (λ (u : State). Fits (limit_at u) t) (sym (event_state (items_of plan rest t))) (fits_later further goes rest t of)
    fits_behind further goes rest (t, steps.Misused misuse) of = fits_later further goes [] t of

    few_behind : (rest : List Turn) (x : State × Step) → ((t : State) → IsStateOf plan t → count_turns plan (advances plan worker number) rest t ≤ most (limit_at (after_items plan rest t)) t) → IsStateOf plan x.0
        → behind x (count_turns plan (advances plan worker number) rest) ≤ behind x (most (limit_at (and_then x (items_of plan rest)).0))
    few_behind rest (t, steps.Still) later of = later t of
    few_behind rest (t, steps.Made) later of = subst (λ (u : State). count_turns plan (advances plan worker number) rest t ≤ most (limit_at u) t) (sym (event_state (items_of plan rest t))) (later t of)
    few_behind rest (t, steps.Misused misuse) later of = omega arith

    few_turns : GoesFurther → StillSame → GoesOn plan → (list : List Turn) (s : State) → IsStateOf plan s → count_turns plan (advances plan worker number) list s ≤ most (limit_at (after_items plan list s)) s
    few_turns further same goes [] s of = omega arith
    few_turns further same goes (items.Worker by ∷ rest) s of =
        let x = turn_of plan by s in
        let limit = limit_at (and_then x (items_of plan rest)).0 in
        omega (arith, turn_few same limit by s of (fits_behind further goes rest x (goes by s of)), few_behind rest x (few_turns further same goes rest) (goes by s of))
    few_turns further same goes (items.Moment moment ∷ rest) s of = few_turns further same goes rest (with_moment moment s) (moment_valid plan moment s of)

    woken_turns : TurnStands → StillSame → Kept plan (Standing plan) → (list : List Turn) (s : State) → Standing plan s → count_turns plan (requeues plan worker number) list s ≤ count_turns plan (wakes plan worker number) list s + told s
    woken_turns stands same keeps [] s h = omega arith
    woken_turns stands same keeps (items.Worker by ∷ rest) s h = omega (
      arith,
      turn_woken stands same by s h,
      behind_sum (turn_of plan by s) (count_turns plan (requeues plan worker number) rest) (count_turns plan (wakes plan worker number) rest) told (woken_turns stands same keeps rest (turn_of plan by s).0 (keeps.turn by s h)),
    )
    woken_turns stands same keeps (items.Moment moment ∷ rest) s h = woken_turns stands same keeps rest (with_moment moment s) (keeps.moment moment s h)

    -- ---- from the start on

    pub few_from_start : GoesFurther → StillSame → GoesOn plan → IsStateOf plan (start plan) → (list : List Turn) → count_turns plan (advances plan worker number) list (start plan) ≤ most_turns_for plan worker number (after_items plan list (start plan))
    few_from_start further same goes of list =
        let limit = limit_at (after_items plan list (start plan)) in
        omega (arith, few_turns further same goes list (start plan) of, most_fits limit (start plan) (fits_later further goes list (start plan) of))

    pub plain_from_start : GoesFurther → StillSame → GoesOn plan → IsStateOf plan (start plan) → (list : List Turn) (call : Call) → slice_get (calls_met plan worker (after_items plan list (start plan))) number ≡ Some call → tries_of call.operation ≡ 0
        → count_turns plan (advances plan worker number) list (start plan) ≤ 4
    plain_from_start further same goes of list call met none = omega (
      arith,
      few_from_start further same goes of list,
      ap (λ (o : Option Call). option_map_or (λ (call : Call). most_turns call.operation) o 0) met,
      four_at_most call.operation none,
    )

    pub woken_from_start : TurnStands → StillSame → GoesOn plan → IsStateOf plan (start plan) → (list : List Turn) → count_turns plan (requeues plan worker number) list (start plan) ≤ count_turns plan (wakes plan worker number) list (start plan)
    woken_from_start stands same goes of list =
        let h = start_stands stands plan of in
        omega (
          arith,
          woken_turns stands same (standing_kept stands plan goes) list (start plan) h,
          told_none (length (get_or (start plan).replies worker []) == number) (told_by (stand_of worker (start plan)) (get_or (start plan).replies worker []) (start plan).objects)
              (out_everywhere (start plan).objects (each_start (λ place object. (None ≡ Some place → ⊥) → IsOutAt worker object) plan (λ place kind ne. stands.begins worker plan.workers (puts_at place plan.scripts) (keys_in plan.scripts) kind)) (stand_of worker (start plan)) (get_or (start plan).replies worker [])),
        )
