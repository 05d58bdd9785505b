-- What a turn before a call or within it keeps of keys, of room in pools and of where workers wait, and what it answers.
use Rattle.std.proofs.Common.{◌≡◌, ℕ, ◌≤◌, Bool, true, false, ◌&&◌, ◌==◌, List, [], map, Option, None, refl, sym, ◌∙◌, subst, arith}
use Rattle.std.specs.Prelude.{if◌then◌else◌}
use Rattle.std.proofs.lemmas.Bool.{false≢true}
use Rattle.sync_types.specs.declared.atomic_object.Number.{Number}
use Rattle.script_calls.specs.declared.call.Call.{Call}
use Rattle.script_calls.specs.declared.call.ComposedCall.TheVariants.{WaitFor, Go}
use Rattle.script_calls.specs.declared.call.Operation.{Operation}
use Rattle.script_calls.specs.declared.call.Operation.TheVariants as operations
use Rattle.script_calls.specs.declared.call.Reply.TheVariants as replies
use Rattle.sync_types.specs.declared.wait_call.CondCall.TheVariants as cond_calls
use Rattle.workload.specs.Draft.{keys_of, distinct_count}
use Rattle.workload.specs.Puts.{is_put}
use Rattle.workload.specs.declared.object.ObjectKind.{ObjectKind}
use Rattle.step_runner.specs.declared.turns.answer.Answer.{Answer}
use Rattle.step_runner.specs.declared.turns.answer.Answer.TheVariants as answers
use Rattle.step_runner.specs.declared.turns.object_state.ObjectState.{ObjectState}
use Rattle.step_runner.specs.Completes.{takes_one_turn, IsCompleted}
use Rattle.step_runner.specs.declared.turns.item.Item.{Item}
use Rattle.step_runner.specs.MapKeys.{AreAmong, HasObjectKeysIn}
use Rattle.step_runner.specs.Objects.{kind_of, EachAt}
use Rattle.step_runner.specs.Pairs.{ShowsTo}
use Rattle.step_runner.specs.PoolRoom.{put_of, HasRoomFor, left_behind}
use Rattle.step_runner.specs.Ready.{IsReady}
use Rattle.step_runner.specs.ReplyForm.{HasForm}
use Rattle.step_runner.specs.Stands.{IsOutBut, waits_at, waits_behind}
use Rattle.step_runner.specs.StandsWithin.{ReadyBy, IsReadyWithin, waits_by, waits_within}
use Rattle.step_runner.specs.TurnAtObjects.{turn_at}
use Rattle.step_runner.specs.TurnWithin.{wait_on, add_one, Taken, begin_wait, wait_for_turn, turn_by_operation, turn_within}
use Rattle.step_runner.proofs.TurnsWithin.{Steps, takes, begun_objects, turns_keep}
use Rattle.step_runner.proofs.WithinLemmas.{Any, Both, Stays, both_stay, Kinds, begun_answer, begun_waits}

-- ---- keys

abbrev pub KeysLaw : Type 0
KeysLaw = (names : List (List ℕ)) (most worker moment : ℕ) (call : Call) (objects : List ObjectState) → AreAmong names (keys_of call) → distinct_count names ≤ most
    → EachAt (λ place. HasObjectKeysIn names) objects → EachAt (λ place. HasObjectKeysIn names) (turn_at call worker moment objects).0 × ShowsTo most (turn_at call worker moment objects).1

module _ (law : KeysLaw) (names : List (List ℕ)) (most worker moment : ℕ) (room : distinct_count names ≤ most) where
  abbrev Named : List ObjectState → Type 0
  Named objects = EachAt (λ place. HasObjectKeysIn names) objects

  abbrev Shown : ℕ → List ObjectState → List Item → Taken → Type 0
  Shown begun objects made taken = Named objects → Named taken.0.0 × ShowsTo most taken.1

  none_among : AreAmong names []
  none_among name is = absurd (false≢true is)

  module _ (cond atomic : ℕ) (value : Number) (tries : ℕ) where
    wait_keys : (objects : List ObjectState) → Named objects → Named (turn_at (wait_on cond) worker moment objects).0 × ShowsTo most (turn_at (wait_on cond) worker moment objects).1
    wait_keys objects named = law names most worker moment (wait_on cond) objects none_among room named

    key_steps : Steps worker moment cond atomic value tries Any Shown Shown
    key_steps = record {
      stays = λ objects before. tt;
      done = λ met begun objects before named. (named, refl);
      begins = λ begun objects before fewer named.
          let step = turn_at (wait_on cond) worker moment objects in
          (subst Named (sym (begun_objects begun step)) (wait_keys objects named).0, begun_answer (ShowsTo most) tt (λ misuse. tt) begun step);
      first = λ objects made taken before shown. shown;
      waits = λ begun objects before runs_on named. wait_keys objects named;
      returned = λ begun objects later taken before completed shown named. shown (wait_keys objects named).0;
    }

  by_keys : (operation : Operation) (call : Call) (begun : ℕ) (objects : List ObjectState) → AreAmong names (keys_of call) → Named objects
      → Named (turn_by_operation call worker moment begun objects operation).0.0 × ShowsTo most (turn_by_operation call worker moment begun objects operation).1
  by_keys (operations.Composed (WaitFor atomic value tries)) call begun objects among named = takes worker moment call.object atomic value tries Any Shown Shown (key_steps call.object atomic value tries) begun objects tt named
  by_keys (operations.Composed (Go started)) call begun objects among named = law names most worker moment (add_one call.object) objects none_among room named
  by_keys operation call begun objects among named = law names most worker moment call objects among room named

pub within_keys : KeysLaw → (names : List (List ℕ)) (most worker moment begun : ℕ) (call : Call) (objects : List ObjectState) → AreAmong names (keys_of call) → distinct_count names ≤ most → EachAt (λ place. HasObjectKeysIn names) objects
    → EachAt (λ place. HasObjectKeysIn names) (turn_within call worker moment begun objects).0.0 × ShowsTo most (turn_within call worker moment begun objects).1
within_keys law names most worker moment begun call objects among room named = by_keys law names most worker moment room call.operation call begun objects among named

-- ---- room

abbrev pub RoomLaw : Type 0
RoomLaw = (worker moment : ℕ) (left : ℕ → ℕ) (call : Call) (objects : List ObjectState) → put_of call.object call ≤ left call.object → EachAt (λ place. HasRoomFor (left place)) objects
    → EachAt (λ place. HasRoomFor (left_behind (turn_at call worker moment objects).1 (put_of place call) (left place))) (turn_at call worker moment objects).0

no_put : (place object : ℕ) (operation : Operation) → is_put operation ≡ false → put_of place (record { object = object; operation = operation }) ≡ 0
no_put place object operation none = by_place (object == place) (is_put operation) none
  where
    by_place : (here put : Bool) → put ≡ false → ◌≡◌ {A = ℕ} (if here && put then 1 else 0) 0
    by_place true true none = absurd (false≢true (sym none))
    by_place true false none = refl
    by_place false put none = refl

left_same : (a : Answer) (made left : ℕ) → made ≡ 0 → left_behind a made left ≡ left
left_same answers.Still made left none = refl
left_same answers.Unfinished made left none = refl
left_same (answers.Completed reply) made left none = omega (arith, none)
left_same (answers.Misused misuse) made left none = refl

module _ (law : RoomLaw) (worker moment : ℕ) (left : ℕ → ℕ) where
  abbrev Room : List ObjectState → Type 0
  Room objects = EachAt (λ place. HasRoomFor (left place)) objects

  -- a call that is no put leaves all room
  other_room : (call : Call) → ((k : ℕ) → put_of k call ≡ 0) → (objects : List ObjectState) → Room objects → Room (turn_at call worker moment objects).0
  other_room call none objects room place object at =
      let step = turn_at call worker moment objects in
      subst (λ (n : ℕ). HasRoomFor n object) (left_same step.1 (put_of place call) (left place) (none place)) (law worker moment left call objects (omega (arith, none call.object)) room place object at)

  wait_room : (cond : ℕ) (objects : List ObjectState) → Room objects → Room (turn_at (wait_on cond) worker moment objects).0
  wait_room cond = other_room (wait_on cond) (λ k. no_put k cond (operations.Cond cond_calls.Wait) refl)

  add_room : (group : ℕ) (objects : List ObjectState) → Room objects → Room (turn_at (add_one group) worker moment objects).0
  add_room group = other_room (add_one group) (λ k. no_put k group (add_one group).operation refl)

  by_room : (operation : Operation) (object begun : ℕ) (objects : List ObjectState) → let call : Call = record { object = object; operation = operation } in put_of object call ≤ left object → Room objects
      → EachAt (λ place. HasRoomFor (left_behind (turn_by_operation call worker moment begun objects operation).1 (put_of place call) (left place))) (turn_by_operation call worker moment begun objects operation).0.0
  by_room (operations.Composed (WaitFor atomic value tries)) object begun objects few room place o at =
      let taken = wait_for_turn worker moment object atomic value tries begun objects in
      subst (λ (n : ℕ). HasRoomFor n o) (sym (left_same taken.1 _ (left place) (no_put place object (operations.Composed (WaitFor atomic value tries)) refl)))
      (turns_keep worker moment object atomic value tries Room (wait_room object) begun objects room place o at)
  by_room (operations.Composed (Go started)) object begun objects few room place o at =
      subst (λ (n : ℕ). HasRoomFor n o) (sym (left_same (turn_at (add_one object) worker moment objects).1 _ (left place) (no_put place object (operations.Composed (Go started)) refl))) (add_room object objects room place o at)
  by_room operation object begun objects few room place o at = law worker moment left (record { object = object; operation = operation }) objects few room place o at

pub within_room : RoomLaw → (worker moment begun : ℕ) (left : ℕ → ℕ) (call : Call) (objects : List ObjectState) → put_of call.object call ≤ left call.object → EachAt (λ place. HasRoomFor (left place)) objects
    → EachAt (λ place. HasRoomFor (left_behind (turn_within call worker moment begun objects).1 (put_of place call) (left place))) (turn_within call worker moment begun objects).0.0
within_room law worker moment begun left call objects few room = by_room law worker moment left call.operation call.object begun objects few room

-- ---- where workers wait

abbrev pub OwnLaw : Type 0
OwnLaw = (workers worker moment : ℕ) (call : Call) (objects : List ObjectState) → IsReady workers worker call objects → IsOutBut (waits_at (map kind_of objects) call) worker objects
    → IsOutBut (waits_behind (turn_at call worker moment objects).1 (waits_at (map kind_of objects) call)) worker (turn_at call worker moment objects).0

-- one that is out everywhere is out but at any place
pub out_anywhere : (but : Option ℕ) (worker : ℕ) (objects : List ObjectState) → IsOutBut None worker objects → IsOutBut but worker objects
out_anywhere but worker objects out place object at ne = out place object at (λ e. cc)

completed_out : (a : Answer) (at : Option ℕ) (worker : ℕ) (objects : List ObjectState) → IsCompleted a → IsOutBut (waits_behind a at) worker objects → IsOutBut None worker objects
completed_out answers.Still at worker objects completed out = absurd completed
completed_out answers.Unfinished at worker objects completed out = absurd completed
completed_out (answers.Completed reply) at worker objects completed out = out
completed_out (answers.Misused misuse) at worker objects completed out = absurd completed

module _ (law : OwnLaw) (stays : Stays) (all : Kinds) (workers worker moment : ℕ) (kinds : List ObjectKind) (call : Call) where
  at_out : (own : Call) (objects : List ObjectState) → IsReady workers worker own objects → map kind_of objects ≡ kinds → IsOutBut (waits_at kinds own) worker objects
      → IsOutBut (waits_behind (turn_at own worker moment objects).1 (waits_at kinds own)) worker (turn_at own worker moment objects).0
  at_out own objects ready of =
      let step = turn_at own worker moment objects in
      subst (λ (ks : List ObjectKind). IsOutBut (waits_at ks own) worker objects → IsOutBut (waits_behind step.1 (waits_at ks own)) worker step.0) of (law workers worker moment own objects ready)

  module _ (atomic : ℕ) (value : Number) (tries : ℕ) where
    abbrev Waits : ℕ → Option ℕ
    Waits begun = waits_by kinds call (operations.Composed (WaitFor atomic value tries)) begun

    abbrev At : Option ℕ
    At = waits_at kinds (wait_on call.object)

    abbrev BothOf : List ObjectState → Type 0
    BothOf objects = Both workers worker call.object atomic objects × (map kind_of objects ≡ kinds)

    abbrev LookOut : ℕ → List ObjectState → List Item → Taken → Type 0
    LookOut begun objects made taken = IsOutBut None worker objects → IsOutBut (waits_behind taken.1 (Waits taken.0.1)) worker taken.0.0

    abbrev TurnOut : ℕ → List ObjectState → List Item → Taken → Type 0
    TurnOut begun objects made taken = IsOutBut (Waits begun) worker objects → IsOutBut (waits_behind taken.1 (Waits taken.0.1)) worker taken.0.0

    begun_out : (begun : ℕ) (step : List ObjectState × Answer) → IsOutBut (waits_behind step.1 At) worker step.0 → IsOutBut (waits_behind (begin_wait begun step).1 (Waits (begin_wait begun step).0.1)) worker (begin_wait begun step).0.0
    begun_out begun step out = subst (λ (n : ℕ). IsOutBut (waits_behind (begin_wait begun step).1 (Waits n)) worker (begin_wait begun step).0.0) (sym (begun_waits begun step)) (by_answer step out)
      where
        by_answer : (step : List ObjectState × Answer) → IsOutBut (waits_behind step.1 At) worker step.0 → IsOutBut (waits_behind (begin_wait begun step).1 At) worker (begin_wait begun step).0.0
        by_answer (objects, answers.Still) out = out
        by_answer (objects, answers.Unfinished) out = out
        by_answer (objects, answers.Completed reply) out = out_anywhere At worker objects out
        by_answer (objects, answers.Misused misuse) out = out

    wait_out : (objects : List ObjectState) → BothOf objects → IsOutBut At worker objects → IsOutBut (waits_behind (turn_at (wait_on call.object) worker moment objects).1 At) worker (turn_at (wait_on call.object) worker moment objects).0
    wait_out objects both = at_out (wait_on call.object) objects both.0.0 both.1

    out_steps : Steps worker moment call.object atomic value tries BothOf LookOut TurnOut
    out_steps = record {
      stays = λ objects both. (both_stay stays workers worker moment call.object atomic objects both.0, all workers worker moment (wait_on call.object) objects both.0.0 ∙ both.1);
      done = λ met begun objects both out. out;
      begins = λ begun objects both fewer out. begun_out begun (turn_at (wait_on call.object) worker moment objects) (wait_out objects both (out_anywhere At worker objects out));
      first = λ objects made taken both out. out;
      waits = λ begun objects both runs_on out. wait_out objects both out;
      returned = λ begun objects later taken both completed looks out.
          let step = turn_at (wait_on call.object) worker moment objects in
          looks (completed_out step.1 At worker step.0 completed (wait_out objects both out));
    }

  by_out : (operation : Operation) (begun : ℕ) (objects : List ObjectState) → ReadyBy workers worker call objects operation → map kind_of objects ≡ kinds → IsOutBut (waits_by kinds call operation begun) worker objects
      → IsOutBut (waits_behind (turn_by_operation call worker moment begun objects operation).1 (waits_by kinds call operation (turn_by_operation call worker moment begun objects operation).0.1)) worker
      (turn_by_operation call worker moment begun objects operation).0.0
  by_out (operations.Composed (WaitFor atomic value tries)) begun objects ready of out =
      takes worker moment call.object atomic value tries (BothOf atomic value tries) (LookOut atomic value tries) (TurnOut atomic value tries) (out_steps atomic value tries) begun objects (ready, of) out
  by_out (operations.Composed (Go started)) begun objects ready of out = at_out (add_one call.object) objects ready of out
  by_out operation begun objects ready of out = at_out call objects ready of out

pub within_out : OwnLaw → Stays → Kinds → (workers worker moment begun : ℕ) (call : Call) (objects : List ObjectState) → IsReadyWithin workers worker call objects → IsOutBut (waits_within (map kind_of objects) call begun) worker objects
    → IsOutBut (waits_behind (turn_within call worker moment begun objects).1 (waits_within (map kind_of objects) call (turn_within call worker moment begun objects).0.1)) worker (turn_within call worker moment begun objects).0.0
within_out law stays all workers worker moment begun call objects ready out = by_out law stays all workers worker moment (map kind_of objects) call call.operation begun objects ready refl out

-- ---- replies

module _ (worker moment cond atomic : ℕ) (value : Number) (tries : ℕ) where
  abbrev Formed : ℕ → List ObjectState → List Item → Taken → Type 0
  Formed begun objects made taken = HasForm (operations.Composed (WaitFor atomic value tries)) taken.1

  open_form : (a : Answer) → (IsCompleted a → ⊥) → HasForm (operations.Composed (WaitFor atomic value tries)) a
  open_form answers.Still runs_on = tt
  open_form answers.Unfinished runs_on = tt
  open_form (answers.Completed reply) runs_on = absurd (runs_on tt)
  open_form (answers.Misused misuse) runs_on = tt

  form_steps : Steps worker moment cond atomic value tries Any Formed Formed
  form_steps = record {
    stays = λ objects before. tt;
    done = λ met begun objects before. refl;
    begins = λ begun objects before fewer. begun_answer (HasForm (operations.Composed (WaitFor atomic value tries))) tt (λ misuse. tt) begun (turn_at (wait_on cond) worker moment objects);
    first = λ objects made taken before looks. looks;
    waits = λ begun objects before runs_on. open_form (turn_at (wait_on cond) worker moment objects).1 runs_on;
    returned = λ begun objects later taken before completed looks. looks;
  }

-- a `go` has the reply of its `add`
go_form : (group started : ℕ) (a : Answer) → HasForm (add_one group).operation a → HasForm (operations.Composed (Go started)) a
go_form group started answers.Still form = tt
go_form group started answers.Unfinished form = tt
go_form group started (answers.Completed replies.Returned) form = refl
go_form group started (answers.Completed reply) form = absurd (false≢true form)
go_form group started (answers.Misused misuse) form = tt

abbrev pub FormLaw : Type 0
FormLaw = (workers worker moment : ℕ) (call : Call) (objects : List ObjectState) → IsReady workers worker call objects → IsOutBut (waits_at (map kind_of objects) call) worker objects
    → HasForm call.operation (turn_at call worker moment objects).1

by_form : FormLaw → (operation : Operation) (workers worker moment object begun : ℕ) (objects : List ObjectState) → let call : Call = record { object = object; operation = operation } in ReadyBy workers worker call objects operation
    → IsOutBut (waits_by (map kind_of objects) call operation begun) worker objects → HasForm operation (turn_by_operation call worker moment begun objects operation).1
by_form law (operations.Composed (WaitFor atomic value tries)) workers worker moment object begun objects ready out =
    takes worker moment object atomic value tries Any (Formed worker moment object atomic value tries) (Formed worker moment object atomic value tries) (form_steps worker moment object atomic value tries) begun objects tt
by_form law (operations.Composed (Go started)) workers worker moment object begun objects ready out =
    go_form object started (turn_at (add_one object) worker moment objects).1 (law workers worker moment (add_one object) objects ready out)
by_form law operation workers worker moment object begun objects ready out = law workers worker moment (record { object = object; operation = operation }) objects ready out

pub within_form : FormLaw → (workers worker moment begun : ℕ) (call : Call) (objects : List ObjectState) → IsReadyWithin workers worker call objects → IsOutBut (waits_within (map kind_of objects) call begun) worker objects
    → HasForm call.operation (turn_within call worker moment begun objects).1
within_form law workers worker moment begun call objects ready out = by_form law call.operation workers worker moment call.object begun objects ready out

-- ---- calls that take one turn

abbrev pub CompletesLaw : Type 0
CompletesLaw = (workers worker moment : ℕ) (call : Call) (objects : List ObjectState) → takes_one_turn call.operation ≡ true → IsReady workers worker call objects → IsCompleted (turn_at call worker moment objects).1

by_completes : CompletesLaw → (operation : Operation) (workers worker moment object begun : ℕ) (objects : List ObjectState) → let call : Call = record { object = object; operation = operation } in takes_one_turn operation ≡ true
    → ReadyBy workers worker call objects operation → IsCompleted (turn_by_operation call worker moment begun objects operation).1
by_completes law (operations.Composed (WaitFor atomic value tries)) workers worker moment object begun objects one ready = absurd (false≢true one)
by_completes law (operations.Composed (Go started)) workers worker moment object begun objects one ready = absurd (false≢true one)
by_completes law operation workers worker moment object begun objects one ready = law workers worker moment (record { object = object; operation = operation }) objects one ready

pub within_completes : CompletesLaw → (workers worker moment begun : ℕ) (call : Call) (objects : List ObjectState) → takes_one_turn call.operation ≡ true → IsReadyWithin workers worker call objects → IsCompleted (turn_within call worker moment begun objects).1
within_completes law workers worker moment begun call objects one ready = by_completes law call.operation workers worker moment call.object begun objects one ready
