-- A worker's own turn spells what was left of its `waitfor`.
use Rattle.std.proofs.Common.{◌≡◌, ℕ, zero, suc, ◌+◌, ◌-◌, Bool, true, false, List, [], ◌∷◌, ◌++◌, map, length, Option, Some, None, refl, sym, ap, ◌∙◌, subst, arith, append-nil, append_assoc}
use Rattle.std.specs.Prelude.{nat_le, Ok, Err, slice_get}
use Rattle.std.specs.Option.{option_map_or}
use Rattle.std.proofs.lemmas.Bool.{leb-true, leb-false}
use Rattle.sync_model.specs.declared.answer.Answer.TheVariants.{Done}
use Rattle.sync_model.specs.declared.item.SharedCall.TheVariants as calls
use Rattle.sync_model.specs.declared.item.SharedReply.TheVariants as shared
use Rattle.sync_types.specs.SequentialAtomic.{is_same}
use Rattle.sync_types.specs.declared.atomic_object.AtomicCall.TheVariants.{Load}
use Rattle.sync_types.specs.declared.atomic_object.AtomicReply.TheVariants.{Held}
use Rattle.sync_types.specs.declared.atomic_object.Number.{Number}
use Rattle.script_calls.specs.declared.call.Call.{Call}
use Rattle.script_calls.specs.declared.call.ComposedCall.TheVariants.{WaitFor}
use Rattle.script_calls.specs.declared.call.Operation.TheVariants as operations
use Rattle.script_calls.specs.declared.call.Reply.{Reply}
use Rattle.script_calls.specs.declared.call.Reply.TheVariants as replies
use Rattle.protocols.specs.Spelling.{CallAnswer}
use Rattle.run_record.specs.CondKind.{wait_part}
use Rattle.run_record.specs.Objects.{atomic_number}
use Rattle.run_record.specs.Parts.{Part, and_then, read_as}
use Rattle.run_record.specs.Record.{object_number, shared_in}
use Rattle.run_record.specs.Tests.{tests, compared, waits_for}
use Rattle.run_record.specs.declared.made.Made.{Made}
use Rattle.workload.specs.Draft.{all_keys, is_access_operation}
use Rattle.workload.specs.Plan.{Plan}
use Rattle.step_runner.specs.declared.turns.answer.Answer.{Answer}
use Rattle.step_runner.specs.declared.turns.answer.Answer.TheVariants as answers
use Rattle.step_runner.specs.declared.turns.object_state.ObjectState.{ObjectState}
use Rattle.step_runner.specs.declared.turns.object_state.ObjectState.TheVariants as states
use Rattle.step_runner.specs.declared.turns.item.Item.{Item}
use Rattle.step_runner.specs.Items.{items_at}
use Rattle.step_runner.specs.Left.{left_at}
use Rattle.step_runner.specs.MachinesStand.{MutexStands}
use Rattle.step_runner.specs.MapKeys.{HasObjectKeysIn}
use Rattle.step_runner.specs.Objects.{kind_of, EachAt}
use Rattle.step_runner.specs.Ready.{IsReady}
use Rattle.step_runner.specs.Recorded.{recorded_reply, made_shared, recorded}
use Rattle.step_runner.specs.Stands.{IsOutBut, waits_at, waits_behind}
use Rattle.step_runner.specs.StandsWithin.{IsReadyWithin, waits_within, IsWithinCall, StandsAfter, left_within}
use Rattle.step_runner.specs.Tells.{Tells}
use Rattle.step_runner.specs.TurnAtObjects.{turn_at}
use Rattle.step_runner.specs.TurnWithin.{
  wait_on,
  load_of,
  holds,
  is_met,
  Taken,
  begin_wait,
  unless_last,
  unless_met,
  look,
  behind_wait,
  wait_for_turn,
  unless_last_items,
  unless_met_items,
  look_items,
  behind_wait_items,
  wait_for_items,
}
use Rattle.step_runner.specs.Within.{IsIdle, IsWithin, StandsBehind}
use Rattle.step_runner.proofs.PlacedSpelled.{places}
use Rattle.step_runner.proofs.SpeltAtObjects.{items_alone}
use Rattle.step_runner.proofs.SpeltLines.{recorded-append}
use Rattle.step_runner.proofs.WaitBegins.{atomic_there, WaitAt, wait_there, wait_kept, left_any, left_whole, within_whole, waited_then, left_unbegun, left_begun, IsBegun, begins}

-- ---- a wait, and what comes behind it

-- an event was made
abbrev pub IsEvent : Answer → Type 0
IsEvent answers.Still = ⊥
IsEvent answers.Unfinished = Unit {0}
IsEvent (answers.Completed reply) = Unit {0}
IsEvent (answers.Misused misuse) = Unit {0}

-- the call hasn't returned
abbrev pub HasNotReturned : Answer → Type 0
HasNotReturned (answers.Completed reply) = ⊥
HasNotReturned answer = Unit {0}

begun_not_returned : (a : Answer) → IsBegun a → HasNotReturned a
begun_not_returned answers.Still is = tt
begun_not_returned answers.Unfinished is = tt
begun_not_returned (answers.Completed reply) is = is
begun_not_returned (answers.Misused misuse) is = tt

module _ (plan : Plan) where
  -- more in front
  in_front : (old after new : Part (Reply ℕ)) (earlier made : List Made) (a : Answer) → ((items : List Made) (answer : CallAnswer (Reply ℕ)) → after items answer → old (earlier ++ items) answer) → IsEvent a
      → Tells plan after new made a → Tells plan old new (earlier ++ made) a
  in_front old after new earlier made answers.Still on is told = absurd is
  in_front old after new earlier made answers.Unfinished on is told =
      λ later answer left. subst (λ (l : List Made). old l answer) (sym (append_assoc earlier made later)) (on (made ++ later) answer (told later answer left))
  in_front old after new earlier made (answers.Completed reply) on is told = on made (Done (Ok (recorded_reply plan reply))) told
  in_front old after new earlier made (answers.Misused misuse) on is told = on made (Done (Err misuse)) told

  -- what comes behind a part comes behind what its first items leave
  pub goes_on : {P : Type 0} (old new : Part (Reply ℕ)) (next : Reply ℕ → Part P) (made later : List Made) (answer : CallAnswer P) → Tells plan old new made answers.Unfinished → and_then new next later answer → and_then old next (made ++ later) answer
  goes_on old new next made later answer tells (earlier, rest, mid, is, spelt, behind) =
      (made ++ earlier, rest, mid, ap (λ (l : List Made). made ++ l) is ∙ sym (append_assoc made earlier rest), tells earlier mid spelt, behind)

  module _ (old new : Part (Reply ℕ)) (next : Part Bool) where
    wait_goes_on : (made later : List Made) (answer : CallAnswer (Reply ℕ)) → Tells plan old new made answers.Unfinished → waited_then new next later answer → waited_then old next (made ++ later) answer
    wait_goes_on made later answer tells (given, spelt, same) = (given, goes_on old new (λ waited. next) made later given tells spelt, same)

    -- what the items of a wait's turn are of the wait, they are of the call, as long as the wait hasn't returned
    wait_tells : (made : List Made) (a : Answer) → HasNotReturned a → Tells plan old new made a → Tells plan (waited_then old next) (waited_then new next) made a
    wait_tells made answers.Still is tells = tells
    wait_tells made answers.Unfinished is tells = λ later answer left. wait_goes_on made later answer tells left
    wait_tells made (answers.Completed reply) is tells = absurd is
    wait_tells made (answers.Misused misuse) is tells = (Done (Err misuse), (made, [], Done (Err misuse), sym (append-nil made), tells, (refl, refl)), refl)

    -- behind a wait that has returned comes the rest
    wait_returned : (made items : List Made) (reply : Reply (List ℕ)) (answer : CallAnswer (Reply ℕ)) → Tells plan old new made (answers.Completed reply) → read_as compared next items answer → waited_then old next (made ++ items) answer
    wait_returned made items reply answer tells (given, spelt, same) = (given, (made, items, Done (Ok (recorded_reply plan reply)), refl, tells, spelt), same)

-- ---- what the laws of one turn say

pub record TurnLaws : Type 0 where
  pub mutexes : MutexStands
  pub ready : (workers worker moment other : ℕ) (call own : Call) (objects : List ObjectState) → IsReady workers worker call objects → IsReady workers other own objects → IsReady workers other own (turn_at call worker moment objects).0
  pub kinds : (workers worker moment : ℕ) (call : Call) (objects : List ObjectState) → IsReady workers worker call objects → map kind_of (turn_at call worker moment objects).0 ≡ map kind_of objects
  pub keys : (names : List (List ℕ)) (worker moment place : ℕ) (objects : List ObjectState) → EachAt (λ k. HasObjectKeysIn names) objects → EachAt (λ k. HasObjectKeysIn names) (turn_at (wait_on place) worker moment objects).0
  pub out : (workers worker moment : ℕ) (call : Call) (objects : List ObjectState) → IsReady workers worker call objects → IsOutBut (waits_at (map kind_of objects) call) worker objects
      → IsOutBut (waits_behind (turn_at call worker moment objects).1 (waits_at (map kind_of objects) call)) worker (turn_at call worker moment objects).0
  pub own : (plan : Plan) (worker before moment : ℕ) (call : Call) (objects : List ObjectState) → IsReady plan.workers worker call objects → is_access_operation call.operation ≡ false → EachAt (λ k. HasObjectKeysIn (all_keys plan.scripts)) objects
      → IsOutBut (waits_at (map kind_of objects) call) worker objects → IsWithin worker call objects
      → Tells plan (left_at plan worker before call objects) (left_at plan worker (before + length (shared_in (recorded plan before (items_at call worker moment objects)))) call (turn_at call worker moment objects).0)
      (recorded plan before (items_at call worker moment objects)) (turn_at call worker moment objects).1
      × StandsBehind worker call (turn_at call worker moment objects).1 (turn_at call worker moment objects).0

-- ---- a turn of a `waitfor`

module _ (laws : TurnLaws) (plan : Plan) (worker moment place atomic tries : ℕ) (value : Number) where
  abbrev wait : Call
  wait = wait_on place

  abbrev call : Call
  call = record { object = place; operation = operations.Composed (WaitFor atomic value tries) }

  -- what is left behind a wait, with so many more
  abbrev rest : ℕ → ℕ → Part Bool
  rest mutex more = waits_for (object_number place) (object_number mutex) (atomic_number plan.objects atomic) value more

  abbrev Keyed : List ObjectState → Type 0
  Keyed objects = EachAt (λ k. HasObjectKeysIn (all_keys plan.scripts)) objects

  abbrev Idle : List ObjectState → Type 0
  Idle objects = EachAt (λ k. IsIdle worker) objects

  -- what a turn tells, and where it leaves the worker
  abbrev Told : Part (Reply ℕ) → List Made → ℕ → Taken → Type 0
  Told old made later taken = Tells plan old (left_within plan worker later call taken.0.0 taken.0.1) made taken.1 × StandsAfter worker call taken.1 taken.0.1 taken.0.0

  -- a load of the atomic in a record
  abbrev load : Number → Made
  load number = made_shared plan (calls.Atomic (atomic_number plan.objects atomic) Load, shared.Atomic (Held number))

  test : (number : Number) → tests (atomic_number plan.objects atomic) value (load number ∷ []) (Done (Ok (is_same number value)))
  test number = (Done (Ok (replies.Atomic (Held number))), (Held number, places plan ((calls.Atomic (atomic_number plan.objects atomic) Load, shared.Atomic (Held number)) ∷ []), refl), refl)

  -- a load that found the number is all
  met_all : (mutex more : ℕ) (made : List Made) → tests (atomic_number plan.objects atomic) value made (Done (Ok true)) → rest mutex more made (Done (Ok true))
  met_all mutex zero made is = is
  met_all mutex (suc more) made is = (made, [], Done (Ok true), sym (append-nil made), is, (refl, refl))

  -- behind one that didn't, a wait
  unmet_then : (mutex more : ℕ) (number : Number) → is_same number value ≡ false → (items : List Made) (answer : CallAnswer (Reply ℕ)) → waited_then (wait_part (object_number place) (object_number mutex)) (rest mutex more) items answer
      → read_as compared (rest mutex (suc more)) (load number ∷ items) answer
  unmet_then mutex more number unmet items answer (given, spelt, same) =
      (given, (load number ∷ [], items, Done (Ok false), refl, subst (λ (b : Bool). tests (atomic_number plan.objects atomic) value (load number ∷ []) (Done (Ok b))) unmet (test number), spelt), same)

  left_began : (later begun mutex : ℕ) (objects : List ObjectState) → WaitAt plan.workers worker place mutex objects
      → left_within plan worker later call objects (suc begun) ≡ waited_then (left_at plan worker later wait objects) (rest mutex (tries - suc begun))
  left_began later begun mutex objects w = left_begun plan plan.workers worker later place mutex objects w atomic tries value begun

  -- a wait that begins
  began_told : (old : Part (Reply ℕ)) (made : List Made) (later begun : ℕ) (step : List ObjectState × Answer) → IsBegun step.1 → Tells plan old (left_within plan worker later call step.0 (begun + 1)) made step.1 → StandsBehind worker wait step.1 step.0
      → IsEvent (begin_wait begun step).1 × Told old made later (begin_wait begun step)
  began_told old made later begun (objects, answers.Still) is tells stands = absurd is
  began_told old made later begun (objects, answers.Unfinished) is tells stands =
      let next : suc begun ≡ begun + 1 = omega arith in
      (tt, (tells, subst (λ (n : ℕ). IsWithinCall worker call n objects) next stands))
  began_told old made later begun (objects, answers.Completed reply) is tells stands = absurd is
  began_told old made later begun (objects, answers.Misused misuse) is tells stands = (tt, (tells, tt))

  -- ---- a load, and what comes behind it in the same turn

  module _ (before later begun mutex : ℕ) (objects : List ObjectState) (w : WaitAt plan.workers worker place mutex objects) (number : Number) (there : slice_get objects atomic ≡ Some (states.Atomic number))
      (ready : IsReady plan.workers worker wait objects) (keys : Keyed objects) (idle : Idle objects) (out : IsOutBut None worker objects) where
    abbrev counted : ℕ
    counted = before + length (shared_in (load number ∷ []))

    abbrev whole : Part (Reply ℕ)
    whole = read_as compared (rest mutex (tries - begun))

    abbrev Looked : List Made → Taken → Type 0
    Looked made taken = IsEvent taken.1 × Told whole made later taken

    begins_told : nat_le tries begun ≡ false → is_same number value ≡ false
        → Looked (load number ∷ recorded plan counted (items_at wait worker moment objects)) (begin_wait begun (turn_at wait worker moment objects))
    begins_told more unmet =
        let step = turn_at wait worker moment objects in
        let made = recorded plan counted (items_at wait worker moment objects) in
        let left = tries - suc begun in
        let same : suc left ≡ tries - begun = omega (arith, leb-false tries begun more) in
        let next : begun + 1 ≡ suc begun = omega arith in
        let is = begins laws.mutexes plan plan.workers worker moment place mutex objects w idle out in
        let own = laws.own plan worker counted moment wait objects ready refl keys (λ k o at far. out k o at (λ e. cc)) (within_whole plan plan.workers worker place mutex objects w idle out) in
        let n = wait_kept plan.workers worker place mutex objects step.0 w (laws.kinds plan.workers worker moment wait objects ready) (laws.ready plan.workers worker moment worker wait wait objects ready ready) in
        let of_wait : Tells plan (left_at plan worker counted wait objects) (left_at plan worker later wait step.0) made step.1 =
        subst (λ (new : Part (Reply ℕ)). Tells plan (left_at plan worker counted wait objects) new made step.1) (left_any plan plan.workers worker place mutex step.0 n (counted + length (shared_in made)) later) own.0 in
        let of_call = wait_tells plan (left_at plan worker counted wait objects) (left_at plan worker later wait step.0) (rest mutex left) made step.1 (begun_not_returned step.1 is) of_wait in
        let of_whole = subst (λ (old : Part (Reply ℕ)). Tells plan (waited_then old (rest mutex left)) (waited_then (left_at plan worker later wait step.0) (rest mutex left)) made step.1)
        (left_whole plan plan.workers worker place mutex objects w idle out counted) of_call in
        let after = waited_then (wait_part (object_number place) (object_number mutex)) (rest mutex left) in
        let tells = subst (λ (new : Part (Reply ℕ)). Tells plan after new made step.1) (sym (ap (left_within plan worker later call step.0) next ∙ left_began later begun mutex step.0 n)) of_whole in
        let told = began_told after made later begun step is tells own.1 in
        let taken = begin_wait begun step in (
          told.0,
          (
            in_front plan whole after (left_within plan worker later call taken.0.0 taken.0.1) (load number ∷ []) made taken.1
                (λ items answer spelt. subst (λ (k : ℕ). read_as compared (rest mutex k) (load number ∷ items) answer) same (unmet_then mutex left number unmet items answer spelt)) told.0 told.1.0,
            told.1.1,
          ),
        )

    last_told : (last : Bool) → nat_le tries begun ≡ last → is_same number value ≡ false
        → Looked (load number ∷ recorded plan counted (unless_last_items worker moment place atomic value tries last objects)) (unless_last worker moment place atomic value tries last begun objects)
    last_told true is unmet =
        let none : 0 ≡ tries - begun = omega (arith, leb-true tries begun is) in (
          tt,
          (
            subst (λ (k : ℕ). read_as compared (rest mutex k) (load number ∷ []) (Done (Ok (compared false)))) none
                (Done (Ok false), subst (λ (b : Bool). tests (atomic_number plan.objects atomic) value (load number ∷ []) (Done (Ok b))) unmet (test number), refl),
            idle,
          ),
        )
    last_told false is unmet = begins_told is unmet

    met_told : (met : Bool) → is_same number value ≡ met
        → Looked (load number ∷ recorded plan counted (unless_met_items worker moment place atomic value tries met begun objects)) (unless_met worker moment place atomic value tries met begun objects)
    met_told true is =
        (tt, ((Done (Ok true), met_all mutex (tries - begun) (load number ∷ []) (subst (λ (b : Bool). tests (atomic_number plan.objects atomic) value (load number ∷ []) (Done (Ok b))) is (test number)), refl), idle))
    met_told false is = last_told (nat_le tries begun) refl is

    look_told : Looked (recorded plan before (look_items worker moment place atomic value tries begun objects)) (look worker moment place atomic value tries begun objects)
    look_told =
        let found : is_met atomic value objects ≡ is_same number value = ap (λ (o : Option ObjectState). option_map_or (holds value) o false) there in
        let loads = items_alone (load_of atomic) worker moment objects (states.Atomic number) there refl in
        subst (λ (met : Bool). Looked (recorded plan before (items_at (load_of atomic) worker moment objects ++ unless_met_items worker moment place atomic value tries met begun objects)) (unless_met worker moment place atomic value tries met begun objects))
        (sym found)
        (subst (λ (made : List Item). Looked (recorded plan before (made ++ unless_met_items worker moment place atomic value tries (is_same number value) begun objects)) (unless_met worker moment place atomic value tries (is_same number value) begun objects))
        (sym loads) (met_told (is_same number value) refl))

  -- ---- a turn of a wait, and what comes behind it

  module _ (before later begun mutex : ℕ) (objects : List ObjectState) (made : List Item) where
    abbrev old_within : Part (Reply ℕ)
    old_within = waited_then (left_at plan worker before wait objects) (rest mutex (tries - suc begun))

    within_told : (step : List ObjectState × Answer) → WaitAt plan.workers worker place mutex step.0 → (number : Number) → slice_get step.0 atomic ≡ Some (states.Atomic number) → IsReady plan.workers worker wait step.0 → Keyed step.0
        → IsOutBut (waits_behind step.1 (waits_at (map kind_of objects) wait)) worker step.0
        → ((k : ℕ) → Tells plan (left_at plan worker before wait objects) (left_at plan worker k wait step.0) (recorded plan before made) step.1) → StandsBehind worker wait step.1 step.0
        → Told old_within (recorded plan before (made ++ behind_wait_items worker moment place atomic value tries (suc begun) step)) later (behind_wait worker moment place atomic value tries (suc begun) step)
    within_told (new, answers.Still) w number there ready keys out tells stands = (ap (recorded plan before) (append-nil made) ∙ tells later, stands)
    within_told (new, answers.Unfinished) w number there ready keys out tells stands = (
      subst (λ (l : List Item). Tells plan old_within (left_within plan worker later call new (suc begun)) (recorded plan before l) answers.Unfinished) (sym (append-nil made))
          (subst (λ (left : Part (Reply ℕ)). Tells plan old_within left (recorded plan before made) answers.Unfinished) (sym (left_began later begun mutex new w))
          (wait_tells plan (left_at plan worker before wait objects) (left_at plan worker later wait new) (rest mutex (tries - suc begun)) (recorded plan before made) answers.Unfinished tt (tells later))),
      stands,
    )
    within_told (new, answers.Misused misuse) w number there ready keys out tells stands = (
      subst (λ (l : List Item). Tells plan old_within (left_within plan worker later call new (suc begun)) (recorded plan before l) (answers.Misused misuse)) (sym (append-nil made))
          (wait_tells plan (left_at plan worker before wait objects) (left_at plan worker later wait new) (rest mutex (tries - suc begun)) (recorded plan before made) (answers.Misused misuse) tt (tells later)),
      tt,
    )
    within_told (new, answers.Completed reply) w number there ready keys out tells stands =
        let first = recorded plan before made in
        let looked = look_items worker moment place atomic value tries (suc begun) new in
        let taken = look worker moment place atomic value tries (suc begun) new in
        let now = before + length (shared_in first) in
        let told = look_told now later (suc begun) mutex new w number there ready keys stands out in
        let left = left_within plan worker later call taken.0.0 taken.0.1 in (
          subst (λ (l : List Made). Tells plan old_within left l taken.1) (sym (recorded-append plan before made looked))
              (in_front plan old_within (read_as compared (rest mutex (tries - suc begun))) left first (recorded plan now looked) taken.1
              (λ items answer spelt. wait_returned plan (left_at plan worker before wait objects) (left_at plan worker later wait new) (rest mutex (tries - suc begun)) first items reply answer (tells later) spelt) told.0 told.1.0),
          told.1.1,
        )

  pub own_within : (before later begun : ℕ) (objects : List ObjectState) → IsReadyWithin plan.workers worker call objects → Keyed objects → IsOutBut (waits_within (map kind_of objects) call begun) worker objects → IsWithinCall worker call begun objects
      → Told (left_within plan worker before call objects begun) (recorded plan before (wait_for_items worker moment place atomic value tries begun objects)) later (wait_for_turn worker moment place atomic value tries begun objects)
  own_within before later zero objects ready keys out idle =
      let w = wait_there plan.workers worker place objects ready.0 in
      let number = atomic_there plan.workers worker atomic objects ready.1 in
      let told = look_told before later zero w.0 objects w.1 number.0 number.1 ready.0 keys idle out in
      let taken = look worker moment place atomic value tries zero objects in
      let all : tries - zero ≡ tries = omega arith in
      let whole_is = left_unbegun plan plan.workers worker before place w.0 objects w.1 atomic tries value in (
        subst (λ (old : Part (Reply ℕ)). Tells plan old (left_within plan worker later call taken.0.0 taken.0.1) (recorded plan before (look_items worker moment place atomic value tries zero objects)) taken.1)
            (ap (λ (k : ℕ). read_as compared (rest w.0 k)) all ∙ sym whole_is) told.1.0,
        told.1.1,
      )
  own_within before later (suc begun) objects ready keys out within =
      let w = wait_there plan.workers worker place objects ready.0 in
      let step = turn_at wait worker moment objects in
      let made = items_at wait worker moment objects in
      let ready_on = laws.ready plan.workers worker moment worker wait wait objects ready.0 ready.0 in
      let n = wait_kept plan.workers worker place w.0 objects step.0 w.1 (laws.kinds plan.workers worker moment wait objects ready.0) ready_on in
      let number = atomic_there plan.workers worker atomic step.0 (laws.ready plan.workers worker moment worker wait (load_of atomic) objects ready.0 ready.1) in
      let own = laws.own plan worker before moment wait objects ready.0 refl keys out within in
      let tells : (k : ℕ) → Tells plan (left_at plan worker before wait objects) (left_at plan worker k wait step.0) (recorded plan before made) step.1 =
      λ k. subst (λ (new : Part (Reply ℕ)). Tells plan (left_at plan worker before wait objects) new (recorded plan before made) step.1)
      (left_any plan plan.workers worker place w.0 step.0 n (before + length (shared_in (recorded plan before made))) k) own.0 in
      let told = within_told before later begun w.0 objects made step n number.0 number.1 ready_on (laws.keys (all_keys plan.scripts) worker moment place objects keys)
      (laws.out plan.workers worker moment wait objects ready.0 out) tells own.1 in
      let taken = behind_wait worker moment place atomic value tries (suc begun) step in (
        subst (λ (old : Part (Reply ℕ)). Tells plan old (left_within plan worker later call taken.0.0 taken.0.1) (recorded plan before (made ++ behind_wait_items worker moment place atomic value tries (suc begun) step)) taken.1)
            (sym (left_began before begun w.0 objects w.1)) told.0,
        told.1,
      )
