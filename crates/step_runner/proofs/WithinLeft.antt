-- How many turns are left behind a turn before a call or within it, and whom it tells to go on.
use Rattle.std.proofs.Common.{◌≡◌, ◌≢◌, ℕ, zero, suc, ◌+◌, ◌-◌, ◌*◌, ◌<◌, ◌≤◌, Bool, true, false, ◌||◌, List, ◌++◌, length, map, refl, sym, ap, ◌∙◌, subst, arith}
use Rattle.std.proofs.lemmas.Bool.{false≢true}
use Rattle.std.proofs.lemmas.List.{append-nil}
use Rattle.std.proofs.lemmas.List.Folds.{list_any-append}
use Rattle.sync_types.specs.declared.atomic_object.Number.{Number}
use Rattle.script_calls.specs.declared.call.Call.{Call}
use Rattle.script_calls.specs.declared.call.ComposedCall.TheVariants.{WaitFor, Go}
use Rattle.script_calls.specs.declared.call.Operation.{Operation}
use Rattle.script_calls.specs.declared.call.Operation.TheVariants as operations
use Rattle.workload.specs.Draft.{tries_of}
use Rattle.workload.specs.declared.object.ObjectKind.{ObjectKind}
use Rattle.step_runner.specs.declared.turns.answer.Answer.{Answer}
use Rattle.step_runner.specs.declared.turns.answer.Answer.TheVariants as answers
use Rattle.step_runner.specs.declared.turns.object_state.ObjectState.{ObjectState}
use Rattle.step_runner.specs.declared.turns.item.Item.{Item}
use Rattle.step_runner.specs.Items.{items_at, is_requeued, is_unlock, goes_back, unlocks}
use Rattle.step_runner.specs.Objects.{kind_of}
use Rattle.step_runner.specs.Ready.{IsReady}
use Rattle.step_runner.specs.StandsWithin.{ReadyBy, IsReadyWithin, most_turns, turns_by_operation, turns_within}
use Rattle.step_runner.specs.TurnAtObjects.{turn_at}
use Rattle.step_runner.specs.TurnWithin.{wait_on, add_one, Taken, begin_wait, turn_by_operation, turn_within, items_by_operation, items_within}
use Rattle.step_runner.specs.TurnsLeft.{turns_left, TakesBy, is_told, TellsOwn}
use Rattle.step_runner.proofs.GoTurns.{start_back}
use Rattle.step_runner.proofs.TurnsWithin.{Steps, takes, Leading, led}
use Rattle.step_runner.proofs.WithinLemmas.{Both, Stays, both_stay, Kinds, among, load_back, begun_waits}

-- ---- how many turns are left

abbrev pub MostLaw : Type 0
MostLaw = (worker : ℕ) (call : Call) (objects : List ObjectState) → turns_left (map kind_of objects) call worker objects ≤ 4

by_most : MostLaw → (operation : Operation) (worker begun : ℕ) (call : Call) (objects : List ObjectState) → begun ≤ tries_of operation → turns_by_operation (map kind_of objects) call worker objects operation begun ≤ most_turns operation
by_most law (operations.Composed (WaitFor atomic value tries)) worker zero call objects few = omega arith
by_most law (operations.Composed (WaitFor atomic value tries)) worker (suc begun) call objects few = omega (arith, few, law worker (wait_on call.object) objects)
by_most law (operations.Composed (Go started)) worker begun call objects few = law worker (add_one call.object) objects
by_most law operation worker begun call objects few = law worker call objects

pub within_most : MostLaw → (worker begun : ℕ) (call : Call) (objects : List ObjectState) → begun ≤ tries_of call.operation → turns_within (map kind_of objects) call worker objects begun ≤ most_turns call.operation
within_most law worker begun call objects few = by_most law call.operation worker begun call objects few

abbrev pub OthersLaw : Type 0
OthersLaw = (workers worker other moment : ℕ) (own call : Call) (objects : List ObjectState) → IsReady workers other call objects → worker ≢ other
    → turns_left (map kind_of objects) own worker (turn_at call other moment objects).0 ≤ turns_left (map kind_of objects) own worker objects

by_left : (operation : Operation) (kinds : List ObjectKind) (worker begun : ℕ) (own : Call) (old new : List ObjectState) → ((call : Call) → turns_left kinds call worker new ≤ turns_left kinds call worker old)
    → turns_by_operation kinds own worker new operation begun ≤ turns_by_operation kinds own worker old operation begun
by_left (operations.Composed (WaitFor atomic value tries)) kinds worker zero own old new fewer = omega arith
by_left (operations.Composed (WaitFor atomic value tries)) kinds worker (suc begun) own old new fewer = omega (arith, fewer (wait_on own.object))
by_left (operations.Composed (Go started)) kinds worker begun own old new fewer = fewer (add_one own.object)
by_left operation kinds worker begun own old new fewer = fewer own

pub others_within : OthersLaw → Stays → Kinds → (workers worker other moment begun later : ℕ) (own call : Call) (objects : List ObjectState) → IsReadyWithin workers other call objects → worker ≢ other
    → turns_within (map kind_of objects) own worker (turn_within call other moment later objects).0.0 begun ≤ turns_within (map kind_of objects) own worker objects begun
others_within law stays all workers worker other moment begun later own call objects ready apart =
    let kinds = map kind_of objects in
    by_left own.operation kinds worker begun own objects (turn_within call other moment later objects).0.0
    (among stays all workers other moment kinds (λ old made new. (any : Call) → turns_left kinds any worker new ≤ turns_left kinds any worker old) (λ objects any. omega arith)
    (λ first middle last made later one two any. omega (arith, one any, two any))
    (λ call old r of any. subst (λ (ks : List ObjectKind). turns_left ks any worker (turn_at call other moment old).0 ≤ turns_left ks any worker old) of (law workers worker other moment any call old r apart))
    (λ started objects any. omega arith) call later objects ready refl)

abbrev pub OwnTakes : Type 0
OwnTakes = (workers worker moment : ℕ) (call : Call) (objects : List ObjectState) → IsReady workers worker call objects
    → TakesBy (goes_back (items_at call worker moment objects)) (turns_left (map kind_of objects) call worker objects) (turns_left (map kind_of objects) call worker (turn_at call worker moment objects).0) (turn_at call worker moment objects).1

-- a load with what follows it leaves no more than this, where it doesn't complete the call
abbrev LookLeaves : ℕ → ℕ → Answer → Type 0
LookLeaves most left answers.Still = Unit {0}
LookLeaves most left answers.Unfinished = left ≤ most
LookLeaves most left (answers.Completed reply) = Unit {0}
LookLeaves most left (answers.Misused misuse) = Unit {0}

look_takes : (back : Bool) (most old new : ℕ) (a : Answer) → most < old → LookLeaves most new a → TakesBy back old new a
look_takes back most old new answers.Still more leaves = tt
look_takes true most old new answers.Unfinished more leaves = omega (arith, more, leaves)
look_takes false most old new answers.Unfinished more leaves = omega (arith, more, leaves)
look_takes back most old new (answers.Completed reply) more leaves = tt
look_takes back most old new (answers.Misused misuse) more leaves = tt

takes_beside : (back : Bool) (beside old new : ℕ) (a : Answer) → TakesBy back old new a → TakesBy back (beside + old) (beside + new) a
takes_beside back beside old new answers.Still takes = tt
takes_beside true beside old new answers.Unfinished takes = omega (arith, takes)
takes_beside false beside old new answers.Unfinished takes = omega (arith, takes)
takes_beside back beside old new (answers.Completed reply) takes = tt
takes_beside back beside old new (answers.Misused misuse) takes = tt

module _ (law : OwnTakes) (most : MostLaw) (stays : Stays) (all : Kinds) (workers worker moment : ℕ) (kinds : List ObjectKind) (call : Call) where
  at_most_four : (own : Call) (objects : List ObjectState) → map kind_of objects ≡ kinds → turns_left kinds own worker objects ≤ 4
  at_most_four own objects of = subst (λ (ks : List ObjectKind). turns_left ks own worker objects ≤ 4) of (most worker own objects)

  at_takes : (own : Call) (objects : List ObjectState) → IsReady workers worker own objects → map kind_of objects ≡ kinds
      → let step = turn_at own worker moment objects in TakesBy (goes_back (items_at own worker moment objects)) (turns_left kinds own worker objects) (turns_left kinds own worker step.0) step.1
  at_takes own objects ready of =
      let step = turn_at own worker moment objects in
      subst (λ (ks : List ObjectKind). TakesBy (goes_back (items_at own worker moment objects)) (turns_left ks own worker objects) (turns_left ks own worker step.0) step.1) of (law workers worker moment own objects ready)

  module _ (atomic : ℕ) (value : Number) (tries : ℕ) where
    abbrev Left : ℕ → List ObjectState → ℕ
    Left begun objects = turns_by_operation kinds call worker objects (operations.Composed (WaitFor atomic value tries)) begun

    abbrev BothAmong : List ObjectState → Type 0
    BothAmong objects = Both workers worker call.object atomic objects × (map kind_of objects ≡ kinds)

    abbrev LookTakes : ℕ → List ObjectState → List Item → Taken → Type 0
    LookTakes begun objects made taken = LookLeaves (4 * (tries - begun)) (Left taken.0.1 taken.0.0) taken.1

    abbrev TurnTakes : ℕ → List ObjectState → List Item → Taken → Type 0
    TurnTakes begun objects made taken = TakesBy (goes_back made) (Left begun objects) (Left taken.0.1 taken.0.0) taken.1

    begun_leaves : (begun : ℕ) (step : List ObjectState × Answer) → begun < tries → turns_left kinds (wait_on call.object) worker step.0 ≤ 4
        → LookLeaves (4 * (tries - begun)) (Left (begin_wait begun step).0.1 (begin_wait begun step).0.0) (begin_wait begun step).1
    begun_leaves begun step fewer four =
        subst (λ (n : ℕ). LookLeaves (4 * (tries - begun)) (Left n (begin_wait begun step).0.0) (begin_wait begun step).1) (sym (begun_waits begun step)) (by_answer step four)
      where
        less : (left : ℕ) → left ≤ 4 → 4 * (tries - suc begun) + left ≤ 4 * (tries - begun)
        less left four = omega (arith, fewer, four)

        by_answer : (step : List ObjectState × Answer) → turns_left kinds (wait_on call.object) worker step.0 ≤ 4
            → LookLeaves (4 * (tries - begun)) (4 * (tries - suc begun) + turns_left kinds (wait_on call.object) worker (begin_wait begun step).0.0) (begin_wait begun step).1
        by_answer (objects, answers.Still) four = less (turns_left kinds (wait_on call.object) worker objects) four
        by_answer (objects, answers.Unfinished) four = less (turns_left kinds (wait_on call.object) worker objects) four
        by_answer (objects, answers.Completed reply) four = less (turns_left kinds (wait_on call.object) worker objects) four
        by_answer (objects, answers.Misused misuse) four = tt

    wait_among : (objects : List ObjectState) → BothAmong objects → BothAmong (turn_at (wait_on call.object) worker moment objects).0
    wait_among objects both = (both_stay stays workers worker moment call.object atomic objects both.0, all workers worker moment (wait_on call.object) objects both.0.0 ∙ both.1)

    take_steps : Steps worker moment call.object atomic value tries BothAmong LookTakes TurnTakes
    take_steps = record {
      stays = wait_among;
      done = λ met begun objects both. tt;
      begins = λ begun objects both fewer.
          let step = turn_at (wait_on call.object) worker moment objects in
          begun_leaves begun step fewer (at_most_four (wait_on call.object) step.0 (wait_among objects both).1);
      first = λ objects made taken both leaves. look_takes (goes_back made) (4 * (tries - 0)) (4 * tries + 1) (Left taken.0.1 taken.0.0) taken.1 (omega arith) leaves;
      waits = λ begun objects both runs_on.
          let step = turn_at (wait_on call.object) worker moment objects in
          let made = items_at (wait_on call.object) worker moment objects in
          let wait = wait_on call.object in
          subst (λ (l : List Item). TakesBy (goes_back l) (Left (suc begun) objects) (Left (suc begun) step.0) step.1) (sym (append-nil made))
          (takes_beside (goes_back made) (4 * (tries - suc begun)) (turns_left kinds wait worker objects) (turns_left kinds wait worker step.0) step.1 (at_takes wait objects both.0.0 both.1));
      returned = λ begun objects later taken both completed leaves.
          look_takes (goes_back (items_at (wait_on call.object) worker moment objects ++ later)) (4 * (tries - suc begun)) (Left (suc begun) objects) (Left taken.0.1 taken.0.0) taken.1 (omega arith) leaves;
    }

  by_takes : (operation : Operation) (begun : ℕ) (objects : List ObjectState) → ReadyBy workers worker call objects operation → map kind_of objects ≡ kinds
      → let taken = turn_by_operation call worker moment begun objects operation in
      TakesBy (goes_back (items_by_operation call worker moment begun objects operation)) (turns_by_operation kinds call worker objects operation begun) (turns_by_operation kinds call worker taken.0.0 operation taken.0.1) taken.1
  by_takes (operations.Composed (WaitFor atomic value tries)) begun objects ready of =
      takes worker moment call.object atomic value tries (BothAmong atomic value tries) (LookTakes atomic value tries) (TurnTakes atomic value tries) (take_steps atomic value tries) begun objects (ready, of)
  by_takes (operations.Composed (Go started)) begun objects ready of =
      let add = add_one call.object in
      let step = turn_at add worker moment objects in
      subst (λ (b : Bool). TakesBy b (turns_left kinds add worker objects) (turns_left kinds add worker step.0) step.1) (sym (start_back worker (length objects) started (items_at add worker moment objects) step.1)) (at_takes add objects ready of)
  by_takes operation begun objects ready of = at_takes call objects ready of

pub within_takes : OwnTakes → MostLaw → Stays → Kinds → (workers worker moment begun : ℕ) (call : Call) (objects : List ObjectState) → IsReadyWithin workers worker call objects
    → TakesBy (goes_back (items_within call worker moment begun objects)) (turns_within (map kind_of objects) call worker objects begun)
    (turns_within (map kind_of objects) call worker (turn_within call worker moment begun objects).0.0 (turn_within call worker moment begun objects).0.1) (turn_within call worker moment begun objects).1
within_takes law most stays all workers worker moment begun call objects ready = by_takes law most stays all workers worker moment (map kind_of objects) call call.operation begun objects ready refl

-- ---- who is told to go on

told_on : (one two a b c : Bool) → TellsOwn one a b → TellsOwn two b c → TellsOwn (one || two) a c
told_on true true a b c first second = (first.0, second.1)
told_on true false a b true first second = absurd (false≢true (sym first.1 ∙ second refl))
told_on true false a b false first second = (first.0, refl)
told_on false true a b c first second = (first second.0, second.1)
told_on false false a b c first second = λ told. first (second told)

abbrev pub ToldLaw : Type 0
ToldLaw = (workers worker moment : ℕ) (call : Call) (objects : List ObjectState) → IsReady workers worker call objects
    → TellsOwn (goes_back (items_at call worker moment objects)) (is_told (map kind_of objects) call worker objects) (is_told (map kind_of objects) call worker (turn_at call worker moment objects).0)

module _ (law : ToldLaw) (stays : Stays) (all : Kinds) (workers worker moment : ℕ) (kinds : List ObjectKind) (call : Call) where
  abbrev Told : List ObjectState → List Item → List ObjectState → Type 0
  Told old made new = TellsOwn (goes_back made) (is_told kinds call worker old) (is_told kinds call worker new)

  back_on : (first middle last : List ObjectState) (made later : List Item) → Told first made middle → Told middle later last → Told first (made ++ later) last
  back_on first middle last made later one two =
      subst (λ (b : Bool). TellsOwn b (is_told kinds call worker first) (is_told kinds call worker last)) (sym (list_any-append (λ item. is_requeued item.deed) made later))
      (told_on (goes_back made) (goes_back later) (is_told kinds call worker first) (is_told kinds call worker middle) (is_told kinds call worker last) one two)

  own_told : (own : Call) (objects : List ObjectState) → IsReady workers worker own objects → map kind_of objects ≡ kinds
      → TellsOwn (goes_back (items_at own worker moment objects)) (is_told kinds own worker objects) (is_told kinds own worker (turn_at own worker moment objects).0)
  own_told own objects r of =
      subst (λ (ks : List ObjectKind). TellsOwn (goes_back (items_at own worker moment objects)) (is_told ks own worker objects) (is_told ks own worker (turn_at own worker moment objects).0)) of (law workers worker moment own objects r)

  told_leading : (atomic : ℕ) (value : Number) (tries : ℕ) → Leading worker moment call.object atomic value tries (λ objects. Both workers worker call.object atomic objects × (map kind_of objects ≡ kinds)) Told
  told_leading atomic value tries = record {
    nowhere = λ objects told. told;
    on = back_on;
    stays = λ objects both. (both_stay stays workers worker moment call.object atomic objects both.0, all workers worker moment (wait_on call.object) objects both.0.0 ∙ both.1);
    turn = λ objects both. own_told (wait_on call.object) objects both.0.0 both.1;
    load = λ objects both. subst (λ (b : Bool). TellsOwn b (is_told kinds call worker objects) (is_told kinds call worker objects)) (sym (load_back workers worker moment atomic objects both.0.1)) (λ told. told);
  }

  by_told : (operation : Operation) (begun : ℕ) (objects : List ObjectState) → ReadyBy workers worker call objects operation → map kind_of objects ≡ kinds
      → Told objects (items_by_operation call worker moment begun objects operation) (turn_by_operation call worker moment begun objects operation).0.0
  by_told (operations.Composed (WaitFor atomic value tries)) begun objects ready of =
      led worker moment call.object atomic value tries (λ objects. Both workers worker call.object atomic objects × (map kind_of objects ≡ kinds)) Told (told_leading atomic value tries) begun objects (ready, of)
  by_told (operations.Composed (Go started)) begun objects ready of =
      let add = add_one call.object in
      let step = turn_at add worker moment objects in
      subst (λ (b : Bool). TellsOwn b (is_told kinds call worker objects) (is_told kinds call worker step.0)) (sym (start_back worker (length objects) started (items_at add worker moment objects) step.1)) (own_told add objects ready of)
  by_told operation begun objects ready of = own_told call objects ready of

pub within_told : ToldLaw → Stays → Kinds → (workers worker moment begun : ℕ) (call : Call) (objects : List ObjectState) → IsReadyWithin workers worker call objects
    → TellsOwn (goes_back (items_within call worker moment begun objects)) (is_told (map kind_of objects) call worker objects) (is_told (map kind_of objects) call worker (turn_within call worker moment begun objects).0.0)
within_told law stays all workers worker moment begun call objects ready = by_told law stays all workers worker moment (map kind_of objects) call call.operation begun objects ready refl

abbrev pub UnlocksLaw : Type 0
UnlocksLaw = (workers worker other moment : ℕ) (own call : Call) (objects : List ObjectState) → IsReady workers other call objects → worker ≢ other
    → is_told (map kind_of objects) own worker objects ≡ false → is_told (map kind_of objects) own worker (turn_at call other moment objects).0 ≡ true → unlocks (items_at call other moment objects) ≡ true

unlocked_by : (one two a b c : Bool) → (a ≡ false → b ≡ true → one ≡ true) → (b ≡ false → c ≡ true → two ≡ true) → a ≡ false → c ≡ true → (one || two) ≡ true
unlocked_by one two a true c first second untold told = ap (λ (b : Bool). b || two) (first untold refl)
unlocked_by true two a false c first second untold told = refl
unlocked_by false two a false c first second untold told = second refl told

pub within_unlocks : UnlocksLaw → Stays → Kinds → (workers worker other moment begun : ℕ) (own call : Call) (objects : List ObjectState) → IsReadyWithin workers other call objects → worker ≢ other
    → is_told (map kind_of objects) own worker objects ≡ false → is_told (map kind_of objects) own worker (turn_within call other moment begun objects).0.0 ≡ true → unlocks (items_within call other moment begun objects) ≡ true
within_unlocks law stays all workers worker other moment begun own call objects ready apart =
    let kinds = map kind_of objects in
    let told : List ObjectState → Bool = λ objects. is_told kinds own worker objects in
    among stays all workers other moment kinds (λ old made new. told old ≡ false → told new ≡ true → unlocks made ≡ true) (λ objects untold told. absurd (false≢true (sym untold ∙ told)))
    (λ first middle last made later one two untold is. list_any-append (λ item. is_unlock item.deed) made later ∙ unlocked_by (unlocks made) (unlocks later) (told first) (told middle) (told last) one two untold is)
    (λ call old r of. subst (λ (ks : List ObjectKind). is_told ks own worker old ≡ false → is_told ks own worker (turn_at call other moment old).0 ≡ true → unlocks (items_at call other moment old) ≡ true) of
    (law workers worker other moment own call old r apart)) (λ started objects untold told. absurd (false≢true (sym untold ∙ told))) call begun objects ready refl
