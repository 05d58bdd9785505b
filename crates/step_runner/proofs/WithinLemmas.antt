-- A turn before a call or within it by the turns at objects that it is made of, where what each leaves ready is known: what so leads on from turn to turn, and what so is kept.
use Rattle.std.proofs.Common.{◌≡◌, ℕ, suc, true, false, ◌==◌, List, [], ◌∷◌, ◌++◌, length, map, set, Option, Some, None, refl, sym, ap, ◌∙◌, subst, arith}
use Rattle.std.specs.Prelude.{slice_get}
use Rattle.std.proofs.lemmas.List.Elements.{filter-append}
use Rattle.sync_types.specs.declared.atomic_object.AtomicCall.TheVariants.{Load}
use Rattle.sync_types.specs.declared.atomic_object.Number.{Number}
use Rattle.sync_types.specs.declared.misuse.Misuse.{Misuse}
use Rattle.script_calls.specs.declared.call.Call.{Call}
use Rattle.script_calls.specs.declared.call.ComposedCall.TheVariants.{WaitFor, Go}
use Rattle.script_calls.specs.declared.call.Operation.{Operation}
use Rattle.script_calls.specs.declared.call.Operation.TheVariants as operations
use Rattle.workload.specs.Plan.{has_call, reference_of}
use Rattle.workload.specs.declared.object.ObjectKind.{ObjectKind}
use Rattle.workload.specs.declared.object.ObjectKind.TheVariants as kinds
use Rattle.step_runner.specs.declared.turns.answer.Answer.{Answer}
use Rattle.step_runner.specs.declared.turns.answer.Answer.TheVariants as answers
use Rattle.step_runner.specs.declared.turns.object_state.ObjectState.{ObjectState}
use Rattle.step_runner.specs.declared.turns.object_state.ObjectState.TheVariants as states
use Rattle.step_runner.specs.declared.turns.item.Item.{Item}
use Rattle.step_runner.specs.Items.{items_at, goes_back}
use Rattle.step_runner.specs.LeadsTo.{on_object}
use Rattle.step_runner.specs.Objects.{kind_of}
use Rattle.step_runner.specs.Ready.{IsReady}
use Rattle.step_runner.specs.StandsWithin.{ReadyBy, IsReadyWithin}
use Rattle.step_runner.specs.TurnAtObjects.{turn_on, turn_at}
use Rattle.step_runner.specs.TurnWithin.{wait_on, load_of, add_one, begin_wait, start_item, start_items, turn_by_operation, turn_within, items_by_operation, items_within}
use Rattle.step_runner.proofs.AtObjects.{at_ready}
use Rattle.step_runner.proofs.GoTurns.{length_kept, start_comes}
use Rattle.step_runner.proofs.ItemLogs.{ComesAt, comes_nowhere, comes_on, at_comes}
use Rattle.step_runner.proofs.PlacedLemmas.{at_answered}
use Rattle.step_runner.proofs.TurnsWithin.{Leading, led}
use Rattle.step_runner.proofs.Writes.{set_back}
use Rattle.step_runner.proofs.Refuted.{no, nothing}

-- ---- a load

load_alone : (objects : List ObjectState) (place worker moment : ℕ) (o : ObjectState) → slice_get objects place ≡ Some o → has_call (kind_of o) (operations.Atomic Load) ≡ true
    → set objects place (turn_on (operations.Atomic Load) worker moment o).0 ≡ objects
load_alone objects place worker moment (states.Atomic number) at has = set_back objects place (states.Atomic number) at
load_alone objects place worker moment o at has = no has

no_load_refers : (kind : ObjectKind) (other : ℕ) → reference_of kind ≡ Some other → has_call kind (operations.Atomic Load) ≡ true → ⊥
no_load_refers (kinds.Cond place) other some has = no has
no_load_refers (kinds.Once place delta) other some has = no has
no_load_refers (kinds.Flight place delta) other some has = no has
no_load_refers kind other some has = nothing some

-- it changes nothing
pub load_same : (workers worker moment atomic : ℕ) (objects : List ObjectState) → IsReady workers worker (load_of atomic) objects → (turn_at (load_of atomic) worker moment objects).0 ≡ objects
load_same workers worker moment atomic objects r = at_ready (λ x. x.0 ≡ objects) workers worker (load_of atomic) moment objects r
    (λ st. load_alone objects atomic worker moment r.object st.at st.has)
    (λ other target st. absurd (no_load_refers (kind_of r.object) other st.some st.has))

-- it is one item, which is no event
pub load_back : (workers worker moment atomic : ℕ) (objects : List ObjectState) → IsReady workers worker (load_of atomic) objects → goes_back (items_at (load_of atomic) worker moment objects) ≡ false
load_back workers worker moment atomic objects r = let one = at_answered workers worker (load_of atomic) moment objects r refl in ap goes_back one.1

-- ---- what the items lead to, by the operation

-- what is ready for the turns of a `waitfor`
abbrev pub Both : (workers worker cond atomic : ℕ) → List ObjectState → Type 0
Both workers worker cond atomic objects = IsReady workers worker (wait_on cond) objects × IsReady workers worker (load_of atomic) objects

-- what is ready stays so
abbrev pub Stays : Type 0
Stays = (workers worker moment other : ℕ) (call own : Call) (objects : List ObjectState) → IsReady workers worker call objects → IsReady workers other own objects → IsReady workers other own (turn_at call worker moment objects).0

pub both_stay : Stays → (workers worker moment cond atomic : ℕ) (objects : List ObjectState) → Both workers worker cond atomic objects → Both workers worker cond atomic (turn_at (wait_on cond) worker moment objects).0
both_stay stays workers worker moment cond atomic objects both = (
  stays workers worker moment worker (wait_on cond) (wait_on cond) objects both.0 both.0,
  stays workers worker moment worker (wait_on cond) (load_of atomic) objects both.0 both.1,
)

module _ (stays : Stays) (workers worker moment : ℕ) (Leads : List ObjectState → List Item → List ObjectState → Type 0)
    (nowhere : (objects : List ObjectState) → Leads objects [] objects)
    (on : (first middle last : List ObjectState) (made later : List Item) → Leads first made middle → Leads middle later last → Leads first (made ++ later) last)
    (turn : (call : Call) (objects : List ObjectState) → IsReady workers worker call objects → Leads objects (items_at call worker moment objects) (turn_at call worker moment objects).0)
    (start : (started : ℕ) (objects : List ObjectState) → Leads objects (start_item worker (length objects) started ∷ []) objects) where
  leading : (cond atomic : ℕ) (value : Number) (tries : ℕ) → Leading worker moment cond atomic value tries (Both workers worker cond atomic) Leads
  leading cond atomic value tries = record {
    nowhere = nowhere;
    on = on;
    stays = both_stay stays workers worker moment cond atomic;
    turn = λ objects both. turn (wait_on cond) objects both.0;
    load = λ objects both. subst (λ (l : List ObjectState). Leads objects (items_at (load_of atomic) worker moment objects) l) (load_same workers worker moment atomic objects both.1) (turn (load_of atomic) objects both.1);
  }

  -- behind the `add` of a `go` a worker is started, or nothing is made
  starting : (started count : ℕ) (a : Answer) (objects : List ObjectState) → length objects ≡ count → Leads objects (start_items a (start_item worker count started)) objects
  starting started count answers.Still objects same = nowhere objects
  starting started count answers.Unfinished objects same = nowhere objects
  starting started count (answers.Completed reply) objects same = subst (λ (n : ℕ). Leads objects (start_item worker n started ∷ []) objects) same (start started objects)
  starting started count (answers.Misused misuse) objects same = nowhere objects

  by_leads : (operation : Operation) (call : Call) (begun : ℕ) (objects : List ObjectState) → ReadyBy workers worker call objects operation
      → Leads objects (items_by_operation call worker moment begun objects operation) (turn_by_operation call worker moment begun objects operation).0.0
  by_leads (operations.Composed (WaitFor atomic value tries)) call begun objects ready = led worker moment call.object atomic value tries (Both workers worker call.object atomic) Leads (leading call.object atomic value tries) begun objects ready
  by_leads (operations.Composed (Go started)) call begun objects ready =
      let add = add_one call.object in
      let step = turn_at add worker moment objects in
      on objects step.0 step.0 (items_at add worker moment objects) (start_items step.1 (start_item worker (length objects) started)) (turn add objects ready)
      (starting started (length objects) step.1 step.0 (length_kept add worker moment objects))
  by_leads operation call begun objects ready = turn call objects ready

  -- what leads on from turn to turn of calls that are ready, leads on in a turn within a call
  pub leads : (call : Call) (begun : ℕ) (objects : List ObjectState) → IsReadyWithin workers worker call objects → Leads objects (items_within call worker moment begun objects) (turn_within call worker moment begun objects).0.0
  leads call begun objects ready = by_leads call.operation call begun objects ready

-- the same of what is so of the objects
pub keeps : Stays → (workers worker moment : ℕ) (P : List ObjectState → Type 0) → ((call : Call) (objects : List ObjectState) → IsReady workers worker call objects → P objects → P (turn_at call worker moment objects).0)
    → (call : Call) (begun : ℕ) (objects : List ObjectState) → IsReadyWithin workers worker call objects → P objects → P (turn_within call worker moment begun objects).0.0
keeps stays workers worker moment P turn call begun objects ready =
    leads stays workers worker moment (λ old made new. P old → P new) (λ objects is. is) (λ first middle last made later one two is. two (one is)) turn (λ started objects is. is) call begun objects ready

-- ---- kinds

abbrev pub Kinds : Type 0
Kinds = (workers worker moment : ℕ) (call : Call) (objects : List ObjectState) → IsReady workers worker call objects → map kind_of (turn_at call worker moment objects).0 ≡ map kind_of objects

pub kinds_kept : Stays → Kinds → (workers worker moment begun : ℕ) (call : Call) (objects : List ObjectState) → IsReadyWithin workers worker call objects → map kind_of (turn_within call worker moment begun objects).0.0 ≡ map kind_of objects
kinds_kept stays kinds workers worker moment begun call objects ready =
    leads stays workers worker moment (λ old made new. map kind_of new ≡ map kind_of old) (λ objects. refl) (λ first middle last made later one two. two ∙ one) (λ call objects r. kinds workers worker moment call objects r) (λ started objects. refl) call begun objects ready

-- what leads on among objects of these kinds
module _ (stays : Stays) (all : Kinds) (workers worker moment : ℕ) (kinds : List ObjectKind) (Leads : List ObjectState → List Item → List ObjectState → Type 0)
    (nowhere : (objects : List ObjectState) → Leads objects [] objects)
    (on : (first middle last : List ObjectState) (made later : List Item) → Leads first made middle → Leads middle later last → Leads first (made ++ later) last)
    (turn : (call : Call) (objects : List ObjectState) → IsReady workers worker call objects → map kind_of objects ≡ kinds → Leads objects (items_at call worker moment objects) (turn_at call worker moment objects).0)
    (start : (started : ℕ) (objects : List ObjectState) → Leads objects (start_item worker (length objects) started ∷ []) objects) where
  pub among : (call : Call) (begun : ℕ) (objects : List ObjectState) → IsReadyWithin workers worker call objects → map kind_of objects ≡ kinds
      → Leads objects (items_within call worker moment begun objects) (turn_within call worker moment begun objects).0.0
  among call begun objects ready of =
      (leads stays workers worker moment (λ old made new. map kind_of old ≡ kinds → (map kind_of new ≡ kinds) × Leads old made new) (λ objects of. (of, nowhere objects))
      (λ first middle last made later one two of. let led = one of in let last_led = two led.0 in (last_led.0, on first middle last made later led.1 last_led.1))
      (λ call objects r of. (all workers worker moment call objects r ∙ of, turn call objects r of)) (λ started objects of. (of, start started objects)) call begun objects ready of).1

-- ---- what comes by the items

same_at : (o : Option ObjectState) → ComesAt o [] o
same_at None = tt
same_at (Some o) = comes_nowhere o

both_at : (first middle last : Option ObjectState) (made later : List Item) → ComesAt first made middle → ComesAt middle later last → ComesAt first (made ++ later) last
both_at None None None made later one two = tt
both_at None None (Some last) made later one two = two
both_at None (Some middle) last made later one two = absurd one
both_at (Some first) None last made later one two = absurd one
both_at (Some first) (Some middle) None made later one two = two
both_at (Some first) (Some middle) (Some last) made later one two = comes_on first middle last made later one two

pub within_comes : Stays → (workers worker moment begun : ℕ) (call : Call) (objects : List ObjectState) → IsReadyWithin workers worker call objects
    → (place : ℕ) → ComesAt (slice_get objects place) (on_object place (items_within call worker moment begun objects)) (slice_get (turn_within call worker moment begun objects).0.0 place)
within_comes stays workers worker moment begun call objects ready =
    leads stays workers worker moment (λ old made new. (place : ℕ) → ComesAt (slice_get old place) (on_object place made) (slice_get new place)) (λ objects place. same_at (slice_get objects place))
    (λ first middle last made later one two place. subst (λ (l : List Item). ComesAt (slice_get first place) l (slice_get last place)) (sym (filter-append (λ item. item.object == place) made later))
    (both_at (slice_get first place) (slice_get middle place) (slice_get last place) (on_object place made) (on_object place later) (one place) (two place)))
    (λ call objects r. at_comes workers worker call moment objects r) (λ started objects. start_comes worker started objects) call begun objects ready

-- ---- turns that begin a wait

-- what is so of an event without a reply and of each misuse, is so of the answer
pub begun_answer : (Q : Answer → Type 0) → Q answers.Unfinished → ((misuse : Misuse) → Q (answers.Misused misuse)) → (begun : ℕ) (step : List ObjectState × Answer) → Q (begin_wait begun step).1
begun_answer Q runs_on misused begun (objects, answers.Still) = runs_on
begun_answer Q runs_on misused begun (objects, answers.Unfinished) = runs_on
begun_answer Q runs_on misused begun (objects, answers.Completed reply) = runs_on
begun_answer Q runs_on misused begun (objects, answers.Misused misuse) = misused misuse

pub begun_waits : (begun : ℕ) (step : List ObjectState × Answer) → (begin_wait begun step).0.1 ≡ suc begun
begun_waits begun (objects, answers.Still) = omega arith
begun_waits begun (objects, answers.Unfinished) = omega arith
begun_waits begun (objects, answers.Completed reply) = omega arith
begun_waits begun (objects, answers.Misused misuse) = omega arith

abbrev pub Any : List ObjectState → Type 0
Any objects = Unit {0}
