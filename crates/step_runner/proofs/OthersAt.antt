-- At all objects: another's turn leaves a worker's call where it is; how a call is entered, and that it can be gone on with.
use Rattle.std.proofs.Common.{◌≡◌, ◌≢◌, ℕ, Bool, true, false, eqb, List, map, set, Option, Some, None, refl, sym, ap, ◌∙◌, subst}
use Rattle.std.specs.Prelude.{slice_get}
use Rattle.std.proofs.lemmas.Bool.{eqb-true, eqb-false}
use Rattle.script_calls.specs.declared.call.Call.{Call}
use Rattle.script_calls.specs.declared.call.Reply.{Reply}
use Rattle.protocols.specs.Spelling.{CallAnswer}
use Rattle.run_record.specs.Parts.{Part}
use Rattle.run_record.specs.declared.made.Made.{Made}
use Rattle.workload.specs.Plan.{Plan, reference_of}
use Rattle.step_runner.specs.declared.turns.answer.Answer.{Answer}
use Rattle.step_runner.specs.declared.turns.object_state.ObjectState.{ObjectState}
use Rattle.step_runner.specs.Objects.{kind_of, EachAt}
use Rattle.step_runner.specs.Ready.{IsReady}
use Rattle.step_runner.specs.TurnAtObjects.{turn_on, turn_on_both, turn_at}
use Rattle.step_runner.specs.Left.{left_at}
use Rattle.step_runner.specs.Within.{IsIdle, IsWithin}
use Rattle.step_runner.proofs.SpeltAtObjects.{set_there, set_other, apart, turn_alone, turn_referring, left_alone, left_referring, stands_alone, stands_referring}
use Rattle.step_runner.proofs.SpellingLaws.{Laws}
use Rattle.step_runner.proofs.OthersKeep.{Same, same_self, turn_same, both_same, left_same, left_both_same, idle_same, stands_same, both_stands_same}
use Rattle.step_runner.proofs.OwnAt.{same_kind}
use Rattle.step_runner.proofs.TurnOwn.{only_pairs}

-- the object at each place is the same to a worker
abbrev SameAt : ℕ → Option ObjectState → Option ObjectState → Type 0
SameAt x None None = Unit {0}
SameAt x (Some o) (Some n) = Same x o n
SameAt x o n = ⊥

same_at_self : (x : ℕ) (o : Option ObjectState) → SameAt x o o
same_at_self x None = tt
same_at_self x (Some o) = same_self x o

abbrev AllSame : ℕ → List ObjectState → List ObjectState → Type 0
AllSame x objects others = (k : ℕ) → SameAt x (slice_get objects k) (slice_get others k)

-- behind a write of an object that is the same
set_same : (x : ℕ) (first objects : List ObjectState) (place : ℕ) (old next : ObjectState) → slice_get objects place ≡ Some old → slice_get first place ≡ Some old → AllSame x first objects → Same x old next → AllSame x first (set objects place next)
set_same x first objects place old next at begun all same k = by_place (eqb k place) refl
  where
    by_place : (b : Bool) → eqb k place ≡ b → SameAt x (slice_get first k) (slice_get (set objects place next) k)
    by_place true is =
        let e : place ≡ k = sym (eqb-true k place is) in
        subst (λ (j : ℕ). SameAt x (slice_get first j) (slice_get (set objects place next) j)) e
        (subst (λ (o : Option ObjectState). SameAt x o (slice_get (set objects place next) place)) (sym begun)
        (subst (λ (o : Option ObjectState). SameAt x (Some old) o) (sym (set_there objects place next old at)) same))
    by_place false far = subst (λ (o : Option ObjectState). SameAt x (slice_get first k) o) (sym (set_other objects place k next (eqb-false k place far))) (all k)

module _ (laws : Laws) (workers x by moment : ℕ) (call : Call) (objects : List ObjectState) (r : IsReady workers by call objects) (two : x ≢ by) where
  pub all_same : AllSame x objects (turn_at call by moment objects).0
  all_same = by_reference (reference_of (kind_of r.object)) refl
    where
      by_reference : (o : Option ℕ) → reference_of (kind_of r.object) ≡ o → AllSame x objects (turn_at call by moment objects).0
      by_reference None none =
          subst (λ (y : List ObjectState × Answer). AllSame x objects y.0) (sym (turn_alone call by moment objects r.object r.there none))
          (set_same x objects objects call.object r.object (turn_on call.operation by moment r.object).0 r.there r.there (λ k. same_at_self x (slice_get objects k)) (turn_same laws x by moment two workers call.operation r.object r.machine))
      by_reference (Some other) some =
          let t = r.refers other some in
          let step = turn_on_both call.operation by moment r.object t.target in
          let same = both_same laws x by moment two workers call.operation r.object t.target t.machine in
          let far = apart objects call.object other r.object t.target r.there t.there t.is in
          let one = set_same x objects objects call.object r.object step.0.0 r.there r.there (λ k. same_at_self x (slice_get objects k)) same.0 in
          subst (λ (y : List ObjectState × Answer). AllSame x objects y.0) (sym (turn_referring call by moment objects r.object r.there other t.target some t.there))
          (set_same x objects (set objects call.object step.0.0) other t.target step.0.1 (set_other objects call.object other step.0.0 far ∙ t.there) t.there one same.1)

-- the object that stands there now
abbrev Found : ℕ → ObjectState → Option ObjectState → Type 0
Found x o found = (n : ObjectState) × (found ≡ Some n) × Same x o n

found_now : (x : ℕ) (o : ObjectState) (old found : Option ObjectState) → old ≡ Some o → SameAt x old found → Found x o found
found_now x o None None at same = absurd cc
found_now x o None (Some n) at same = absurd same
found_now x o (Some p) None at same = absurd same
found_now x o (Some p) (Some n) at same = (n, refl, subst (λ (q : ObjectState). Same x q n) (one at) same)
  where
    one : {a b : ObjectState} → Some a ≡ Some b → a ≡ b
    one e = cc

found_before : (x : ℕ) (n : ObjectState) (old found : Option ObjectState) → found ≡ Some n → SameAt x old found → (o : ObjectState) × (old ≡ Some o) × Same x o n
found_before x n None None at same = absurd cc
found_before x n None (Some m) at same = absurd same
found_before x n (Some o) None at same = absurd same
found_before x n (Some o) (Some m) at same = (o, refl, subst (λ (q : ObjectState). Same x o q) (one at) same)
  where
    one : {a b : ObjectState} → Some a ≡ Some b → a ≡ b
    one e = cc

pub all_idle : (x : ℕ) (objects others : List ObjectState) → AllSame x objects others → EachAt (λ place. IsIdle x) objects → EachAt (λ place. IsIdle x) others
all_idle x objects others all idle k n at =
    let o = found_before x n (slice_get objects k) (slice_get others k) at (all k) in
    idle_same x o.0 n o.2 (idle k o.0 o.1)

-- a worker's call among objects that are the same to it, of the same kinds
module _ (plan : Plan) (x before : ℕ) (call : Call) (objects others : List ObjectState) (r : IsReady plan.workers x call objects) (all : AllSame x objects others) (kinds : map kind_of others ≡ map kind_of objects) where
  abbrev Kept : Type 0
  Kept = (IsWithin x call objects → IsWithin x call others) × ((items : List Made) (answer : CallAnswer (Reply ℕ)) → left_at plan x before call others items answer → left_at plan x before call objects items answer)

  elsewhere : IsWithin x call objects → EachAt (λ place o. place ≢ call.object → IsIdle x o) others
  elsewhere within k n at far =
      let o = found_before x n (slice_get objects k) (slice_get others k) at (all k) in
      idle_same x o.0 n o.2 (within.elsewhere k o.0 o.1 far)

  pub call_kept : Kept
  call_kept = by_reference (reference_of (kind_of r.object)) refl
    where
      by_reference : (o : Option ℕ) → reference_of (kind_of r.object) ≡ o → Kept
      by_reference None none =
          let n = found_now x r.object (slice_get objects call.object) (slice_get others call.object) r.there (all call.object) in
          let kind = same_kind objects others call.object r.object n.0 kinds r.there n.1 in
          let none_now = ap reference_of kind ∙ none in (
            λ within.
                record {
                  here = subst (λ (T : Type 0). T) (sym (stands_alone call others n.0 n.1 x none_now))
                      (stands_same x r.object n.0 call.operation n.2 (subst (λ (T : Type 0). T) (stands_alone call objects r.object r.there x none) within.here));
                  elsewhere = elsewhere within;
                },
            λ items answer l.
                subst (λ (P : Part (Reply ℕ)). P items answer) (sym (left_alone call objects r.object r.there plan x before none))
                (subst (λ (P : Part (Reply ℕ)). P items answer) (left_same plan x before call.object r.object n.0 call.operation n.2)
                (subst (λ (P : Part (Reply ℕ)). P items answer) (left_alone call others n.0 n.1 plan x before none_now) l)),
          )
      by_reference (Some other) some =
          let t = r.refers other some in
          let n = found_now x r.object (slice_get objects call.object) (slice_get others call.object) r.there (all call.object) in
          let u = found_now x t.target (slice_get objects other) (slice_get others other) t.there (all other) in
          let kind = same_kind objects others call.object r.object n.0 kinds r.there n.1 in
          let some_now = ap reference_of kind ∙ some in
          let pair = only_pairs r.object call.operation t.target r.has t.is in (
            λ within.
                record {
                  here = subst (λ (T : Type 0). T) (sym (stands_referring call others n.0 n.1 x other u.0 some_now u.1))
                      (both_stands_same x call.operation r.object t.target n.0 u.0 pair n.2 u.2 (subst (λ (T : Type 0). T) (stands_referring call objects r.object r.there x other t.target some t.there) within.here));
                  elsewhere = elsewhere within;
                },
            λ items answer l.
                subst (λ (P : Part (Reply ℕ)). P items answer) (sym (left_referring call objects r.object r.there plan x before other t.target some t.there))
                (subst (λ (P : Part (Reply ℕ)). P items answer) (left_both_same plan x before call.object other call.operation r.object t.target n.0 u.0 pair n.2 u.2)
                (subst (λ (P : Part (Reply ℕ)). P items answer) (left_referring call others n.0 n.1 plan x before other u.0 some_now u.1) l)),
          )
