-- All callers' notes, one after the other.
use Rattle.std.proofs.Common.{◌≡◌, ◌≢◌, ℕ, zero, suc, ◌+◌, ◌<◌, ◌≤◌, List, [], ◌∷◌, ◌++◌, map, take, length, length-set, set, slice_get, Option, Some, None, refl, sym, ap, ◌∙◌, subst, arith}
use Rattle.std.proofs.lemmas.Option.{slice_get_within}
use Rattle.std.specs.Prelude.{IsSome}
use mathlib.Core.Logic.{dite}
use native.Mathlib.Decide.{ℕ_discrete}
use Rattle.sync_model.specs.declared.caller.Caller.{Caller}
use Rattle.sync_model.specs.Note.{Holding}
use Rattle.sync_model.specs.Shared.{IsHeldBy}
use Rattle.ruled_object.specs.Notes.{held_by}
use Rattle.ruled_object.specs.Passes.{number_of}
use Rattle.shared_plain.specs.declared.mark.Mark.{Mark}
use Rattle.shared_plain.specs.Marks.{holding, own_by}
use Rattle.shared_plain.specs.PlainHistory.{Step}
use Rattle.shared_plain.specs.Settling.{IsSameMark, AreSameMarks}
use Rattle.shared_plain.proofs.Calling.{held_there}
use Rattle.shared_plain.proofs.Steps.{some_is}

abbrev number_in : Option Holding → ℕ
number_in None = 0
number_in (Some h) = h.number

-- the pass of a caller's own note
pub record IsOwn (mark : Mark) (i : ℕ) : Type 0 where
  pub own : List Step
  pub held : held_by mark.pass ≡ Some own
  pub number : number_of mark.pass ≡ i

pub own_of : (mark : Mark) (i : ℕ) → IsHeldBy i (own_by mark) → IsOwn mark i
own_of mark i is =
    let there = held_there mark (subst (λ o. IsSome o) (sym is.1) refl) in
    let same : Some is.0 ≡ holding mark (Some there.0) = sym is.1 ∙ ap (holding mark) there.1 in
    record { own = there.0; held = there.1; number = sym (ap number_in same) ∙ is.2 }

module _ {A B : Type 0} (f : A → B) where
  pub taken_long : (xs : List A) (i : ℕ) → i ≤ length xs → length (map f (take i xs)) ≡ i
  taken_long [] zero within = refl
  taken_long [] (suc i) within = absurd (omega arith)
  taken_long (x ∷ xs) zero within = refl
  taken_long (x ∷ xs) (suc i) within = let rest = taken_long xs i (omega arith) in omega arith

  taken_next : (xs : List A) (i : ℕ) (x : A) → slice_get xs i ≡ Some x → map f (take (suc i) xs) ≡ map f (take i xs) ++ f x ∷ []
  taken_next [] i x at = (cc)
  taken_next (y ∷ ys) zero x at = ap (λ z. f z ∷ []) (some_is y x at)
  taken_next (y ∷ ys) (suc i) x at = ap (λ l. f y ∷ l) (taken_next ys i x at)

  pub taken_more : (xs : List A) (i : ℕ) (x : A) → slice_get xs i ≡ Some x → map f (take (i + 1) xs) ≡ map f (take i xs) ++ f x ∷ []
  taken_more xs i x at = let one : i + 1 ≡ suc i = omega arith in ap (λ k. map f (take k xs)) one ∙ taken_next xs i x at

  pub at_map : (xs : List A) (i : ℕ) (x : A) → slice_get xs i ≡ Some x → slice_get (map f xs) i ≡ Some (f x)
  at_map [] i x at = (cc)
  at_map (y ∷ ys) zero x at = ap (λ z. Some (f z)) (some_is y x at)
  at_map (y ∷ ys) (suc i) x at = at_map ys i x at

  pub from_map : (xs : List A) (i : ℕ) (y : B) → slice_get (map f xs) i ≡ Some y → (x : A) × (slice_get xs i ≡ Some x) × (f x ≡ y)
  from_map [] i y at = (cc)
  from_map (x ∷ xs) zero y at = (x, refl, some_is (f x) y at)
  from_map (x ∷ xs) (suc i) y at = from_map xs i y at

module _ {A : Type 0} where
  pub set_same : (xs : List A) (i : ℕ) (x y : A) → slice_get (set xs i x) i ≡ Some y → x ≡ y
  set_same [] i x y e = (cc)
  set_same (z ∷ zs) zero x y e = some_is x y e
  set_same (z ∷ zs) (suc i) x y e = set_same zs i x y e

  pub set_other : (xs : List A) (i k : ℕ) (x : A) → k ≢ i → slice_get (set xs i x) k ≡ slice_get xs k
  set_other [] i k x ne = refl
  set_other (z ∷ zs) zero zero x ne = absurd (ne refl)
  set_other (z ∷ zs) zero (suc k) x ne = refl
  set_other (z ∷ zs) (suc i) zero x ne = refl
  set_other (z ∷ zs) (suc i) (suc k) x ne = set_other zs i k x (λ e. ne (ap suc e))

  pub item_there : (xs : List A) (i : ℕ) → i < length xs → (x : A) × (slice_get xs i ≡ Some x)
  item_there [] i below = absurd (omega arith)
  item_there (x ∷ xs) zero below = (x, refl)
  item_there (x ∷ xs) (suc i) below = item_there xs i (omega arith)

pub same_marks : (list : List (Caller Mark)) → AreSameMarks list list
same_marks list = record { count = refl; each = λ i before after at_b at_a. let same = some_is before after (sym at_b ∙ at_a) in subst (λ (c : Caller Mark). IsSameMark before.note c.note) same (record { number = refl; callers = refl; spare = refl; time = refl; done = refl }) }

-- one note more has another pass of the same caller
pub marks_on : (old list : List (Caller Mark)) (i : ℕ) (before after : Caller Mark) → slice_get old i ≡ Some before → IsSameMark before.note after.note → AreSameMarks old list → AreSameMarks old (set list i after)
marks_on old list i before after at_i one same = record {
  count = length-set list i after ∙ same.count;
  each = λ k b a at_b at_a. dite (ℕ_discrete k i)
      (λ is. let first = some_is before b (sym at_i ∙ (ap (slice_get old) (sym is) ∙ at_b)) in let second = set_same list i after a (ap (slice_get (set list i after)) (sym is) ∙ at_a) in
      subst (λ (c : Caller Mark). IsSameMark c.note a.note) first (subst (λ (c : Caller Mark). IsSameMark before.note c.note) second one))
      (λ ne. same.each k b a at_b (sym (set_other list i k after ne) ∙ at_a));
}

-- the same callers after two changes
pub marks_joined : (first second third : List (Caller Mark)) → AreSameMarks first second → AreSameMarks second third → AreSameMarks first third
marks_joined first second third one two = record {
  count = two.count ∙ one.count;
  each = λ i before after at_b at_a.
      let long = one.count in
      let within = slice_get_within first i before at_b in
      let middle = item_there second i (omega arith) in
      let a = one.each i before middle.0 at_b middle.1 in
      let b = two.each i middle.0 after middle.1 at_a in
      record { number = b.number ∙ a.number; callers = b.callers ∙ a.callers; spare = b.spare ∙ a.spare; time = b.time ∙ a.time; done = b.done ∙ a.done };
}
