-- Which turns made the items of which call.
use Rattle.std.proofs.Common.{◌≡◌, ◌≢◌, ℕ, zero, suc, ◌+◌, ◌<◌, ◌≤◌, Bool, true, false, ◌&&◌, List, [], ◌∷◌, ◌++◌, take, length, get_or, Some, refl, sym, ap, ◌∙◌, arith}
use Rattle.std.specs.Prelude.{◌==◌, if◌then◌else◌, nat_lt, slice_get}
use Rattle.std.specs.List.{flat_map}
use Rattle.std.proofs.lemmas.Bool.{eq-eqb, eqb-true, lt-ltb, ltb-true}
use Rattle.std.proofs.lemmas.List.{length-append, take-append-le}
use Rattle.workload.specs.Plan.{Plan}
use Rattle.run_record.specs.Lines.{SpeltCall}
use Rattle.run_record.specs.Record.{shared_in}
use Rattle.run_record.specs.declared.made.Made.{Made}
use Rattle.step_runner.specs.declared.turns.item.Item.{Item}
use Rattle.step_runner.specs.Recorded.{recorded}
use Rattle.step_runner.specs.CallTurns.{stands_before}
use Rattle.step_runner.specs.RunItems.{made_by}
use Rattle.step_runner.specs.Spelt.{by_worker, part_by}
use Rattle.step_runner.specs.State.{State}
use Rattle.step_runner.proofs.SpeltLines.{recorded-append}

abbrev pub items_in : List SpeltCall → List Made
items_in spelt = flat_map (λ (s : SpeltCall). s.items) spelt

abbrev pub count_in : List Made → ℕ
count_in made = length (shared_in made)

-- what a worker's turns made, as a record has it
abbrev pub made_in : Plan → List Item → ℕ → List Made
made_in plan made worker = recorded plan 0 (by_worker worker made)

-- each call's items are those of its turns, and the last ones are those of the next call's
pub record ByTurns (plan : Plan) (spelt : List SpeltCall) (last : List Made) (parts : ℕ → List Item) : Type 0 where
  pub each : (number : ℕ) (one : SpeltCall) → slice_get spelt number ≡ Some one → one.items ≡ recorded plan (count_in (items_in (take number spelt))) (parts number)
  pub current : last ≡ recorded plan (count_in (items_in spelt)) (parts (length spelt))
  pub later : (number : ℕ) → length spelt < number → parts number ≡ []

get_within : {X : Type 0} (xs : List X) (k : ℕ) (x : X) → slice_get xs k ≡ Some x → k < length xs
get_within [] k x at = absurd cc
get_within (y ∷ xs) zero x at = omega arith
get_within (y ∷ xs) (suc k) x at = omega (arith, get_within xs k x at)

-- by the same parts
pub same_parts : (plan : Plan) (spelt : List SpeltCall) (last : List Made) (parts now : ℕ → List Item) → ((k : ℕ) → now k ≡ parts k) → ByTurns plan spelt last parts → ByTurns plan spelt last now
same_parts plan spelt last parts now same by = record {
  each = λ k one at. by.each k one at ∙ ap (recorded plan (count_in (items_in (take k spelt)))) (sym (same k));
  current = by.current ∙ ap (recorded plan (count_in (items_in spelt))) (sym (same (length spelt)));
  later = λ k far. same k ∙ by.later k far;
}

-- a turn of the next call
pub more_last : (plan : Plan) (spelt : List SpeltCall) (last : List Made) (parts now : ℕ → List Item) (turn : List Item) → now (length spelt) ≡ parts (length spelt) ++ turn → ((k : ℕ) → k ≢ length spelt → now k ≡ parts k)
    → ByTurns plan spelt last parts → ByTurns plan spelt (last ++ recorded plan (count_in (items_in spelt) + count_in last) turn) now
more_last plan spelt last parts now turn here elsewhere by =
    let first = count_in (items_in spelt) in
    record {
      each = λ k one at. by.each k one at ∙ ap (recorded plan (count_in (items_in (take k spelt)))) (sym (elsewhere k (λ same. omega (arith, same, get_within spelt k one at))));
      current = ap (λ (l : List Made). l ++ recorded plan (first + count_in l) turn) by.current ∙ sym (recorded-append plan first (parts (length spelt)) turn) ∙ ap (recorded plan first) (sym here);
      later = λ k far. elsewhere k (λ same. omega (arith, same, far)) ∙ by.later k far;
    }

one_some : {X : Type 0} {a b : X} → Some a ≡ Some b → a ≡ b
one_some e = cc

push_get : {X : Type 0} (xs : List X) (x y : X) (k : ℕ) → slice_get (xs ++ x ∷ []) k ≡ Some y → (k < length xs → slice_get xs k ≡ Some y) × ((k < length xs → ⊥) → (k ≡ length xs) × (x ≡ y))
push_get [] x y zero at = (λ below. absurd (omega (arith, below)), λ far. (refl, one_some at))
push_get [] x y (suc k) at = absurd cc
push_get (z ∷ xs) x y zero at = (λ below. at, λ far. absurd (far (omega arith)))
push_get (z ∷ xs) x y (suc k) at =
    let rest = push_get xs x y k at in
    (λ below. rest.0 (omega (arith, below)), λ far. let last = rest.1 (λ below. far (omega (arith, below))) in (ap suc last.0, last.1))

take_all : {X : Type 0} (xs : List X) → take (length xs) xs ≡ xs
take_all [] = refl
take_all {X = X} (x ∷ xs) = ap (λ (l : List X). x ∷ l) (take_all xs)

-- the next call is completed
module _ (plan : Plan) (spelt : List SpeltCall) (one : SpeltCall) (parts : ℕ → List Item) (by : ByTurns plan spelt one.items parts) where
  each_pushed : (k : ℕ) (other : SpeltCall) → slice_get (spelt ++ one ∷ []) k ≡ Some other → (b : Bool) → nat_lt k (length spelt) ≡ b → other.items ≡ recorded plan (count_in (items_in (take k (spelt ++ one ∷ [])))) (parts k)
  each_pushed k other at true is =
      let below : k < length spelt = ltb-true k (length spelt) is in
      let room : k ≤ length spelt = omega (arith, below) in
      by.each k other ((push_get spelt one other k at).0 below) ∙ ap (λ (l : List SpeltCall). recorded plan (count_in (items_in l)) (parts k)) (sym (take-append-le k spelt (one ∷ []) room))
  each_pushed k other at false is =
      let last = (push_get spelt one other k at).1 (λ below. let clash : true ≡ false = sym (lt-ltb k (length spelt) below) ∙ is in cc) in
      let room : length spelt ≤ length spelt = omega arith in
      let whole : take k (spelt ++ one ∷ []) ≡ spelt = ap (λ (n : ℕ). take n (spelt ++ one ∷ [])) last.0 ∙ take-append-le (length spelt) spelt (one ∷ []) room ∙ take_all spelt in
      ap (λ (c : SpeltCall). c.items) (sym last.1) ∙ by.current ∙ (λ i. recorded plan (count_in (items_in (sym whole i))) (parts (sym last.0 i)))

  pub more_spelt : ByTurns plan (spelt ++ one ∷ []) [] parts
  more_spelt = record {
    each = λ k other at. each_pushed k other at (nat_lt k (length spelt)) refl;
    current = sym (ap (recorded plan (count_in (items_in (spelt ++ one ∷ [])))) (by.later (length (spelt ++ one ∷ [])) (omega (arith, length-append spelt (one ∷ [])))));
    later = λ k far. by.later k (omega (arith, far, length-append spelt (one ∷ [])));
  }

-- ---- whose turn it is

pub part_of_other : (plan : Plan) (worker number by : ℕ) (s : State) → worker ≢ by → part_by plan worker number by s ≡ []
part_of_other plan worker number by s apart = by_test (by == worker) refl
  where
    by_test : (b : Bool) → (by == worker) ≡ b → (if b && stands_before worker number s then made_by plan by s else []) ≡ []
    by_test true is = absurd (apart (sym (eqb-true by worker is)))
    by_test false is = refl

pub part_of_own : (plan : Plan) (by : ℕ) (s : State) → part_by plan by (length (get_or s.replies by [])) by s ≡ made_by plan by s
part_of_own plan by s = λ i. if eq-eqb by by refl i && eq-eqb (length (get_or s.replies by [])) (length (get_or s.replies by [])) refl i then made_by plan by s else []

pub part_elsewhere : (plan : Plan) (by number : ℕ) (s : State) → number ≢ length (get_or s.replies by []) → part_by plan by number by s ≡ []
part_elsewhere plan by number s apart = by_test (by == by) (length (get_or s.replies by []) == number) refl
  where
    by_test : (a b : Bool) → (length (get_or s.replies by []) == number) ≡ b → (if a && b then made_by plan by s else []) ≡ []
    by_test true true is = absurd (apart (sym (eqb-true (length (get_or s.replies by [])) number is)))
    by_test true false is = refl
    by_test false b is = refl
