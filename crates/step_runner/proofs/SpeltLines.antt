-- Lists of calls and of items, one behind the other.
use Rattle.std.proofs.Common.{◌≡◌, ℕ, zero, suc, ◌+◌, List, [], ◌∷◌, ◌++◌, map, length, get_or, Some, refl, sym, ap, ◌∙◌, subst, append-nil, append_assoc, arith}
use Rattle.std.specs.Prelude.{Ok, slice_get}
use Rattle.std.specs.List.{flat_map, range_with_len}
use Rattle.std.proofs.lemmas.List.{length-append}
use Rattle.sync_model.specs.declared.answer.Answer.TheVariants.{Done}
use Rattle.sync_model.specs.declared.item.Item.{Item as SharedItem}
use Rattle.workload.specs.Plan.{Plan}
use Rattle.run_record.specs.Calls.{SpellsCall}
use Rattle.run_record.specs.Lines.{SpeltCall, AreSpelt}
use Rattle.run_record.specs.Record.{shared_in}
use Rattle.run_record.specs.declared.made.Made.{Made}
use Rattle.run_record.specs.declared.made.Made.TheVariants.{Shared, Entered}
use Rattle.step_runner.specs.declared.turns.item.Item.{Item}
use Rattle.step_runner.specs.Recorded.{recorded_item, recorded}

-- the calls on maps and atomics of one list behind another
pub shared-append : (one two : List Made) → shared_in (one ++ two) ≡ shared_in one ++ shared_in two
shared-append [] two = refl
shared-append (Shared x ∷ one) two = ap (λ (l : List SharedItem). x ∷ l) (shared-append one two)
shared-append (Entered object entry ∷ one) two = shared-append one two

pub count-append : (one two : List Made) → length (shared_in (one ++ two)) ≡ length (shared_in one) + length (shared_in two)
count-append one two = ap (length {A = SharedItem}) (shared-append one two) ∙ length-append (shared_in one) (shared_in two)

-- items behind others, in a record
pub recorded-append : (plan : Plan) (before : ℕ) (one two : List Item) → recorded plan before (one ++ two) ≡ recorded plan before one ++ recorded plan (before + length (shared_in (recorded plan before one))) two
recorded-append plan before [] two = let same : before ≡ before + 0 = omega arith in ap (λ (n : ℕ). recorded plan n two) same
recorded-append plan before (item ∷ one) two =
    let first = recorded_item plan before item in
    let next = before + length (shared_in first) in
    let rest = recorded plan next one in
    let count : next + length (shared_in rest) ≡ before + length (shared_in (first ++ rest)) = omega (arith, count-append first rest) in
    ap (λ (l : List Made). first ++ l) (recorded-append plan next one two ∙ ap (λ (n : ℕ). rest ++ recorded plan n two) count) ∙ sym (append_assoc first rest (recorded plan (before + length (shared_in (first ++ rest))) two))

-- a completed call behind others
pub flat-push : (spelt : List SpeltCall) (one : SpeltCall) → flat_map (λ (s : SpeltCall). s.items) (spelt ++ one ∷ []) ≡ flat_map (λ (s : SpeltCall). s.items) spelt ++ one.items
flat-push [] one = append-nil one.items
flat-push (first ∷ spelt) one = ap (λ (l : List Made). first.items ++ l) (flat-push spelt one) ∙ sym (append_assoc first.items (flat_map (λ (s : SpeltCall). s.items) spelt) one.items)

pub spelt-push : (plan : Plan) (worker before : ℕ) (spelt : List SpeltCall) (one : SpeltCall) → AreSpelt plan worker before spelt
    → SpellsCall plan worker (before + length (shared_in (flat_map (λ (s : SpeltCall). s.items) spelt))) one.call one.items (Done (Ok one.reply)) → AreSpelt plan worker before (spelt ++ one ∷ [])
spelt-push plan worker before [] one are is = let same : before + 0 ≡ before = omega arith in (subst (λ (n : ℕ). SpellsCall plan worker n one.call one.items (Done (Ok one.reply))) same is, tt)
spelt-push plan worker before (first ∷ spelt) one are is =
    let rest = flat_map (λ (s : SpeltCall). s.items) spelt in
    let count : before + length (shared_in (first.items ++ rest)) ≡ before + length (shared_in first.items) + length (shared_in rest) = omega (arith, count-append first.items rest) in
    (are.0, spelt-push plan worker (before + length (shared_in first.items)) spelt one are.1 (subst (λ (n : ℕ). SpellsCall plan worker n one.call one.items (Done (Ok one.reply))) count is))

pub map-push : {X Y : Type 0} (f : X → Y) (xs : List X) (x : X) → map f (xs ++ x ∷ []) ≡ map f xs ++ f x ∷ []
map-push f [] x = refl
map-push {Y = Y} f (y ∷ xs) x = ap (λ (l : List Y). f y ∷ l) (map-push f xs x)

-- ---- all workers

-- a list is what stands at each of its places
pub list-range : {X : Type 0} (f : ℕ → X) (d : X) (xs : List X) (first : ℕ) → ((i : ℕ) → f (first + i) ≡ get_or xs i d) → map f (range_with_len first (length xs)) ≡ xs
list-range f d [] first is = refl
list-range {X = X} f d (x ∷ xs) first is =
    let here : first ≡ first + 0 = omega arith in
    (λ i. (ap f here ∙ is 0) i ∷ list-range f d xs (first + 1) (λ k. let next : first + 1 + k ≡ first + suc k = omega arith in ap f next ∙ is (suc k)) i)

pub range-get : {X : Type 0} (f : ℕ → X) (first count k : ℕ) (y : X) → slice_get (map f (range_with_len first count)) k ≡ Some y → f (first + k) ≡ y
range-get f first zero k y at = absurd cc
range-get {X = X} f first (suc count) zero y at = let here : first + 0 ≡ first = omega arith in ap f here ∙ one at
  where
    one : {a b : X} → Some a ≡ Some b → a ≡ b
    one e = cc
range-get f first (suc count) (suc k) y at = let next : first + suc k ≡ first + 1 + k = omega arith in ap f next ∙ range-get f (first + 1) count k y at
