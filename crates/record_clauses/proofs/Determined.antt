-- That the parts of an account are determined by what is told.
use Rattle.std.proofs.Common.{◌≡◌, ℕ, zero, suc, ◌+◌, ◌==◌, Bool, true, false, cond, List, [], ◌∷◌, length, get_or, Some, slice_get, refl, sym, ap, ◌∙◌, subst, arith}
use Rattle.std.proofs.lemmas.Bool.{eq-eqb}
use Rattle.std.proofs.lemmas.Option.{none-some, same_Some}
use Rattle.run_record.specs.Record.{ObjectEntry}
use Rattle.record_clauses.specs.Account.{Claim, Account}
use Rattle.record_clauses.specs.Clauses.{HasJournals}
use Rattle.record_clauses.specs.Journals.{numbered_from, numbered_by}

-- ---- journals

-- two lists are one, where each has at each place what the other has
pub same_list : {A : Type 0} (xs ys : List A) → ((n : ℕ) (x : A) → slice_get xs n ≡ Some x → slice_get ys n ≡ Some x) → ((n : ℕ) (x : A) → slice_get ys n ≡ Some x → slice_get xs n ≡ Some x) → xs ≡ ys
same_list [] [] forth back = refl
same_list [] (y ∷ ys) forth back = absurd (none-some y (back 0 y refl))
same_list (x ∷ xs) [] forth back = absurd (none-some x (forth 0 x refl))
same_list (x ∷ xs) (y ∷ ys) forth back = ap (λ z. z ∷ xs) (sym (same_Some y x (forth 0 x refl))) ∙ ap (λ zs. y ∷ zs) (same_list xs ys (λ n. forth (suc n)) (λ n. back (suc n)))

-- an entry of a journal has its place among its caller's
abbrev IsNumbered : ℕ → ℕ → ObjectEntry → List (ℕ × ObjectEntry) → Type 0
IsNumbered c n x pairs = (i : ℕ) × (slice_get pairs i ≡ Some (n, x))

with_pair : (b : Bool) (m c n : ℕ) (y x : ObjectEntry) (pairs : List (ℕ × ObjectEntry)) → IsNumbered c n x pairs → IsNumbered c n x (cond b ((m, y) ∷ pairs) pairs)
with_pair true m c n y x pairs is = (suc is.0, is.1)
with_pair false m c n y x pairs is = is

number_there : (m : ℕ) (journal : List ObjectEntry) (n : ℕ) (x : ObjectEntry) → slice_get journal n ≡ Some x → IsNumbered x.caller (m + n) x (numbered_from m x.caller journal)
number_there m [] n x at = absurd (none-some x at)
number_there m (y ∷ journal) zero x at =
    let same : y ≡ x = same_Some y x at in
    let mine : (y.caller == x.caller) ≡ true = eq-eqb y.caller x.caller (ap (λ (e : ObjectEntry). e.caller) same) in
    let pairs = numbered_from (m + 1) x.caller journal in
    let first : IsNumbered x.caller (m + 0) x ((m, y) ∷ pairs) = (0, ap (λ (e : ObjectEntry). let p : ℕ × ObjectEntry = (m, e) in Some p) same ∙ ap (λ (k : ℕ). let p : ℕ × ObjectEntry = (k, x) in Some p) (omega arith)) in
    subst (λ (b : Bool). IsNumbered x.caller (m + 0) x (cond b ((m, y) ∷ pairs) pairs)) (sym mine) first
number_there m (y ∷ journal) (suc n) x at =
    let later = number_there (m + 1) journal n x at in
    let next : IsNumbered x.caller (m + suc n) x (numbered_from (m + 1) x.caller journal) = (later.0, later.1 ∙ ap (λ (k : ℕ). let p : ℕ × ObjectEntry = (k, x) in Some p) (omega arith)) in
    with_pair (y.caller == x.caller) m x.caller (m + suc n) y x (numbered_from (m + 1) x.caller journal) next

-- and what is there has its number
number_from : (m c : ℕ) (journal : List ObjectEntry) (i : ℕ) (pair : ℕ × ObjectEntry) → slice_get (numbered_from m c journal) i ≡ Some pair → (n : ℕ) × (pair.0 ≡ m + n) × (slice_get journal n ≡ Some pair.1)
number_from m c [] i pair at = absurd (none-some pair at)
number_from m c (y ∷ journal) i pair at = by_caller (y.caller == c) i at (λ j there. number_from (m + 1) c journal j pair there) where
  later : (n : ℕ) × (pair.0 ≡ m + 1 + n) × (slice_get journal n ≡ Some pair.1) → (n : ℕ) × (pair.0 ≡ m + n) × (slice_get (y ∷ journal) n ≡ Some pair.1)
  later (n, is, there) = (suc n, is ∙ omega arith, there)

  by_caller : (b : Bool) (i : ℕ) → slice_get (cond b ((m, y) ∷ numbered_from (m + 1) c journal) (numbered_from (m + 1) c journal)) i ≡ Some pair
      → ((j : ℕ) → slice_get (numbered_from (m + 1) c journal) j ≡ Some pair → (n : ℕ) × (pair.0 ≡ m + 1 + n) × (slice_get journal n ≡ Some pair.1))
      → (n : ℕ) × (pair.0 ≡ m + n) × (slice_get (y ∷ journal) n ≡ Some pair.1)
  by_caller true zero at rest =
      let one : ℕ × ObjectEntry = (m, y) in
      let same : one ≡ pair = same_Some one pair at in
      (0, sym (ap (λ (p : ℕ × ObjectEntry). p.0) same) ∙ omega arith, ap (λ (p : ℕ × ObjectEntry). Some p.1) same)
  by_caller true (suc j) at rest = later (rest j at)
  by_caller false j at rest = later (rest j at)

-- so journals are one, where each caller's entries have the same numbers
pub same_journal : (one other : List ObjectEntry) → ((worker : ℕ) → numbered_by worker one ≡ numbered_by worker other) → one ≡ other
same_journal one other same = same_list one other (across one other same) (across other one (λ worker. sym (same worker))) where
  across : (xs ys : List ObjectEntry) → ((worker : ℕ) → numbered_by worker xs ≡ numbered_by worker ys) → (n : ℕ) (x : ObjectEntry) → slice_get xs n ≡ Some x → slice_get ys n ≡ Some x
  across xs ys same n x at =
      let there = number_there 0 xs n x at in
      let mine : ℕ × ObjectEntry = (0 + n, x) in
      let found = number_from 0 x.caller ys there.0 mine (subst (λ (pairs : List (ℕ × ObjectEntry)). slice_get pairs there.0 ≡ Some mine) (same x.caller) there.1) in
      let place : found.0 ≡ n = omega (arith, found.1) in
      subst (λ (k : ℕ). slice_get ys k ≡ Some x) place found.2

-- lists of journals are one, where each object has the same
pub same_journals : (ones others : List (List ObjectEntry)) → length ones ≡ length others → ((object : ℕ) → get_or ones object [] ≡ get_or others object []) → ones ≡ others
same_journals [] [] long same = refl
same_journals [] (y ∷ ys) long same = absurd (omega (arith, long))
same_journals (x ∷ xs) [] long same = absurd (omega (arith, long))
same_journals (x ∷ xs) (y ∷ ys) long same = ap (λ z. z ∷ xs) (same 0) ∙ ap (λ zs. y ∷ zs) (same_journals xs ys (omega (arith, long)) (λ object. same (suc object)))

pub journals_once : (claim : Claim) (one other : Account) → HasJournals claim one → HasJournals claim other → one.journals ≡ other.journals
journals_once claim one other first second =
    same_journals one.journals other.journals (first.objects ∙ sym second.objects)
    (λ object. same_journal (get_or one.journals object []) (get_or other.journals object []) (λ worker. sym (first.told worker object) ∙ second.told worker object))
