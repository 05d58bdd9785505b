-- Tests that pass.
use Rattle.std.proofs.Common.{◌≡◌, ℕ, zero, suc, Bool, true, false, ◌&&◌, not, List, [], ◌∷◌, ◌++◌, get_or, set, refl}
use Rattle.std.specs.List.{list_all}

-- what two tests that pass together say
pub both : (a b : Bool) → (a && b) ≡ true → (a ≡ true) × (b ≡ true)
both true b e = (refl, e)
both false b e = absurd cc

-- and back
pub pair : (a b : Bool) → a ≡ true → b ≡ true → (a && b) ≡ true
pair true b e f = f
pair false b e f = absurd cc

pub not_true : (a : Bool) → not a ≡ true → a ≡ false
not_true true e = absurd cc
not_true false e = refl

module _ {X : Type 0} where
  -- what passes one test of each passes another
  pub all_mono : (p q : X → Bool) → ((x : X) → p x ≡ true → q x ≡ true) → (xs : List X) → list_all p xs ≡ true → list_all q xs ≡ true
  all_mono p q h [] e = refl
  all_mono p q h (x ∷ xs) e =
      let parts = both (p x) (list_all p xs) e in
      pair (q x) (list_all q xs) (h x parts.0) (all_mono p q h xs parts.1)

  -- one more that passes, in the place of another
  pub all_set : (p : X → Bool) (xs : List X) (i : ℕ) (y : X) → p y ≡ true → list_all p xs ≡ true → list_all p (set xs i y) ≡ true
  all_set p [] i y one e = refl
  all_set p (x ∷ xs) zero y one e = pair (p y) (list_all p xs) one (both (p x) (list_all p xs) e).1
  all_set p (x ∷ xs) (suc i) y one e =
      let parts = both (p x) (list_all p xs) e in
      pair (p x) (list_all p (set xs i y)) parts.0 (all_set p xs i y one parts.1)

  -- two lists of which each passes
  pub all_append : (p : X → Bool) (xs ys : List X) → list_all p xs ≡ true → list_all p ys ≡ true → list_all p (xs ++ ys) ≡ true
  all_append p [] ys e f = f
  all_append p (x ∷ xs) ys e f =
      let parts = both (p x) (list_all p xs) e in
      pair (p x) (list_all p (xs ++ ys)) parts.0 (all_append p xs ys parts.1 f)

-- one of the lists whose items all pass
pub all_at : {X : Type 0} (p : X → Bool) (lists : List (List X)) (i : ℕ) → list_all (list_all p) lists ≡ true → list_all p (get_or lists i []) ≡ true
all_at p [] i e = refl
all_at p (xs ∷ lists) zero e = (both (list_all p xs) (list_all (list_all p) lists) e).0
all_at p (xs ∷ lists) (suc i) e = all_at p lists i (both (list_all p xs) (list_all (list_all p) lists) e).1
