-- Two fronts together, place by place.
use Rattle.std.proofs.Common.{◌≡◌, ℕ, zero, suc, ◌+◌, max, List, [], ◌∷◌, drop, Some, slice_get, refl, sym, ap, ◌∙◌, subst, arith}
use Rattle.std.specs.Option.{option_map_or}
use Rattle.std.proofs.lemmas.Option.{none-some, same_Some}
use Rattle.kept_record.specs.Keeping.{joined}

alone : (front : List ℕ) → joined front [] ≡ front
alone [] = refl
alone (n ∷ front) = refl

dropped : (place : ℕ) (front : List ℕ) (n : ℕ) → slice_get front place ≡ Some n → drop place front ≡ n ∷ drop (suc place) front
dropped place [] n at = absurd (none-some n at)
dropped zero (m ∷ front) n at = ap (λ (k : ℕ). k ∷ front) (same_Some m n at)
dropped (suc place) (m ∷ front) n at = dropped place front n at

-- what stands at a place, and what is left behind it
next : (place : ℕ) (front other : List ℕ) (n : ℕ) → slice_get front place ≡ Some n
    → joined (drop place front) (drop place other) ≡ option_map_or (max n) (slice_get other place) n ∷ joined (drop (suc place) front) (drop (suc place) other)
next place [] other n at = absurd (none-some n at)
next zero (m ∷ front) [] n at = ap (λ (k : ℕ). k ∷ front) (same_Some m n at) ∙ ap (λ (l : List ℕ). n ∷ l) (sym (alone front))
next zero (m ∷ front) (k ∷ other) n at = ap (λ (j : ℕ). max j k ∷ joined front other) (same_Some m n at)
next (suc place) (m ∷ front) [] n at = alone (drop place front) ∙ (dropped place front n at ∙ ap (λ (l : List ℕ). n ∷ l) (sym (alone (drop (suc place) front))))
next (suc place) (m ∷ front) (k ∷ other) n at = next place front other n at

pub next_place : (place : ℕ) (front other : List ℕ) (n : ℕ) → slice_get front place ≡ Some n
    → joined (drop place front) (drop place other) ≡ option_map_or (max n) (slice_get other place) n ∷ joined (drop (place + 1) front) (drop (place + 1) other)
next_place place front other n at =
    let one : suc place ≡ place + 1 = omega arith in
    subst (λ (k : ℕ). joined (drop place front) (drop place other) ≡ option_map_or (max n) (slice_get other place) n ∷ joined (drop k front) (drop k other)) one (next place front other n at)
