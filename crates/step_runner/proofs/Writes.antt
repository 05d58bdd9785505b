-- Writes to a list.
use Rattle.std.proofs.Common.{◌≡◌, ◌≢◌, ℕ, zero, suc, List, [], ◌∷◌, set, Some, refl, ap, subst}
use Rattle.std.specs.Prelude.{slice_get}
use Rattle.std.proofs.lemmas.List.{set-get_or}
use Rattle.std.proofs.lemmas.Option.{get_or_from_slice_get}

-- an element that is written back changes nothing
pub set_back : {X : Type 0} (xs : List X) (i : ℕ) (x : X) → slice_get xs i ≡ Some x → set xs i x ≡ xs
set_back xs i x at = subst (λ y. set xs i y ≡ xs) (get_or_from_slice_get xs i x x at) (set-get_or xs i x)

-- a write leaves an element at another place
pub get_other : {X : Type 0} (xs : List X) (i k : ℕ) (next found : X) → k ≢ i → slice_get xs k ≡ Some found → slice_get (set xs i next) k ≡ Some found
get_other [] i k next found apart e = e
get_other (x ∷ xs) zero zero next found apart e = absurd (apart refl)
get_other (x ∷ xs) zero (suc k) next found apart e = e
get_other (x ∷ xs) (suc i) zero next found apart e = e
get_other (x ∷ xs) (suc i) (suc k) next found apart e = get_other xs i k next found (λ same. apart (ap suc same)) e

set_twice : {X : Type 0} (xs : List X) (i : ℕ) (x y : X) → set (set xs i x) i y ≡ set xs i y
set_twice [] i x y = refl
set_twice (z ∷ xs) zero x y = refl
set_twice {X = X} (z ∷ xs) (suc i) x y = ap (λ (l : List X). z ∷ l) (set_twice xs i x y)

pub set_past : {X : Type 0} (xs : List X) (i k : ℕ) (x y z : X) → k ≢ i → set (set (set xs i x) k y) i z ≡ set (set xs i z) k y
set_past [] i k x y z two = refl
set_past (w ∷ xs) zero zero x y z two = absurd (two refl)
set_past (w ∷ xs) zero (suc k) x y z two = refl
set_past {X = X} (w ∷ xs) (suc i) zero x y z two = ap (λ (l : List X). y ∷ l) (set_twice xs i x z)
set_past {X = X} (w ∷ xs) (suc i) (suc k) x y z two = ap (λ (l : List X). w ∷ l) (set_past xs i k x y z (λ same. two (ap suc same)))
