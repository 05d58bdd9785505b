-- The numbers of a list that a program has.
use Rattle.std.proofs.Common.{◌≡◌, ℕ, suc, ◌<◌, ◌^◌, ◌&&◌, Bool, true, List, [], ◌∷◌, get_or, refl, ap, ◌∙◌}
use Rattle.std.specs.List.{list_all}
use Rattle.std.proofs.lemmas.Bool.{lt-ltb}
use Rattle.record_text.specs.Numbers.{has_64_bits}

pub all_fit : (xs : List ℕ) → ((i : ℕ) → get_or xs i 0 < 2 ^ 64) → list_all has_64_bits xs ≡ true
all_fit [] fits = refl
all_fit (x ∷ xs) fits = ap (λ (b : Bool). b && list_all has_64_bits xs) (lt-ltb x (2 ^ 64) (fits 0)) ∙ all_fit xs (λ i. fits (suc i))
