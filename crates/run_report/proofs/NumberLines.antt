-- Lines of a word and a number each.
use Rattle.std.proofs.Common.{◌≡◌, ℕ, zero, suc, ◌<◌, ◌≤◌, ◌&&◌, Bool, true, false, List, [], ◌∷◌, length, get_or, nat_le, Bor, refl, arith}
use Rattle.std.proofs.lemmas.Bool.{leb-true}
use Rattle.run_report.specs.NumberLines.{are_short}

first : (a b : Bool) → (a && b) ≡ true → a ≡ true
first true b e = refl
first false b e = e

second : (a b : Bool) → (a && b) ≡ true → b ≡ true
second true b e = e
second false b e = absurd cc

-- a short word at an index
pub short_at : (entries : List (Bor (List ℕ) × ℕ)) (i : ℕ) (d : Bor (List ℕ) × ℕ) → are_short entries ≡ true → i < length entries → length (get_or entries i d).0.now ≤ 8
short_at [] i d short below = absurd (omega arith)
short_at (entry ∷ entries) zero d short below = leb-true (length entry.0.now) 8 (first (nat_le (length entry.0.now) 8) (are_short entries) short)
short_at (entry ∷ entries) (suc i) d short below = short_at entries i d (second (nat_le (length entry.0.now) 8) (are_short entries) short) (omega arith)
