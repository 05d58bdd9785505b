-- One bit of a set of callers.
use Rattle.std.proofs.Common.{◌≢◌, ℕ, ◌<◌, ◌-◌, ◌*◌, ◌%◌, ◌^◌, ◌↔◌, bit_and, bit_or, sym, ap, ◌∙◌, arith, w64}
use Rattle.std.specs.Int.{bit_at, trailing_zeros}
use Rattle.std.proofs.lemmas.Nat.{and_le_l}
use Rattle.std.proofs.lemmas.Nat.Bits.{bit_at_set_same, bit_at_set_other, bit_at_clear_same, bit_at_clear_other, bit_at-trailing_zeros}
use Rattle.sync_model.specs.Callers.{Has}

-- one caller more
pub added : (n k : ℕ) → k < 64 → Has (bit_or n (1 * 2 ^ k % 18446744073709551616)) k
added n k below = bit_at_set_same w64 n k below

pub added_others : (n k other : ℕ) → k < 64 → other ≢ k → Has (bit_or n (1 * 2 ^ k % 18446744073709551616)) other ↔ Has n other
added_others n k other below apart = let same = bit_at_set_other w64 n k below other apart in ((λ h. sym same ∙ h), λ h. same ∙ h)

-- the caller of the lowest number
abbrev pub first : ℕ → ℕ
first n = trailing_zeros w64 n

abbrev pub rest : ℕ → ℕ
rest n = bit_and n (18446744073709551615 - 1 * 2 ^ first n % 18446744073709551616)

pub first_was_in : (n : ℕ) → 0 < n → n < 2 ^ 64 → Has n (first n)
first_was_in n some fits = (bit_at-trailing_zeros w64 n some fits).1

pub first_is_out : (n : ℕ) → 0 < n → n < 2 ^ 64 → Has (rest n) (first n) → ⊥
first_is_out n some fits has = let gone = bit_at_clear_same w64 n (first n) (bit_at-trailing_zeros w64 n some fits).0 in absurd (omega (arith, gone, has))

pub others_stay : (n other : ℕ) → 0 < n → n < 2 ^ 64 → other < 64 → other ≢ first n → Has (rest n) other ↔ Has n other
others_stay n other some fits below apart =
    let same = bit_at_clear_other w64 n (first n) (bit_at-trailing_zeros w64 n some fits).0 other below apart in ((λ h. sym same ∙ h), λ h. same ∙ h)

pub fewer : (n : ℕ) → 0 < n → n < 2 ^ 64 → rest n < n
fewer n some fits =
    let most = and_le_l n (18446744073709551615 - 1 * 2 ^ first n % 18446744073709551616) in
    let other : rest n ≢ n = λ same. first_is_out n some fits (ap (λ m. bit_at m (first n)) same ∙ first_was_in n some fits) in omega arith
