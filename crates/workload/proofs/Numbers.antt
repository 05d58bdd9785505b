-- Numbers in digits.
use Rattle.std.proofs.Common.{◌≡◌, ℕ, ◌^◌, ◌<◌, zero, suc, Bool, true, false, cond, eqb, List, [], ◌∷◌, length, get_or, refl, ap, subst, arith}
use Rattle.std.specs.Str.{all_ascii_digits}
use Rattle.std.specs.Str.Parse.{digits_value}
use Rattle.std.proofs.lemmas.Str.Parse.{IsNumeralModel, numerals_by_value, tells_all_ascii_digits}
use Rattle.std.specs.Fmt.{decimal}
use Rattle.std.proofs.lemmas.Bool.{eqb-true, eq-eqb}
use Rattle.std.proofs.lemmas.Fmt.{decimal-digits_value, digits_value-decimal, digits_decimal, first_decimal, decimal_nonempty, decimal_digit}
use Rattle.workload.specs.NumberWords.{is_number, number_of}
use Rattle.workload.proofs.Passing.{both, pair}

alone : (digit : ℕ) (digits : List ℕ) → digit ≡ 48 → cond (eqb digit 48) (eqb (length digits) 0) true ≡ true → length digits ≡ 0
alone digit digits is e = eqb-true (length digits) 0 (subst (λ (b : Bool). cond b (eqb (length digits) 0) true ≡ true) (eq-eqb digit 48 is) e)

-- the words of digits, and what they stand for
pub numerals : IsNumeralModel (λ ds. all_ascii_digits ds ≡ true) (digits_value 10)
numerals = numerals_by_value (λ ds. all_ascii_digits ds ≡ true) tells_all_ascii_digits

-- a word that is a number is what the number is spelled as
pub decimal-number_of : (word : List ℕ) → is_number word ≡ true → number_of word < 2 ^ 64 → decimal (number_of word) ≡ word
decimal-number_of [] is small = absurd cc
decimal-number_of (digit ∷ digits) is small =
    let parts = both (all_ascii_digits (digit ∷ digits)) (cond (eqb digit 48) (eqb (length digits) 0) true) is in
    decimal-digits_value numerals (digit ∷ digits) parts.0 (omega arith) (λ first. ap suc (alone digit digits first parts.1)) small

numbered : (word : List ℕ) → all_ascii_digits word ≡ true → 0 < length word → (get_or word 0 0 ≡ 48 → length word ≡ 1) → is_number word ≡ true
numbered [] digits some alone-zero = absurd (omega arith)
numbered (digit ∷ digits) all some alone-zero =
    pair (all_ascii_digits (digit ∷ digits)) (cond (eqb digit 48) (eqb (length digits) 0) true) all
    (elim (eqb digit 48) as (λ b. eqb digit 48 ≡ b → cond b (eqb (length digits) 0) true ≡ true) [
      | true ↦ λ first. eq-eqb (length digits) 0 (omega (arith, alone-zero (eqb-true digit 48 first)))
      | false ↦ λ other. refl
    ] refl)

-- a number is spelled in digits without a leading zero, which stand for it
pub is_number-decimal : (n : ℕ) → n < 2 ^ 64 → is_number (decimal n) ≡ true
is_number-decimal n small =
    numbered (decimal n) (digits_decimal numerals n small) (decimal_nonempty n small) (λ first. only_zero n small first)
  where
    only_zero : (n : ℕ) → n < 2 ^ 64 → get_or (decimal n) 0 0 ≡ 48 → length (decimal n) ≡ 1
    only_zero zero small e = ap length (decimal_digit 0 (omega arith))
    only_zero (suc n) small e = absurd (omega (arith, first_decimal (suc n) (omega arith) small))

pub number_of-decimal : (n : ℕ) → n < 2 ^ 64 → number_of (decimal n) ≡ n
number_of-decimal n small = digits_value-decimal numerals n small
