-- A seed and its decimal text.
use Rattle.std.proofs.Common.{◌≡◌, ℕ, ◌^◌, ◌-◌, ◌<◌, zero, suc, Bool, true, false, ◌&&◌, cond, eqb, nat_le, List, [], ◌∷◌, length, get_or, Some, None, refl, ap, subst, arith}
use Rattle.std.specs.Str.{all_ascii_digits}
use Rattle.std.specs.Str.Parse.{digits_value}
use Rattle.std.specs.Fmt.{decimal}
use Rattle.std.proofs.lemmas.Str.Parse.{IsNumeralModel, numerals_by_value, tells_all_ascii_digits}
use Rattle.std.proofs.lemmas.Bool.{eqb-true, eq-eqb, leb-true, le-leb}
use Rattle.std.proofs.lemmas.Fmt.{digits_value-decimal, digits_decimal, first_decimal, decimal_nonempty, decimal_digit}
use Rattle.workload.specs.NumberWords.{is_number, number_of}
use Rattle.command_line.specs.Seed.{seed_of}

numerals : IsNumeralModel (λ ds. all_ascii_digits ds ≡ true) (digits_value 10)
numerals = numerals_by_value (λ ds. all_ascii_digits ds ≡ true) tells_all_ascii_digits

module _ (word : List ℕ) (seed : ℕ) (spelled : is_number word ≡ true → number_of word < 2 ^ 64 → decimal (number_of word) ≡ word) where
  in_range : (a b : Bool) → is_number word ≡ a → nat_le (number_of word) (2 ^ 64 - 1) ≡ b → cond (a && b) (Some (number_of word)) None ≡ Some seed → (seed < 2 ^ 64) × (decimal seed ≡ word)
  in_range true true number most is =
      let value : number_of word ≡ seed = cc in
      let small : number_of word < 2 ^ 64 = omega (arith, leb-true (number_of word) (2 ^ 64 - 1) most) in
      (subst (λ (n : ℕ). n < 2 ^ 64) value small, subst (λ (n : ℕ). decimal n ≡ word) value (spelled number small))
  in_range true false number most is = cc
  in_range false b number most is = cc

  -- a seed is below 2^64, and its decimal text is the word
  pub seed_spelled : seed_of word ≡ Some seed → (seed < 2 ^ 64) × (decimal seed ≡ word)
  seed_spelled is = in_range (is_number word) (nat_le (number_of word) (2 ^ 64 - 1)) refl refl is

numbered : (word : List ℕ) → all_ascii_digits word ≡ true → 0 < length word → (get_or word 0 0 ≡ 48 → length word ≡ 1) → is_number word ≡ true
numbered [] digits some alone_zero = absurd (omega arith)
numbered (digit ∷ digits) all some alone_zero =
    rw all (elim (eqb digit 48) as (λ b. eqb digit 48 ≡ b → cond b (eqb (length digits) 0) true ≡ true) [
      | true ↦ λ first. eq-eqb (length digits) 0 (omega (arith, alone_zero (eqb-true digit 48 first)))
      | false ↦ λ other. refl
    ] refl)

only_zero : (n : ℕ) → n < 2 ^ 64 → get_or (decimal n) 0 0 ≡ 48 → length (decimal n) ≡ 1
only_zero zero small e = ap length (decimal_digit 0 (omega arith))
only_zero (suc n) small e = absurd (omega (arith, first_decimal (suc n) (omega arith) small))

-- the decimal text of a number below 2^64 is this seed
pub text_is_seed : (word : List ℕ) (seed : ℕ) → seed < 2 ^ 64 → decimal seed ≡ word → seed_of word ≡ Some seed
text_is_seed word seed small is =
    let number : is_number (decimal seed) ≡ true = numbered (decimal seed) (digits_decimal numerals seed small) (decimal_nonempty seed small) (only_zero seed small) in
    let value : number_of (decimal seed) ≡ seed = digits_value-decimal numerals seed small in
    let most : nat_le seed (2 ^ 64 - 1) ≡ true = le-leb seed (2 ^ 64 - 1) (omega arith) in
    subst (λ (w : List ℕ). seed_of w ≡ Some seed) is (rw (number, value, most) refl)
