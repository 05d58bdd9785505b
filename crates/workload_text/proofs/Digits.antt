-- What the digits of a number stand for, digit by digit.
use Rattle.std.proofs.Common.{◌≡◌, ℕ, ◌+◌, ◌-◌, ◌*◌, ◌<◌, ◌≤◌, true, List, length, get_or, take, arith}
use Rattle.std.specs.Int.{IsInRange}
use Rattle.std.specs.Str.{all_ascii_digits}
use Rattle.std.proofs.lemmas.Int.Digits.{digits_value_more}
use Rattle.std.proofs.lemmas.Str.{digit_value_digit}
use Rattle.std.proofs.lemmas.Str.Parse.{numerals_by_value, tells_all_ascii_digits, digit_at, digits_value-take-le}
use Rattle.workload.specs.NumberWords.{number_of}

pub digit_in : (word : List ℕ) (i : ℕ) → all_ascii_digits word ≡ true → i < length word → IsInRange 48 57 (get_or word i 0)
digit_in word i digits lt = digit_at word i ((numerals_by_value (λ ds. all_ascii_digits ds ≡ true) tells_all_ascii_digits).to word digits) lt

-- one more digit
pub number_more : (word : List ℕ) (i : ℕ) → all_ascii_digits word ≡ true → i < length word → number_of (take (i + 1) word) ≡ number_of (take i word) * 10 + (get_or word i 0 - 48)
number_more word i digits lt =
    omega (arith, digits_value_more 10 word i lt, digit_value_digit (get_or word i 0) (digit_in word i digits lt))

-- a front is at most the whole
pub number_front : (word : List ℕ) (i : ℕ) → number_of (take i word) ≤ number_of word
number_front word i = digits_value-take-le 10 word i (omega arith)
