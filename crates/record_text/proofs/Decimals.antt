-- Which words are numbers.
use Rattle.std.proofs.Common.{◌≡◌, ℕ, ◌+◌, ◌-◌, ℤ, pos, negsuc, ◌^◌, ◌<◌, ◌≤◌, zero, suc, Bool, true, false, ◌&&◌, cond, eqb, nat_le, List, [], ◌∷◌, length, get_or, Option, Some, None, refl, sym, ap, ◌∙◌, subst, arith}
use Rattle.std.specs.Prelude.{nat_lt, IfNone, IfSome}
use Rattle.std.specs.Str.{all_ascii_digits}
use Rattle.std.specs.Str.Parse.{digits_value}
use Rattle.std.specs.Fmt.{decimal, signed_decimal}
use Rattle.std.proofs.lemmas.Bool.{eqb-true, eq-eqb, false≢true, leb-true, le-leb, ltb-true, lt-ltb}
use Rattle.std.proofs.lemmas.Fmt.{digits_value-decimal, digits_decimal, first_decimal, decimal_nonempty, decimal_digit, decimal_injective}
use Rattle.std.proofs.lemmas.Str.Parse.{IsNumeralModel, numerals_by_value, tells_all_ascii_digits}
use Rattle.workload.specs.NumberWords.{is_number, is_number_to, number_of}
use Rattle.record_text.specs.declared.item_line.Whole.TheVariants.{Natural, Below}
use Rattle.record_text.specs.Numbers.{has_32_bits, has_64_bits, is_int64, is_whole, whole_word}
use Rattle.record_text.specs.Reading.{IsNone, IsRead}

numerals : IsNumeralModel (λ ds. all_ascii_digits ds ≡ true) (digits_value 10)
numerals = numerals_by_value (λ ds. all_ascii_digits ds ≡ true) tells_all_ascii_digits

pub both : (x y : Bool) → (x && y) ≡ true → (x ≡ true) × (y ≡ true)
both true true h = (refl, refl)
both true false h = absurd (false≢true h)
both false y h = absurd (false≢true h)

pub pair : (x y : Bool) → x ≡ true → y ≡ true → (x && y) ≡ true
pair x y h k = ap (λ b. b && y) h ∙ k

pub digits : (n : ℕ) → n < 2 ^ 64 → all_ascii_digits (decimal n) ≡ true
digits n small = digits_decimal numerals n small

pub number_of-decimal : (n : ℕ) → n < 2 ^ 64 → number_of (decimal n) ≡ n
number_of-decimal n small = digits_value-decimal numerals n small

alone : (n : ℕ) → n < 2 ^ 64 → get_or (decimal n) 0 0 ≡ 48 → length (decimal n) ≡ 1
alone zero small e = ap length (decimal_digit 0 (omega arith))
alone (suc n) small e = absurd (omega (arith, first_decimal (suc n) (omega arith) small))

numbered : (word : List ℕ) → all_ascii_digits word ≡ true → 0 < length word → (get_or word 0 0 ≡ 48 → length word ≡ 1) → is_number word ≡ true
numbered [] h some one = absurd (omega (arith, some))
numbered (d ∷ ds) h some one = by (eqb d 48) refl where
  by : (b : Bool) → eqb d 48 ≡ b → (all_ascii_digits (d ∷ ds) && cond b (eqb (length ds) 0) true) ≡ true
  by true is = ap (λ x. x && eqb (length ds) 0) h ∙ eq-eqb (length ds) 0 (let e = one (eqb-true d 48 is) in omega (arith, e))
  by false is = ap (λ x. x && true) h

is_to : (n : ℕ) → n < 2 ^ 64 → is_number_to 18446744073709551615 (decimal n) ≡ true
is_to n small =
    let value = digits_value-decimal numerals n small in
    ap (λ x. x && nat_le (number_of (decimal n)) 18446744073709551615) (numbered (decimal n) (digits n small) (decimal_nonempty n small) (alone n small))
    ∙ le-leb (number_of (decimal n)) 18446744073709551615 (omega (arith, value, small))

pub small : (n : ℕ) → has_64_bits n ≡ true → n < 2 ^ 64
small n h = ltb-true n (2 ^ 64) h

pub smaller : (n : ℕ) → has_32_bits n ≡ true → n < 2 ^ 64
smaller n h = let low = ltb-true n (2 ^ 32) h in omega (arith, low)

-- the word of a number is what `number` reads it from
pub as_read : (word : List ℕ) (read : Option ℕ) → IfNone read (is_number_to 18446744073709551615 word ≡ false) → IfSome read (λ n. (n ≡ number_of word) × (n ≤ 18446744073709551615)) → IfSome read (λ n. decimal n ≡ word) → IsRead has_64_bits decimal word read
as_read word None none value spelled = λ n fits e. false≢true (sym none ∙ subst (λ w. is_number_to 18446744073709551615 w ≡ true) e (is_to n (small n fits)))
as_read word (Some n) none value spelled = (lt-ltb n (2 ^ 64) (let most = value.1 in omega (arith, most)), spelled)

-- a number at the limit or past it is none below it
pub none_below : (word : List ℕ) (n limit : ℕ) → has_64_bits n ≡ true → decimal n ≡ word → limit ≤ n → IsNone (λ x. nat_lt x limit) decimal word
none_below word n limit fits is past = λ x below e.
    let less = ltb-true x limit below in
    let fit = small n fits in
    let same = decimal_injective x n (omega (arith, less, fit, past)) fit (e ∙ sym is) in
    omega (arith, same, less, past)

-- ---- behind a `-`

abbrev pub is_magnitude : ℕ → Bool
is_magnitude n = nat_lt 0 n && nat_le n (2 ^ 63)

magnitude : (n : ℕ) → is_magnitude n ≡ true → (0 < n) × (n ≤ 2 ^ 63)
magnitude n h = let parts = both (nat_lt 0 n) (nat_le n (2 ^ 63)) h in (ltb-true 0 n parts.0, leb-true n (2 ^ 63) parts.1)

pub none_other : (word : List ℕ) → IsNone has_64_bits decimal word → IsNone is_magnitude decimal word
none_other word none = λ n fits e. none n (lt-ltb n (2 ^ 64) (let high = (magnitude n fits).1 in omega (arith, high))) e

-- a number that may not stand there is none that may
pub no_magnitude : (word : List ℕ) (n : ℕ) → has_64_bits n ≡ true → decimal n ≡ word → (is_magnitude n ≡ true → ⊥) → IsNone is_magnitude decimal word
no_magnitude word n fits is none = λ x may e.
    let high = (magnitude x may).1 in
    none (subst (λ (k : ℕ). is_magnitude k ≡ true) (decimal_injective x n (omega (arith, high)) (small n fits) (e ∙ sym is)) may)

pub no_zero : (n : ℕ) → n ≡ 0 → is_magnitude n ≡ true → ⊥
no_zero n none h = let low = (magnitude n h).0 in omega (arith, low, none)

pub no_more : (n : ℕ) → 2 ^ 63 < n → is_magnitude n ≡ true → ⊥
no_more n more h = let high = (magnitude n h).1 in omega (arith, high, more)

pub is_magnitude_of : (n : ℕ) → (n ≡ 0 → ⊥) → n ≤ 2 ^ 63 → is_magnitude n ≡ true
is_magnitude_of n some few = pair (nat_lt 0 n) (nat_le n (2 ^ 63)) (lt-ltb 0 n (omega (arith, some))) (le-leb n (2 ^ 63) few)

pub no_sign : (n : ℕ) (bytes : List ℕ) → n < 2 ^ 64 → decimal n ≡ 45 ∷ bytes → ⊥
no_sign n bytes fits e = false≢true (both false (all_ascii_digits bytes) (subst (λ (w : List ℕ). all_ascii_digits w ≡ true) e (digits n fits))).0

tail : (byte other : ℕ) (bytes others : List ℕ) → byte ∷ bytes ≡ other ∷ others → bytes ≡ others
tail byte other bytes others e = cc

head : (byte other : ℕ) (bytes others : List ℕ) → byte ∷ bytes ≡ other ∷ others → byte ≡ other
head byte other bytes others e = cc

pub no_whole_below : (bytes : List ℕ) → IsNone is_magnitude decimal bytes → IsNone is_whole whole_word (45 ∷ bytes)
no_whole_below bytes none (Natural n) fits e = no_sign n bytes (small n fits) e
no_whole_below bytes none (Below n) fits e = none n fits (tail 45 45 (decimal n) bytes e)

pub no_whole_natural : (byte : ℕ) (bytes : List ℕ) → (byte ≡ 45 → ⊥) → IsNone has_64_bits decimal (byte ∷ bytes) → IsNone is_whole whole_word (byte ∷ bytes)
no_whole_natural byte bytes other none (Natural n) fits e = none n fits e
no_whole_natural byte bytes other none (Below n) fits e = other (sym (head 45 byte (decimal n) bytes e))

pub no_whole_empty : (word : List ℕ) → length word ≡ 0 → IsNone is_whole whole_word word
no_whole_empty word empty (Natural n) fits e = let some = decimal_nonempty n (small n fits) in let same = ap length e in omega (arith, some, same, empty)
no_whole_empty word empty (Below n) fits e = let same = ap length e in omega (arith, same, empty)

-- ---- numbers with a sign

pub int_below : (bytes : List ℕ) (n : ℕ) → is_magnitude n ≡ true → decimal n ≡ bytes → (is_int64 (negsuc (n - 1)) ≡ true) × (signed_decimal (negsuc (n - 1)) ≡ 45 ∷ bytes)
int_below bytes n fits is =
    let (low, high) = magnitude n fits in
    let same : suc (n - 1) ≡ n = omega (arith, low) in
    (lt-ltb (n - 1) (2 ^ 63) (omega (arith, low, high)), ap (λ k. 45 ∷ decimal k) same ∙ ap (λ (ds : List ℕ). 45 ∷ ds) is)

pub no_int_below : (bytes : List ℕ) → IsNone is_magnitude decimal bytes → IsNone is_int64 signed_decimal (45 ∷ bytes)
no_int_below bytes none (pos n) fits e = no_sign n bytes (let low = ltb-true n (2 ^ 63) fits in omega (arith, low)) e
no_int_below bytes none (negsuc n) fits e =
    none (suc n) (is_magnitude_of (suc n) (λ same. omega (arith, same)) (let low = ltb-true n (2 ^ 63) fits in omega (arith, low))) (tail 45 45 (decimal (suc n)) bytes e)

pub no_int_natural : (byte : ℕ) (bytes : List ℕ) → (byte ≡ 45 → ⊥) → IsNone (λ n. nat_lt n (2 ^ 63)) decimal (byte ∷ bytes) → IsNone is_int64 signed_decimal (byte ∷ bytes)
no_int_natural byte bytes other none (pos n) fits e = none n fits e
no_int_natural byte bytes other none (negsuc n) fits e = other (sym (head 45 byte (decimal (suc n)) bytes e))

pub no_int_empty : (word : List ℕ) → length word ≡ 0 → IsNone is_int64 signed_decimal word
no_int_empty word empty (pos n) fits e = let some = decimal_nonempty n (let low = ltb-true n (2 ^ 63) fits in omega (arith, low)) in let same = ap length e in omega (arith, some, same, empty)
no_int_empty word empty (negsuc n) fits e = let same = ap length e in omega (arith, same, empty)
