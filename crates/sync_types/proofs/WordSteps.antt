-- Steps on words are operations on their numbers.
use Rattle.std.proofs.Common.{◌≡◌, ℕ, zero, suc, ℤ, pos, negsuc, ◌+◌, ◌*◌, ◌/◌, ◌%◌, ◌^◌, ◌<◌, Bool, true, false, not, cond, nat_lt, bit_and, bit_or, refl, sym, ap, subst, ◌∙◌, arith}
use Rattle.std.specs.Prelude.{◌==◌, FitsSigned}
use Rattle.std.specs.Bool.{one_answer}
use Rattle.std.specs.Int.{w32, w64, cast_unsigned, cast_signed}
use Rattle.std.specs.Ordering.{int_eq}
use Rattle.std.proofs.lemmas.Bool.{ltb-true, lt-ltb}
use Rattle.std.proofs.lemmas.Bool.Decides.{Decides-eqb, Decides-int_eq}
use Rattle.std.proofs.lemmas.Int.{of_z-to_z, to_z-of_z}
use Rattle.std.proofs.Math.Facts.{Fits-of_z}
use Rattle.sync_types.specs.declared.atomic_object.AtomicKind.{AtomicKind}
use Rattle.sync_types.specs.declared.atomic_object.AtomicKind.TheVariants as kinds
use Rattle.sync_types.specs.declared.atomic_object.Number.{Number}
use Rattle.sync_types.specs.declared.atomic_object.Number.TheVariants.{Int32, Int64, Uint32, Uint64, Bool as Truth}
use Rattle.sync_types.specs.SequentialAtomic.{is_signed, has_bits, is_of, is_same, sum, bits_of_both, bits_of_either}
use Rattle.sync_types.specs.WordLayout.{word_of, is_word, number_in}
use Rattle.sync_types.proofs.WordLemmas.{IsBitwise, is_high, high_is, is_high-shl, below, high, is_word-bitwise, and_bitwise, or_bitwise}

fits32 : (z : ℤ) → is_signed (2 ^ 31) z ≡ true → FitsSigned w32 z
fits32 (pos n) e = record { sfits = ltb-true n (2 ^ 31) e }
fits32 (negsuc n) e = record { sfits = ltb-true n (2 ^ 31) e }

fits64 : (z : ℤ) → is_signed (2 ^ 63) z ≡ true → FitsSigned w64 z
fits64 (pos n) e = record { sfits = ltb-true n (2 ^ 63) e }
fits64 (negsuc n) e = record { sfits = ltb-true n (2 ^ 63) e }

bits32 : (z : ℤ) → is_signed (2 ^ 31) z ≡ true → cast_unsigned w32 z < 2 ^ 32
bits32 z e = (Fits-of_z (fits32 z e)).fits

bits64 : (z : ℤ) → is_signed (2 ^ 63) z ≡ true → cast_unsigned w64 z < 2 ^ 64
bits64 z e = (Fits-of_z (fits64 z e)).fits

half : (n : ℕ) → n * 2 ^ 32 / 2 ^ 32 ≡ n
half n = omega arith

pub read : (kind : AtomicKind) (number : Number) → is_of kind number ≡ true → (is_word kind (word_of number) ≡ true) × (number_in kind (word_of number) ≡ number)
read kinds.Int32 (Int32 z) e = (is_high-shl (cast_unsigned w32 z) (bits32 z e), ap (λ n. Int32 (cast_signed w32 n)) (half (cast_unsigned w32 z)) ∙ ap (λ x. Int32 x) (to_z-of_z w32 z (fits32 z e)))
read kinds.Int64 (Int64 z) e = (lt-ltb (cast_unsigned w64 z) (2 ^ 64) (bits64 z e), ap (λ x. Int64 x) (to_z-of_z w64 z (fits64 z e)))
read kinds.Uint32 (Uint32 n) e = (is_high-shl n (ltb-true n (2 ^ 32) e), ap (λ m. Uint32 m) (half n))
read kinds.Uint64 (Uint64 n) e = (e, refl)
read kinds.Bool (Truth true) e = (refl, refl)
read kinds.Bool (Truth false) e = (refl, refl)
read kind number e = absurd cc

-- two words of numbers of 32 bits, added
high_sum : (word n : ℕ) → is_high word ≡ true → n < 2 ^ 32 → (word + n * 2 ^ 32) % 2 ^ 64 ≡ (word / 2 ^ 32 + n) % 2 ^ 32 * 2 ^ 32
high_sum word n e fits = let parts = high_is word e in let top = parts.0 in let whole = parts.1 in omega arith

high_sum_word : (word n : ℕ) → is_high word ≡ true → n < 2 ^ 32 → is_high ((word + n * 2 ^ 32) % 2 ^ 64) ≡ true
high_sum_word word n e fits = subst (λ w. is_high w ≡ true) (sym (high_sum word n e fits)) (is_high-shl ((word / 2 ^ 32 + n) % 2 ^ 32) (omega arith))

high_sum_half : (word n : ℕ) → is_high word ≡ true → n < 2 ^ 32 → (word + n * 2 ^ 32) % 2 ^ 64 / 2 ^ 32 ≡ (word / 2 ^ 32 + n) % 2 ^ 32
high_sum_half word n e fits = ap (λ w. w / 2 ^ 32) (high_sum word n e fits) ∙ half ((word / 2 ^ 32 + n) % 2 ^ 32)

whole_sum : (n : ℕ) → nat_lt (n % 2 ^ 64) (2 ^ 64) ≡ true
whole_sum n = lt-ltb (n % 2 ^ 64) (2 ^ 64) (omega arith)

pub added : (kind : AtomicKind) (word : ℕ) (operand : Number) → has_bits kind ≡ true → is_word kind word ≡ true → is_of kind operand ≡ true
    → (is_word kind ((word + word_of operand) % 2 ^ 64) ≡ true) × (number_in kind ((word + word_of operand) % 2 ^ 64) ≡ sum (number_in kind word) operand)
added kinds.Int32 word (Int32 z) bits e f = let u = cast_unsigned w32 z in (
  high_sum_word word u e (bits32 z f),
  ap (λ n. Int32 (cast_signed w32 n)) (high_sum_half word u e (bits32 z f)) ∙ ap (λ n. Int32 (cast_signed w32 ((n + u) % 2 ^ 32))) (sym (of_z-to_z w32 (word / 2 ^ 32) (high_is word e).0)),
)
added kinds.Int64 word (Int64 z) bits e f = let u = cast_unsigned w64 z in (whole_sum (word + u), ap (λ n. Int64 (cast_signed w64 ((n + u) % 2 ^ 64))) (sym (of_z-to_z w64 word (ltb-true word (2 ^ 64) e))))
added kinds.Uint32 word (Uint32 n) bits e f = let fits = ltb-true n (2 ^ 32) f in (high_sum_word word n e fits, ap (λ m. Uint32 m) (high_sum_half word n e fits))
added kinds.Uint64 word (Uint64 n) bits e f = (whole_sum (word + n), refl)
added kinds.Bool word operand bits e f = absurd cc
added kind word operand bits e f = absurd cc

-- bits of two words
module _ {op : ℕ → ℕ → ℕ} (bitwise : IsBitwise op) where
  high_bits : (word n : ℕ) → is_high word ≡ true → op word (n * 2 ^ 32) / 2 ^ 32 ≡ op (word / 2 ^ 32) n
  high_bits word n e = ap (λ w. w / 2 ^ 32) (high bitwise word n e) ∙ half (op (word / 2 ^ 32) n)

  signed_high_bits : (word n : ℕ) → is_high word ≡ true → cast_signed w32 (op word (n * 2 ^ 32) / 2 ^ 32) ≡ cast_signed w32 (op (cast_unsigned w32 (cast_signed w32 (word / 2 ^ 32))) n)
  signed_high_bits word n e = ap (cast_signed w32) (high_bits word n e) ∙ ap (λ m. cast_signed w32 (op m n)) (sym (of_z-to_z w32 (word / 2 ^ 32) (high_is word e).0))

  signed_whole_bits : (word n : ℕ) → nat_lt word (2 ^ 64) ≡ true → cast_signed w64 (op word n) ≡ cast_signed w64 (op (cast_unsigned w64 (cast_signed w64 word)) n)
  signed_whole_bits word n e = ap (λ m. cast_signed w64 (op m n)) (sym (of_z-to_z w64 word (ltb-true word (2 ^ 64) e)))

pub both_bits : (kind : AtomicKind) (word : ℕ) (operand : Number) → has_bits kind ≡ true → is_word kind word ≡ true → is_of kind operand ≡ true
    → (is_word kind (bit_and word (word_of operand)) ≡ true) × (number_in kind (bit_and word (word_of operand)) ≡ bits_of_both (number_in kind word) operand)
both_bits kinds.Int32 word (Int32 z) bits e f = (is_word-bitwise and_bitwise kinds.Int32 word (word_of (Int32 z)) bits e (read kinds.Int32 (Int32 z) f).0, ap (λ x. Int32 x) (signed_high_bits and_bitwise word (cast_unsigned w32 z) e))
both_bits kinds.Int64 word (Int64 z) bits e f = (is_word-bitwise and_bitwise kinds.Int64 word (word_of (Int64 z)) bits e (read kinds.Int64 (Int64 z) f).0, ap (λ x. Int64 x) (signed_whole_bits and_bitwise word (cast_unsigned w64 z) e))
both_bits kinds.Uint32 word (Uint32 n) bits e f = (is_word-bitwise and_bitwise kinds.Uint32 word (word_of (Uint32 n)) bits e (read kinds.Uint32 (Uint32 n) f).0, ap (λ m. Uint32 m) (high_bits and_bitwise word n e))
both_bits kinds.Uint64 word (Uint64 n) bits e f = (is_word-bitwise and_bitwise kinds.Uint64 word n bits e f, refl)
both_bits kinds.Bool word operand bits e f = absurd cc
both_bits kind word operand bits e f = absurd cc

pub either_bits : (kind : AtomicKind) (word : ℕ) (operand : Number) → has_bits kind ≡ true → is_word kind word ≡ true → is_of kind operand ≡ true
    → (is_word kind (bit_or word (word_of operand)) ≡ true) × (number_in kind (bit_or word (word_of operand)) ≡ bits_of_either (number_in kind word) operand)
either_bits kinds.Int32 word (Int32 z) bits e f = (is_word-bitwise or_bitwise kinds.Int32 word (word_of (Int32 z)) bits e (read kinds.Int32 (Int32 z) f).0, ap (λ x. Int32 x) (signed_high_bits or_bitwise word (cast_unsigned w32 z) e))
either_bits kinds.Int64 word (Int64 z) bits e f = (is_word-bitwise or_bitwise kinds.Int64 word (word_of (Int64 z)) bits e (read kinds.Int64 (Int64 z) f).0, ap (λ x. Int64 x) (signed_whole_bits or_bitwise word (cast_unsigned w64 z) e))
either_bits kinds.Uint32 word (Uint32 n) bits e f = (is_word-bitwise or_bitwise kinds.Uint32 word (word_of (Uint32 n)) bits e (read kinds.Uint32 (Uint32 n) f).0, ap (λ m. Uint32 m) (high_bits or_bitwise word n e))
either_bits kinds.Uint64 word (Uint64 n) bits e f = (is_word-bitwise or_bitwise kinds.Uint64 word n bits e f, refl)
either_bits kinds.Bool word operand bits e f = absurd cc
either_bits kind word operand bits e f = absurd cc

-- words are equal where their numbers are
high_same : (word n : ℕ) → is_high word ≡ true → (word ≡ n * 2 ^ 32 → word / 2 ^ 32 ≡ n) × (word / 2 ^ 32 ≡ n → word ≡ n * 2 ^ 32)
high_same word n e = let whole = (high_is word e).1 in ((λ is. ap (λ w. w / 2 ^ 32) is ∙ half n), (λ is. sym whole ∙ ap (λ m. m * 2 ^ 32) is))

pub compared : (kind : AtomicKind) (word : ℕ) (number : Number) → is_word kind word ≡ true → is_of kind number ≡ true → (word == word_of number) ≡ is_same (number_in kind word) number
compared kinds.Int32 word (Int32 z) e f =
    let u = cast_unsigned w32 z in
    let words = Decides-eqb word (u * 2 ^ 32) in
    let same = high_same word u e in
    let back = to_z-of_z w32 z (fits32 z f) in
    let there = of_z-to_z w32 (word / 2 ^ 32) (high_is word e).0 in
    one_answer (word == u * 2 ^ 32) (int_eq (cast_signed w32 (word / 2 ^ 32)) z)
    ((λ t. ap (cast_signed w32) (same.0 (words.0 t)) ∙ back), (λ is. words.1 (same.1 (sym there ∙ ap (cast_unsigned w32) is))))
    (Decides-int_eq (cast_signed w32 (word / 2 ^ 32)) z)
compared kinds.Int64 word (Int64 z) e f =
    let u = cast_unsigned w64 z in
    let words = Decides-eqb word u in
    let back = to_z-of_z w64 z (fits64 z f) in
    let there = of_z-to_z w64 word (ltb-true word (2 ^ 64) e) in
    one_answer (word == u) (int_eq (cast_signed w64 word) z) ((λ t. ap (cast_signed w64) (words.0 t) ∙ back), (λ is. words.1 (sym there ∙ ap (cast_unsigned w64) is))) (Decides-int_eq (cast_signed w64 word) z)
compared kinds.Uint32 word (Uint32 n) e f =
    let words = Decides-eqb word (n * 2 ^ 32) in
    let same = high_same word n e in
    one_answer (word == n * 2 ^ 32) (word / 2 ^ 32 == n) ((λ t. same.0 (words.0 t)), (λ is. words.1 (same.1 is))) (Decides-eqb (word / 2 ^ 32) n)
compared kinds.Uint64 word (Uint64 n) e f = refl
compared kinds.Bool word (Truth b) e f = truth word b (ltb-true word 2 e)
  where
    truth : (word : ℕ) (b : Bool) → word < 2 → (word == word_of (Truth b)) ≡ cond (not (word == 0)) b (not b)
    truth zero true below = refl
    truth zero false below = refl
    truth (suc zero) true below = refl
    truth (suc zero) false below = refl
    truth (suc (suc word)) b below = absurd (omega arith)
compared kind word number e f = absurd cc
