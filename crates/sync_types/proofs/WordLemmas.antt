-- A bitwise operation on whole words is the operation on their numbers.
use Rattle.std.proofs.Common.{◌≡◌, ℕ, ◌+◌, ◌*◌, ◌/◌, ◌%◌, ◌^◌, ◌<◌, Bool, true, false, ◌&&◌, nat_lt, bit_and, bit_or, refl, sym, ap, subst, ◌∙◌, arith}
use Rattle.std.specs.Prelude.{◌==◌}
use Rattle.std.specs.Int.{w32, w64, cast_unsigned, cast_signed}
use Rattle.std.proofs.lemmas.Int.{of_z-to_z}
use Rattle.std.proofs.lemmas.Nat.{and_block, or_block, and_le_l, or_lt}
use Rattle.std.proofs.lemmas.Bool.{eqb-true, eq-eqb, ltb-true, lt-ltb}
use Rattle.sync_types.specs.declared.atomic_object.AtomicKind.{AtomicKind}
use Rattle.sync_types.specs.declared.atomic_object.AtomicKind.TheVariants as kinds
use Rattle.sync_types.specs.declared.atomic_object.Number.{Number}
use Rattle.sync_types.specs.declared.atomic_object.Number.TheVariants.{Int32, Int64, Uint32, Uint64}
use Rattle.sync_types.specs.SequentialAtomic.{has_bits, kind_of, bits_of_both, bits_of_either}
use Rattle.sync_types.specs.WordLayout.{word_of, is_word, number_in}

both : (a b : Bool) → (a && b) ≡ true → (a ≡ true) × (b ≡ true)
both true b e = (refl, e)
both false b e = absurd cc

pair : (a b : Bool) → a ≡ true → b ≡ true → (a && b) ≡ true
pair true b e f = f
pair false b e f = absurd cc

-- the word of a number of 32 bits
abbrev pub is_high : ℕ → Bool
is_high word = nat_lt word (2 ^ 64) && (word % 2 ^ 32 == 0)

pub high_is : (word : ℕ) → is_high word ≡ true → (word / 2 ^ 32 < 2 ^ 32) × (word / 2 ^ 32 * 2 ^ 32 ≡ word)
high_is word e =
    let parts = both (nat_lt word (2 ^ 64)) (word % 2 ^ 32 == 0) e in
    let fits = ltb-true word (2 ^ 64) parts.0 in
    let low = eqb-true (word % 2 ^ 32) 0 parts.1 in
    (omega arith, omega arith)

pub is_high-shl : (n : ℕ) → n < 2 ^ 32 → is_high (n * 2 ^ 32) ≡ true
is_high-shl n fits = pair (nat_lt (n * 2 ^ 32) (2 ^ 64)) ((n * 2 ^ 32) % 2 ^ 32 == 0) (lt-ltb (n * 2 ^ 32) (2 ^ 64) (omega arith)) (eq-eqb ((n * 2 ^ 32) % 2 ^ 32) 0 (omega arith))

pub below : (n : ℕ) → is_high (n * 2 ^ 32) ≡ true → n < 2 ^ 32
below n e = omega (arith, (high_is (n * 2 ^ 32) e).0)

-- an operation on words that goes bit by bit
pub record IsBitwise (op : ℕ → ℕ → ℕ) : Type 0 where
  pub shl : (a b : ℕ) → op (a * 2 ^ 32) (b * 2 ^ 32) ≡ op a b * 2 ^ 32
  pub fits : (k a b : ℕ) → a < 2 ^ k → b < 2 ^ k → op a b < 2 ^ k

module _ {op : ℕ → ℕ → ℕ} (bitwise : IsBitwise op) where
  pub high : (word n : ℕ) → is_high word ≡ true → op word (n * 2 ^ 32) ≡ op (word / 2 ^ 32) n * 2 ^ 32
  high word n e = ap (λ w. op w (n * 2 ^ 32)) (sym (high_is word e).1) ∙ bitwise.shl (word / 2 ^ 32) n

  high_signed : (word n : ℕ) → is_high word ≡ true → is_high (n * 2 ^ 32) ≡ true →
      op word (n * 2 ^ 32) ≡ cast_unsigned w32 (cast_signed w32 (op (cast_unsigned w32 (cast_signed w32 (word / 2 ^ 32))) n)) * 2 ^ 32
  high_signed word n e f =
      let half = (high_is word e).0 in
      let same = of_z-to_z w32 (word / 2 ^ 32) half in
      high word n e
      ∙ ap (λ m. m * 2 ^ 32) (sym (ap (λ m. cast_unsigned w32 (cast_signed w32 (op m n))) same ∙ of_z-to_z w32 (op (word / 2 ^ 32) n) (bitwise.fits 32 (word / 2 ^ 32) n half (below n f))))

  whole_signed : (word n : ℕ) → word < 2 ^ 64 → n < 2 ^ 64 → op word n ≡ cast_unsigned w64 (cast_signed w64 (op (cast_unsigned w64 (cast_signed w64 word)) n))
  whole_signed word n e f =
      sym (ap (λ m. cast_unsigned w64 (cast_signed w64 (op m n))) (of_z-to_z w64 word e) ∙ of_z-to_z w64 (op word n) (bitwise.fits 64 word n e f))

  whole_is_word : (word n : ℕ) → nat_lt word (2 ^ 64) ≡ true → nat_lt n (2 ^ 64) ≡ true → nat_lt (op word n) (2 ^ 64) ≡ true
  whole_is_word word n e f = lt-ltb (op word n) (2 ^ 64) (bitwise.fits 64 word n (ltb-true word (2 ^ 64) e) (ltb-true n (2 ^ 64) f))

  high_is_word : (word other : ℕ) → is_high word ≡ true → is_high other ≡ true → is_high (op word other) ≡ true
  high_is_word word other e f =
      let first = high_is word e in
      let second = high_is other f in
      subst (λ w. is_high w ≡ true)
      (sym (ap (λ n. op word n) (sym second.1) ∙ high word (other / 2 ^ 32) e))
      (is_high-shl (op (word / 2 ^ 32) (other / 2 ^ 32)) (bitwise.fits 32 (word / 2 ^ 32) (other / 2 ^ 32) first.0 second.0))

  -- of two words of a type it makes a third
  pub is_word-bitwise : (kind : AtomicKind) (word other : ℕ) → has_bits kind ≡ true → is_word kind word ≡ true → is_word kind other ≡ true → is_word kind (op word other) ≡ true
  is_word-bitwise kinds.Int32 word other bits e f = high_is_word word other e f
  is_word-bitwise kinds.Int64 word other bits e f = whole_is_word word other e f
  is_word-bitwise kinds.Uint32 word other bits e f = high_is_word word other e f
  is_word-bitwise kinds.Uint64 word other bits e f = whole_is_word word other e f
  is_word-bitwise kinds.Bool word other bits e f = absurd cc

no_low_half : (op : ℕ → ℕ → ℕ) (a b : ℕ) → op 0 0 ≡ 0 → op (a * 2 ^ 32 + 0) (b * 2 ^ 32 + 0) ≡ op a b * 2 ^ 32 + op 0 0 → op (a * 2 ^ 32) (b * 2 ^ 32) ≡ op a b * 2 ^ 32
no_low_half op a b zero block =
    let first : a * 2 ^ 32 + 0 ≡ a * 2 ^ 32 = omega arith in
    let second : b * 2 ^ 32 + 0 ≡ b * 2 ^ 32 = omega arith in
    let sum : op a b * 2 ^ 32 + op 0 0 ≡ op a b * 2 ^ 32 = omega arith in
    cc

pub and_bitwise : IsBitwise bit_and
and_bitwise = record {
  shl = λ a b. no_low_half bit_and a b refl (and_block 32 a b 0 0 (omega arith) (omega arith));
  fits = λ k a b e f. omega (arith, and_le_l a b);
}

pub or_bitwise : IsBitwise bit_or
or_bitwise = record {
  shl = λ a b. no_low_half bit_or a b refl (or_block 32 a b 0 0 (omega arith) (omega arith));
  fits = or_lt;
}

pub both_word : (kind : AtomicKind) (word : ℕ) (operand : Number) → has_bits kind ≡ true → is_word kind word ≡ true → kind_of operand ≡ kind → is_word (kind_of operand) (word_of operand) ≡ true →
    bit_and word (word_of operand) ≡ word_of (bits_of_both (number_in kind word) operand)
both_word kinds.Int32 word (Int32 z) bits e is f = high_signed and_bitwise word (cast_unsigned w32 z) e f
both_word kinds.Int64 word (Int64 z) bits e is f = whole_signed and_bitwise word (cast_unsigned w64 z) (ltb-true word (2 ^ 64) e) (ltb-true (cast_unsigned w64 z) (2 ^ 64) f)
both_word kinds.Uint32 word (Uint32 n) bits e is f = high and_bitwise word n e
both_word kinds.Uint64 word (Uint64 n) bits e is f = refl
both_word kinds.Bool word operand bits e is f = absurd cc
both_word kind word operand bits e is f = absurd cc

pub either_word : (kind : AtomicKind) (word : ℕ) (operand : Number) → has_bits kind ≡ true → is_word kind word ≡ true → kind_of operand ≡ kind → is_word (kind_of operand) (word_of operand) ≡ true →
    bit_or word (word_of operand) ≡ word_of (bits_of_either (number_in kind word) operand)
either_word kinds.Int32 word (Int32 z) bits e is f = high_signed or_bitwise word (cast_unsigned w32 z) e f
either_word kinds.Int64 word (Int64 z) bits e is f = whole_signed or_bitwise word (cast_unsigned w64 z) (ltb-true word (2 ^ 64) e) (ltb-true (cast_unsigned w64 z) (2 ^ 64) f)
either_word kinds.Uint32 word (Uint32 n) bits e is f = high or_bitwise word n e
either_word kinds.Uint64 word (Uint64 n) bits e is f = refl
either_word kinds.Bool word operand bits e is f = absurd cc
either_word kind word operand bits e is f = absurd cc
