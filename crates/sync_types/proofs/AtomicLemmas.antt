-- The calls of an atomic keep its type.
use Rattle.std.proofs.Common.{◌≡◌, ℕ, ◌+◌, ◌-◌, ◌%◌, ◌^◌, ◌<◌, suc, Bool, true, false, ◌&&◌, cond, nat_lt, bit_and, bit_or, refl, ap, ◌∙◌, arith}
use Rattle.std.specs.Prelude.{ℤ, pos, negsuc, FitsSigned}
use Rattle.std.specs.Int.{Width, w32, w64, cast_unsigned, cast_signed, int_bit_or}
use Rattle.std.specs.Int.Bits.{or_zero_r}
use Rattle.std.proofs.lemmas.Int.{to_z-of_z}
use Rattle.std.proofs.lemmas.Bool.{ltb-true, ltb-false, lt-ltb}
use Rattle.std.proofs.lemmas.Nat.{and_le_l, or_lt}
use Rattle.sync_types.specs.declared.atomic_object.AtomicKind.{AtomicKind}
use Rattle.sync_types.specs.declared.atomic_object.AtomicKind.TheVariants as kinds
use Rattle.sync_types.specs.declared.atomic_object.Number.{Number}
use Rattle.sync_types.specs.declared.atomic_object.Number.TheVariants.{Int32, Int64, Uint32, Uint64, Bool as Truth}
use Rattle.sync_types.specs.declared.atomic_object.AtomicCall.{AtomicCall}
use Rattle.sync_types.specs.declared.atomic_object.AtomicCall.TheVariants.{Load, Store, Swap, Add, And, Or, CompareAndSwap}
use Rattle.sync_types.specs.SequentialAtomic.{is_signed, has_bits, is_of, is_same, sum, bits_of_both, bits_of_either, is_atomic_call, atomic_after, zero_of}

right : (a b : Bool) → (a && b) ≡ true → b ≡ true
right true b e = e
right false b e = absurd cc

-- a number with a sign, in two's complement, is below the type's number of words
unsigned_32 : (z : ℤ) → is_signed (2 ^ 31) z ≡ true → cast_unsigned w32 z < 2 ^ 32
unsigned_32 (pos n) e = omega (arith, ltb-true n (2 ^ 31) e)
unsigned_32 (negsuc n) e = omega arith

unsigned_64 : (z : ℤ) → is_signed (2 ^ 63) z ≡ true → cast_unsigned w64 z < 2 ^ 64
unsigned_64 (pos n) e = omega (arith, ltb-true n (2 ^ 63) e)
unsigned_64 (negsuc n) e = omega arith

-- and below it, each is that of a number in the type's range
signed_by : (half n : ℕ) (b : Bool) → nat_lt n half ≡ b → n < half + half → is_signed half (cond b (pos n) (negsuc (half + half - suc n))) ≡ true
signed_by half n true e lt = e
signed_by half n false e lt = lt-ltb (half + half - suc n) half (omega (arith, ltb-false n half e))

signed_32 : (n : ℕ) → n < 2 ^ 32 → is_signed (2 ^ 31) (cast_signed w32 n) ≡ true
signed_32 n lt = signed_by (2 ^ 31) n (nat_lt n (2 ^ 31)) refl lt

signed_64 : (n : ℕ) → n < 2 ^ 64 → is_signed (2 ^ 63) (cast_signed w64 n) ≡ true
signed_64 n lt = signed_by (2 ^ 63) n (nat_lt n (2 ^ 63)) refl lt

pub is_of-sum : (kind : AtomicKind) (held operand : Number) → is_of kind held ≡ true → is_of kind operand ≡ true → is_of kind (sum held operand) ≡ true
is_of-sum kinds.Int32 (Int32 a) (Int32 b) e f = signed_32 ((cast_unsigned w32 a + cast_unsigned w32 b) % 2 ^ 32) (omega arith)
is_of-sum kinds.Int64 (Int64 a) (Int64 b) e f = signed_64 ((cast_unsigned w64 a + cast_unsigned w64 b) % 2 ^ 64) (omega arith)
is_of-sum kinds.Uint32 (Uint32 a) (Uint32 b) e f = lt-ltb ((a + b) % 2 ^ 32) (2 ^ 32) (omega arith)
is_of-sum kinds.Uint64 (Uint64 a) (Uint64 b) e f = lt-ltb ((a + b) % 2 ^ 64) (2 ^ 64) (omega arith)
is_of-sum kinds.Bool (Truth a) (Truth b) e f = refl
is_of-sum kind held operand e f = absurd cc

pub is_of-both : (kind : AtomicKind) (held operand : Number) → is_of kind held ≡ true → is_of kind operand ≡ true → is_of kind (bits_of_both held operand) ≡ true
is_of-both kinds.Int32 (Int32 a) (Int32 b) e f = signed_32 (bit_and (cast_unsigned w32 a) (cast_unsigned w32 b)) (omega (arith, and_le_l (cast_unsigned w32 a) (cast_unsigned w32 b), unsigned_32 a e))
is_of-both kinds.Int64 (Int64 a) (Int64 b) e f = signed_64 (bit_and (cast_unsigned w64 a) (cast_unsigned w64 b)) (omega (arith, and_le_l (cast_unsigned w64 a) (cast_unsigned w64 b), unsigned_64 a e))
is_of-both kinds.Uint32 (Uint32 a) (Uint32 b) e f = lt-ltb (bit_and a b) (2 ^ 32) (omega (arith, and_le_l a b, ltb-true a (2 ^ 32) e))
is_of-both kinds.Uint64 (Uint64 a) (Uint64 b) e f = lt-ltb (bit_and a b) (2 ^ 64) (omega (arith, and_le_l a b, ltb-true a (2 ^ 64) e))
is_of-both kinds.Bool (Truth a) (Truth b) e f = refl
is_of-both kind held operand e f = absurd cc

pub is_of-either : (kind : AtomicKind) (held operand : Number) → is_of kind held ≡ true → is_of kind operand ≡ true → is_of kind (bits_of_either held operand) ≡ true
is_of-either kinds.Int32 (Int32 a) (Int32 b) e f = signed_32 (bit_or (cast_unsigned w32 a) (cast_unsigned w32 b)) (or_lt 32 (cast_unsigned w32 a) (cast_unsigned w32 b) (unsigned_32 a e) (unsigned_32 b f))
is_of-either kinds.Int64 (Int64 a) (Int64 b) e f = signed_64 (bit_or (cast_unsigned w64 a) (cast_unsigned w64 b)) (or_lt 64 (cast_unsigned w64 a) (cast_unsigned w64 b) (unsigned_64 a e) (unsigned_64 b f))
is_of-either kinds.Uint32 (Uint32 a) (Uint32 b) e f = lt-ltb (bit_or a b) (2 ^ 32) (or_lt 32 a b (ltb-true a (2 ^ 32) e) (ltb-true b (2 ^ 32) f))
is_of-either kinds.Uint64 (Uint64 a) (Uint64 b) e f = lt-ltb (bit_or a b) (2 ^ 64) (or_lt 64 a b (ltb-true a (2 ^ 64) e) (ltb-true b (2 ^ 64) f))
is_of-either kinds.Bool (Truth a) (Truth b) e f = refl
is_of-either kind held operand e f = absurd cc

is_of-cond : (kind : AtomicKind) (b : Bool) (new held : Number) → is_of kind new ≡ true → is_of kind held ≡ true → is_of kind (cond b new held) ≡ true
is_of-cond kind true new held e f = e
is_of-cond kind false new held e f = f

pub is_of-after : (kind : AtomicKind) (call : AtomicCall) (held : Number) → is_of kind held ≡ true → is_atomic_call kind call ≡ true → is_of kind (atomic_after call held) ≡ true
is_of-after kind Load held e f = e
is_of-after kind (Store value) held e f = f
is_of-after kind (Swap value) held e f = f
is_of-after kind (Add operand) held e f = is_of-sum kind held operand e (right (has_bits kind) (is_of kind operand) f)
is_of-after kind (And operand) held e f = is_of-both kind held operand e (right (has_bits kind) (is_of kind operand) f)
is_of-after kind (Or operand) held e f = is_of-either kind held operand e (right (has_bits kind) (is_of kind operand) f)
is_of-after kind (CompareAndSwap old new) held e f = is_of-cond kind (is_same held old) new held (right (is_of kind old) (is_of kind new) f) e

-- an or with 0
fits_32 : (z : ℤ) → is_signed (2 ^ 31) z ≡ true → FitsSigned w32 z
fits_32 (pos n) e = record { sfits = ltb-true _ _ e }
fits_32 (negsuc n) e = record { sfits = ltb-true _ _ e }

fits_64 : (z : ℤ) → is_signed (2 ^ 63) z ≡ true → FitsSigned w64 z
fits_64 (pos n) e = record { sfits = ltb-true _ _ e }
fits_64 (negsuc n) e = record { sfits = ltb-true _ _ e }

int_or_zero : (w : Width) (z : ℤ) → FitsSigned w z → int_bit_or w z (pos 0) ≡ z
int_or_zero w z fits = ap (cast_signed w) (or_zero_r (cast_unsigned w z)) ∙ to_z-of_z w z fits

pub or_zero : (kind : AtomicKind) (held : Number) → has_bits kind ≡ true → is_of kind held ≡ true → bits_of_either held (zero_of kind) ≡ held
or_zero kinds.Int32 (Int32 z) bits is = ap (λ x. Int32 x) (int_or_zero w32 z (fits_32 z is))
or_zero kinds.Int64 (Int64 z) bits is = ap (λ x. Int64 x) (int_or_zero w64 z (fits_64 z is))
or_zero kinds.Uint32 (Uint32 n) bits is = ap (λ x. Uint32 x) (or_zero_r n)
or_zero kinds.Uint64 (Uint64 n) bits is = ap (λ x. Uint64 x) (or_zero_r n)
or_zero kinds.Bool held bits is = absurd cc
or_zero kind held bits is = absurd cc
