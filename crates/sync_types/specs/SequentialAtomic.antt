-- The typed atomics of `sync/atomic` with one caller. Numbers are numbers here, and no words.
use Rattle.std.specs.Prelude.{ℕ, ℤ, pos, negsuc, ◌+◌, ◌^◌, ◌%◌, Bool, true, false, ◌&&◌, ◌==◌, not, nat_lt, cond, bit_and, bit_or}
use Rattle.std.specs.Int.{w32, w64, int_wrapping_add, int_bit_and, int_bit_or}
use Rattle.std.specs.Ordering.{int_eq}
use Rattle.sync_types.specs.declared.atomic_object.AtomicKind.{AtomicKind}
use Rattle.sync_types.specs.declared.atomic_object.AtomicKind.TheVariants as kinds
use Rattle.sync_types.specs.declared.atomic_object.Number.{Number}
use Rattle.sync_types.specs.declared.atomic_object.Number.TheVariants.{Int32, Int64, Uint32, Uint64, Bool as Truth}
use Rattle.sync_types.specs.declared.atomic_object.AtomicCall.{AtomicCall}
use Rattle.sync_types.specs.declared.atomic_object.AtomicCall.TheVariants.{Load, Store, Swap, Add, And, Or, CompareAndSwap}
use Rattle.sync_types.specs.declared.atomic_object.AtomicReply.{AtomicReply}
use Rattle.sync_types.specs.declared.atomic_object.AtomicReply.TheVariants.{Done, Held, Compared}

-- whether a number is at least -bound, and below bound
abbrev pub is_signed : ℕ → ℤ → Bool
is_signed bound (pos n) = nat_lt n bound
is_signed bound (negsuc n) = nat_lt n bound

-- whether atomics of a type have `Add`, `And` and `Or`
abbrev pub has_bits : AtomicKind → Bool
has_bits kinds.Int32 = true
has_bits kinds.Int64 = true
has_bits kinds.Uint32 = true
has_bits kinds.Uint64 = true
has_bits kinds.Bool = false

-- the type of a number
abbrev pub kind_of : Number → AtomicKind
kind_of (Int32 z) = kinds.Int32
kind_of (Int64 z) = kinds.Int64
kind_of (Uint32 n) = kinds.Uint32
kind_of (Uint64 n) = kinds.Uint64
kind_of (Truth b) = kinds.Bool

-- what an atomic holds at the start
abbrev pub zero_of : AtomicKind → Number
zero_of kinds.Int32 = Int32 (pos 0)
zero_of kinds.Int64 = Int64 (pos 0)
zero_of kinds.Uint32 = Uint32 0
zero_of kinds.Uint64 = Uint64 0
zero_of kinds.Bool = Truth false

-- the sum, which wraps at the ends of the type's range; of numbers of two types, the first
abbrev pub sum : Number → Number → Number
sum (Int32 a) (Int32 b) = Int32 (int_wrapping_add w32 a b)
sum (Int64 a) (Int64 b) = Int64 (int_wrapping_add w64 a b)
sum (Uint32 a) (Uint32 b) = Uint32 ((a + b) % 2 ^ 32)
sum (Uint64 a) (Uint64 b) = Uint64 ((a + b) % 2 ^ 64)
sum a b = a

-- the bits that both have, in two's complement; of numbers of two types, the first
abbrev pub bits_of_both : Number → Number → Number
bits_of_both (Int32 a) (Int32 b) = Int32 (int_bit_and w32 a b)
bits_of_both (Int64 a) (Int64 b) = Int64 (int_bit_and w64 a b)
bits_of_both (Uint32 a) (Uint32 b) = Uint32 (bit_and a b)
bits_of_both (Uint64 a) (Uint64 b) = Uint64 (bit_and a b)
bits_of_both a b = a

-- the bits that one of them has; of numbers of two types, the first
abbrev pub bits_of_either : Number → Number → Number
bits_of_either (Int32 a) (Int32 b) = Int32 (int_bit_or w32 a b)
bits_of_either (Int64 a) (Int64 b) = Int64 (int_bit_or w64 a b)
bits_of_either (Uint32 a) (Uint32 b) = Uint32 (bit_or a b)
bits_of_either (Uint64 a) (Uint64 b) = Uint64 (bit_or a b)
bits_of_either a b = a

-- whether two numbers are of one type and equal
abbrev pub is_same : Number → Number → Bool
is_same (Int32 a) (Int32 b) = int_eq a b
is_same (Int64 a) (Int64 b) = int_eq a b
is_same (Uint32 a) (Uint32 b) = a == b
is_same (Uint64 a) (Uint64 b) = a == b
is_same (Truth a) (Truth b) = cond a b (not b)
is_same a b = false

-- what a call answers, by what the atomic holds
abbrev pub atomic_reply : AtomicCall → Number → AtomicReply
atomic_reply Load held = Held held
atomic_reply (Store value) held = Done
atomic_reply (Swap value) held = Held held
atomic_reply (Add operand) held = Held (sum held operand)
atomic_reply (And operand) held = Held held
atomic_reply (Or operand) held = Held held
atomic_reply (CompareAndSwap old new) held = Compared (is_same held old)

-- what the atomic holds after a call
abbrev pub atomic_after : AtomicCall → Number → Number
atomic_after Load held = held
atomic_after (Store value) held = value
atomic_after (Swap value) held = value
atomic_after (Add operand) held = sum held operand
atomic_after (And operand) held = bits_of_both held operand
atomic_after (Or operand) held = bits_of_either held operand
atomic_after (CompareAndSwap old new) held = cond (is_same held old) new held

-- whether a call is an entry of the shared history of map and atomic calls, by what the atomic holds before it
abbrev pub is_atomic_entry : AtomicCall → Number → Bool
is_atomic_entry Load held = false
is_atomic_entry (Store value) held = true
is_atomic_entry (Swap value) held = true
is_atomic_entry (Add operand) held = true
is_atomic_entry (And operand) held = true
is_atomic_entry (Or operand) held = true
is_atomic_entry (CompareAndSwap old new) held = is_same held old

-- whether a number is of this type, and in its range
abbrev pub is_of : AtomicKind → Number → Bool
is_of kinds.Int32 (Int32 z) = is_signed (2 ^ 31) z
is_of kinds.Int64 (Int64 z) = is_signed (2 ^ 63) z
is_of kinds.Uint32 (Uint32 n) = nat_lt n (2 ^ 32)
is_of kinds.Uint64 (Uint64 n) = nat_lt n (2 ^ 64)
is_of kinds.Bool (Truth b) = true
is_of kind number = false

-- whether atomics of a type have the call
abbrev pub is_atomic_call : AtomicKind → AtomicCall → Bool
is_atomic_call kind Load = true
is_atomic_call kind (Store value) = is_of kind value
is_atomic_call kind (Swap value) = is_of kind value
is_atomic_call kind (Add operand) = has_bits kind && is_of kind operand
is_atomic_call kind (And operand) = has_bits kind && is_of kind operand
is_atomic_call kind (Or operand) = has_bits kind && is_of kind operand
is_atomic_call kind (CompareAndSwap old new) = is_of kind old && is_of kind new
