-- How an atomic's number stands in one 64-bit word.
use Rattle.std.specs.Prelude.{ℕ, ◌*◌, ◌/◌, ◌%◌, ◌^◌, ◌==◌, Bool, true, false, ◌&&◌, nat_lt, not}
use Rattle.std.specs.Int.{w32, w64, cast_unsigned, cast_signed}
use Rattle.sync_types.specs.declared.atomic_object.AtomicKind.{AtomicKind}
use Rattle.sync_types.specs.declared.atomic_object.AtomicKind.TheVariants as kinds
use Rattle.sync_types.specs.declared.atomic_object.Number.{Number}
use Rattle.sync_types.specs.declared.atomic_object.Number.TheVariants.{Int32, Int64, Uint32, Uint64, Bool as Truth}

-- a number of 64 bits fills the word, one of 32 bits its high half, so that one addition wraps at 32 bits; a truth value is 0 or 1; the sign is two's complement
abbrev pub word_of : Number → ℕ
word_of (Int32 z) = cast_unsigned w32 z * 2 ^ 32
word_of (Int64 z) = cast_unsigned w64 z
word_of (Uint32 n) = n * 2 ^ 32
word_of (Uint64 n) = n
word_of (Truth false) = 0
word_of (Truth true) = 1

-- whether a word of 64 bits is that of a number of this type
abbrev pub is_word : AtomicKind → ℕ → Bool
is_word kinds.Int32 word = nat_lt word (2 ^ 64) && (word % 2 ^ 32 == 0)
is_word kinds.Int64 word = nat_lt word (2 ^ 64)
is_word kinds.Uint32 word = nat_lt word (2 ^ 64) && (word % 2 ^ 32 == 0)
is_word kinds.Uint64 word = nat_lt word (2 ^ 64)
is_word kinds.Bool word = nat_lt word 2

-- the number of this type whose word it is
abbrev pub number_in : AtomicKind → ℕ → Number
number_in kinds.Int32 word = Int32 (cast_signed w32 (word / 2 ^ 32))
number_in kinds.Int64 word = Int64 (cast_signed w64 word)
number_in kinds.Uint32 word = Uint32 (word / 2 ^ 32)
number_in kinds.Uint64 word = Uint64 word
number_in kinds.Bool word = Truth (not (word == 0))
