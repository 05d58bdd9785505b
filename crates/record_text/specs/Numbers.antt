-- The numbers of a record's lines: without a sign but for a `-`, without a leading zero, and of at most 64 bits.
use Rattle.std.specs.Prelude.{ℕ, ℤ, ◌^◌, Bool, ◌&&◌, nat_lt, nat_le, ◌==◌, List, ◌∷◌, length, map}
use Rattle.std.specs.List.{list_all, join_with_byte}
use Rattle.std.specs.Fmt.{decimal}
use Rattle.sync_types.specs.SequentialAtomic.{is_signed}
use Rattle.record_text.specs.declared.item_line.Whole.{Whole}
use Rattle.record_text.specs.declared.item_line.Whole.TheVariants.{Natural, Below}

-- a number of 64 bits
abbrev pub has_64_bits : ℕ → Bool
has_64_bits n = nat_lt n (2 ^ 64)

-- and one of 32
abbrev pub has_32_bits : ℕ → Bool
has_32_bits n = nat_lt n (2 ^ 32)

-- a number with a sign, of 64 bits
abbrev pub is_int64 : ℤ → Bool
is_int64 value = is_signed (2 ^ 63) value

-- the word of a number, with a `-` before what is below 0
abbrev pub whole_word : Whole → List ℕ
whole_word (Natural n) = decimal n
whole_word (Below n) = 45 ∷ decimal n

-- from -2^63 to 2^64 - 1
abbrev pub is_whole : Whole → Bool
is_whole (Natural n) = has_64_bits n
is_whole (Below n) = nat_lt 0 n && nat_le n (2 ^ 63)

-- the word of a front: its numbers, joined by commas
abbrev pub front_word : List ℕ → List ℕ
front_word front = join_with_byte 44 (map decimal front)

-- a front has a number for each worker
abbrev pub is_front : ℕ → List ℕ → Bool
is_front workers front = (length front == workers) && list_all has_64_bits front
