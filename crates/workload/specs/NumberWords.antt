-- The words that are numbers, and what they stand for.
use Rattle.std.specs.Prelude.{ℕ, ◌^◌, ◌-◌, Bool, true, false, ◌&&◌, ◌||◌, cond, nat_lt, nat_le, ◌==◌, List, [], ◌∷◌, length, codes}
use Rattle.std.specs.Fmt.{decimal, signed_decimal}
use Rattle.std.specs.Str.{bytes_eq, all_ascii_digits}
use Rattle.std.specs.Str.Parse.{digits_value}
use Rattle.sync_types.specs.declared.atomic_object.AtomicKind.{AtomicKind}
use Rattle.sync_types.specs.declared.atomic_object.AtomicKind.TheVariants as types
use Rattle.sync_types.specs.declared.atomic_object.Number.{Number}
use Rattle.sync_types.specs.declared.atomic_object.Number.TheVariants as numbers
use Rattle.workload.specs.declared.limits.TheConstants.{MAX_AMOUNT, MAX_PASSES, MAX_TRIES}

-- whether a word is a number: digits, of which the first is 0 only where it is the only one
abbrev pub is_number : List ℕ → Bool
is_number [] = false
is_number (digit ∷ digits) = all_ascii_digits (digit ∷ digits) && cond (digit == 48) (length digits == 0) true

-- the number that a word of digits stands for
abbrev pub number_of : List ℕ → ℕ
number_of word = digits_value 10 word

-- whether a word is a number of at most this value
abbrev pub is_number_to : ℕ → List ℕ → Bool
is_number_to most word = is_number word && nat_le (number_of word) most

-- whether a word is a number from -least to most; a `-` stands before no 0
abbrev pub is_number_between : ℕ → ℕ → List ℕ → Bool
is_number_between least most [] = false
is_number_between least most (byte ∷ bytes) = cond (byte == 45) (is_number_to least bytes && nat_lt 0 (number_of bytes)) (is_number_to most (byte ∷ bytes))

-- whether a word is a number from -bound to bound - 1
abbrev pub is_signed_word : ℕ → List ℕ → Bool
is_signed_word bound word = is_number_between bound (bound - 1) word

-- whether a word is a number from -10,000 to 10,000
abbrev pub is_amount_word : List ℕ → Bool
is_amount_word word = is_number_between MAX_AMOUNT MAX_AMOUNT word

-- whether a call may pass over so many: 1 to 1,000
abbrev pub is_passes : ℕ → Bool
is_passes passes = nat_lt 0 passes && nat_le passes MAX_PASSES

-- whether a word is such a number
abbrev pub is_passes_word : List ℕ → Bool
is_passes_word word = is_number word && is_passes (number_of word)

-- whether a call may make so many waits: 1 to 1,000
abbrev pub is_tries : ℕ → Bool
is_tries tries = nat_lt 0 tries && nat_le tries MAX_TRIES

-- whether a word is such a number
abbrev pub is_tries_word : List ℕ → Bool
is_tries_word word = is_number word && is_tries (number_of word)

-- whether a weight is 1 to this one, or a size 1 to the greatest
abbrev pub is_weight : ℕ → ℕ → Bool
is_weight most weight = nat_lt 0 weight && nat_le weight most

-- whether a word is such a number
abbrev pub is_weight_word : ℕ → List ℕ → Bool
is_weight_word most word = is_number word && is_weight most (number_of word)

-- whether a word is a number of an atomic of this type
abbrev pub is_number_word : AtomicKind → List ℕ → Bool
is_number_word types.Int32 word = is_signed_word (2 ^ 31) word
is_number_word types.Int64 word = is_signed_word (2 ^ 63) word
is_number_word types.Uint32 word = is_number_to (2 ^ 32 - 1) word
is_number_word types.Uint64 word = is_number_to (2 ^ 64 - 1) word
is_number_word types.Bool word = bytes_eq word (codes "true") || bytes_eq word (codes "false")

-- the word of a number of an atomic
abbrev pub number_word : Number → List ℕ
number_word (numbers.Int32 z) = signed_decimal z
number_word (numbers.Int64 z) = signed_decimal z
number_word (numbers.Uint32 n) = decimal n
number_word (numbers.Uint64 n) = decimal n
number_word (numbers.Bool false) = codes "false"
number_word (numbers.Bool true) = codes "true"
