-- The number that a seed is.
use Rattle.std.specs.Prelude.{ℕ, ◌^◌, ◌-◌, cond, List, Option, Some, None}
use Rattle.workload.specs.NumberWords.{is_number_to, number_of}

-- the seed that a word is: a number of at most 64 bits, without a leading zero
abbrev pub seed_of : List ℕ → Option ℕ
seed_of word = cond (is_number_to (2 ^ 64 - 1) word) (Some (number_of word)) None
