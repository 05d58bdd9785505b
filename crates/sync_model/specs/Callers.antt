-- Sets of callers, as numbers with a bit for each caller.
use Rattle.std.specs.Prelude.{◌≡◌, ℕ}
use Rattle.std.specs.Int.{bit_at}

-- the caller is in the set
abbrev pub Has : ℕ → ℕ → Type 0
Has callers caller = bit_at callers caller ≡ 1
