-- How many writes were made, by a sink's count of them before and after.
use Rattle.std.specs.Prelude.{◌≡◌, ℕ, zero, suc, ◌≤◌}
use Rattle.sync_outside.specs.Faults.{raised}

-- a count, raised so many times
abbrev pub raised_times : ℕ → ℕ → ℕ
raised_times zero count = count
raised_times (suc times) count = raised (raised_times times count)

-- so many writes were made
abbrev pub Wrote : ℕ → ℕ → ℕ → Type 0
Wrote before now times = now ≡ raised_times times before

-- at most so many were
abbrev pub WroteUpTo : ℕ → ℕ → ℕ → Type 0
WroteUpTo before now most = (times : ℕ) × (times ≤ most) × Wrote before now times
