-- A pool's pass that is made good for new calls.
use Rattle.std.specs.Prelude.{◌≡◌, ℕ}
use Rattle.go_pool.specs.declared.pass.PoolPass.{PoolPass}

-- the same pass, good for so many calls from now on
abbrev pub IsRenewed : {N : Type 0} → ℕ → PoolPass N → PoolPass N → Type 0
IsRenewed calls old new = new ≡ record old { left = calls }
