-- Which moments a clock in memory shows.
use Rattle.std.specs.Prelude.{◌≡◌, ℕ, ◌⊎◌, List, [], Contains}
use Rattle.sync_outside.specs.declared.mem_clock.MemClock.{MemClock}

-- the moments that it was given
abbrev pub moments_of : MemClock → List ℕ
moments_of clock = clock.moments.items

-- one of them, or 0 where there is none
abbrev pub IsShown : MemClock → ℕ → Type 0
IsShown clock moment = Contains (moments_of clock) moment ⊎ ((moments_of clock ≡ []) × (moment ≡ 0))
