-- When a waiter starves.
use Rattle.std.specs.Prelude.{ℕ, Bool, ◌||◌, ◌-◌, nat_lt}
use Rattle.mutex_core.specs.declared.waiter.Waiter.{Waiter}

-- the nanoseconds of waiting past which a waiter starves: 1 ms
abbrev pub threshold : ℕ
threshold = 1000000

-- it has asked for starvation mode before, or has waited for longer than the threshold (`-` stops at 0)
abbrev pub is_starving : Waiter → ℕ → Bool
is_starving waiter now = waiter.asked || nat_lt threshold (now - waiter.arrival)
