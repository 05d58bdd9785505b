-- Where a get of a pool looks, in which order.
use Rattle.std.specs.Prelude.{ℕ, zero, suc, ◌+◌, ◌%◌, nat_lt, if◌then◌else◌}
use Rattle.pool_core.specs.declared.pool_event.PoolEvent.{PoolEvent}
use Rattle.pool_core.specs.declared.pool_event.PoolEvent.TheVariants.{LookOwn, LookOther, LookVictim}

-- the look number k, from 0, of a get by a caller of so many. It begins at the own part and goes round all parts, and then round the victims in the same way
abbrev pub look : ℕ → ℕ → ℕ → PoolEvent ℕ
look callers caller zero = LookOwn
look callers caller (suc k) = if nat_lt (suc k) callers then LookOther ((caller + suc k) % callers) else LookVictim ((caller + suc k) % callers)
