-- A put that is kept releases, and a look that takes an item acquires.
use Rattle.std.proofs.Common.{◌≡◌, ℕ, false, true, Some, refl}
use Rattle.pool_core.specs.declared.pool_event.PoolEvent.{PoolEvent}
use Rattle.pool_core.specs.declared.pool_event.PoolEvent.TheVariants.{Put, LookOwn, LookOther, LookVictim, Sweep}
use Rattle.pool_core.specs.declared.pool_event.PoolReply.{PoolReply}
use Rattle.pool_core.specs.declared.pool_event.PoolReply.TheVariants.{Kept, Dropped, Item, Nothing, Swept, Still}
use Rattle.pool_core.specs.Edges.{pool_releases, pool_acquires}
use Rattle.pool_core.specs.PoolLaws.{kept_in, got_in}

pub put-releases : (event : PoolEvent ℕ) (reply : PoolReply ℕ) (item : ℕ) → kept_in event reply ≡ Some item → pool_releases event reply ≡ true
put-releases (Put x) Kept item h = refl
put-releases (Put x) (Dropped y) item h = cc
put-releases (Put x) (Item y) item h = cc
put-releases (Put x) Nothing item h = cc
put-releases (Put x) Swept item h = cc
put-releases (Put x) Still item h = cc
put-releases LookOwn reply item h = cc
put-releases (LookOther part) reply item h = cc
put-releases (LookVictim part) reply item h = cc
put-releases Sweep reply item h = cc

pub look-acquires : (event : PoolEvent ℕ) (reply : PoolReply ℕ) (item : ℕ) → got_in reply ≡ Some item → pool_acquires event reply ≡ true
look-acquires event (Item x) item h = refl
look-acquires event Kept item h = cc
look-acquires event (Dropped y) item h = cc
look-acquires event Nothing item h = cc
look-acquires event Swept item h = cc
look-acquires event Still item h = cc

pub pool-unmoved : (event : PoolEvent ℕ) → (pool_releases event Still ≡ false) × (pool_acquires event Still ≡ false)
pool-unmoved event = (refl, refl)
