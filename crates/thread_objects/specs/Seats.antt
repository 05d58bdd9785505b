-- A worker's pass to an object, between two calls.
use Rattle.std.specs.Prelude.{◌≡◌, ℕ}
use Rattle.ruled_object.specs.declared.object.Object.{Object}
use Rattle.ruled_object.specs.declared.pass.Pass.{Pass}
use Rattle.ruled_object.specs.Passes.{number_of, own_by, callers_of, start_of, IsHomeOf, IsPassOf}
use Rattle.ruled_object.specs.Standing.{stand_by}
use Rattle.call_loop.specs.Between.{IsBetween}

-- The object of so many workers began as such ones may, and its notes are of this home. It is the pass to it of the worker with this number, who is between two calls.
pub record IsSeat {M N S E R H W : Type 0} (begins : ℕ → S → Type 0) (out : W) (move : W → E → R → W) (at : H → N → Type 0) (home : H) (workers worker : ℕ) (object : Object M N S E R H) (pass : Pass S N E R) : Type 0 where
  pub begun : begins (callers_of object) (start_of object)
  pub callers : callers_of object ≡ workers
  pub homed : IsHomeOf at object home
  pub number : number_of pass ≡ worker
  pub between : IsBetween out move object pass

-- The same of a worker that stands here, by its own entries.
pub record IsStanding {M N S E R H W : Type 0} (begins : ℕ → S → Type 0) (out : W) (move : W → E → R → W) (at : H → N → Type 0) (home : H) (workers worker : ℕ) (stand : W) (object : Object M N S E R H) (pass : Pass S N E R) : Type 0 where
  pub begun : begins (callers_of object) (start_of object)
  pub callers : callers_of object ≡ workers
  pub homed : IsHomeOf at object home
  pub number : number_of pass ≡ worker
  pub of : IsPassOf object pass
  pub stands : stand_by out move (own_by pass) ≡ stand
