-- Passes whose callers are between two calls.
use Rattle.std.specs.Prelude.{◌≡◌, ℕ, List, [], Some, length, slice_get}
use Rattle.ruled_object.specs.declared.object.Object.{Object}
use Rattle.ruled_object.specs.declared.pass.Pass.{Pass}
use Rattle.ruled_object.specs.Passes.{number_of, left_of, seen_by, own_by, callers_of, IsPassOf}
use Rattle.ruled_object.specs.Standing.{stand_by}

module _ {M N S E R H W : Type 0} (out : W) (move : W → E → R → W) (object : Object M N S E R H) where
  -- it is the pass of a caller of this object that is between two calls
  pub record IsBetween (pass : Pass S N E R) : Type 0 where
    pub of : IsPassOf object pass
    pub stands : stand_by out move (own_by pass) ≡ out

  -- all passes of the object, in order of number, each between two calls
  pub record AreAllBetween (passes : List (Pass S N E R)) : Type 0 where
    pub count : length passes ≡ callers_of object
    pub each : (i : ℕ) (pass : Pass S N E R) → slice_get passes i ≡ Some pass → IsBetween pass × (number_of pass ≡ i)

  -- all passes of a new object, each good for so many calls. Nothing was done yet
  pub record AreNewBetween (calls : ℕ) (passes : List (Pass S N E R)) : Type 0 where
    pub all : AreAllBetween passes
    pub left : (i : ℕ) (pass : Pass S N E R) → slice_get passes i ≡ Some pass → left_of pass ≡ calls
    pub seen : (i : ℕ) (pass : Pass S N E R) → slice_get passes i ≡ Some pass → seen_by pass ≡ []
    pub own : (i : ℕ) (pass : Pass S N E R) → slice_get passes i ≡ Some pass → own_by pass ≡ []
