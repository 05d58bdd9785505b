-- All objects of a run, and a worker's passes to them.
use Rattle.std.specs.Prelude.{◌≡◌, ℕ, List, length, Some, slice_get}
use Rattle.thread_objects.specs.declared.object.AnyObject.{AnyObject}
use Rattle.thread_objects.specs.declared.pass.AnyPass.{AnyPass}
use Rattle.thread_objects.specs.Passes.{IsSeatAt}

-- one pass to each object, by its number, and the worker is between two calls
pub record AreSeats {N H : Type 0} (at : H → N → Type 0) (home : H) (workers worker : ℕ) (objects : List (AnyObject N H)) (passes : List (AnyPass N)) : Type 0 where
  pub count : length passes ≡ length objects
  pub each : (number : ℕ) (object : AnyObject N H) (pass : AnyPass N) → slice_get objects number ≡ Some object → slice_get passes number ≡ Some pass → IsSeatAt at home workers worker object pass

-- the object with this number is such a one
abbrev pub IsObjectAt : {N H : Type 0} → (AnyObject N H → Type 0) → List (AnyObject N H) → ℕ → Type 0
IsObjectAt {N} {H} is objects number = (object : AnyObject N H) × (slice_get objects number ≡ Some object) × is object
