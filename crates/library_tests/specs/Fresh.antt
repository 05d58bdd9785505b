-- Passes that the tests begin with.
use Rattle.std.specs.Prelude.{◌≡◌, List, All}
use Rattle.ruled_object.specs.Passes.{left_of}
use Rattle.go_waits.specs.declared.once.Once.{Once}
use Rattle.go_waits.specs.Onces.{OncePass, IsPassOf}

module _ {T N H : Type 0} where
  -- a pass with all its calls left
  abbrev pub IsFresh : Once T N H → OncePass T N → Type 0
  IsFresh once pass = IsPassOf once pass × (left_of pass ≡ 1000000)

  abbrev pub AreFresh : Once T N H → List (OncePass T N) → Type 0
  AreFresh once passes = All (IsFresh once) passes
