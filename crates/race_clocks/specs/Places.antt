-- What stands at places.
use Rattle.std.specs.Prelude.{ℕ, List, get_or, Option, None}

-- at a place; behind the end of the list nothing stands
abbrev pub at : {A : Type 0} → List (Option A) → ℕ → Option A
at values place = get_or values place None
