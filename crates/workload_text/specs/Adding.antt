-- Adding to a line in room that was taken before.
use Rattle.std.specs.Prelude.{◌≡◌, ℕ, ◌+◌, ◌≤◌, List, ◌++◌, vec_len, vec_capacity}
use Rattle.std.specs.declared.vec.Vec.{Vec}

-- there is room for so many bytes behind a line
abbrev pub HasRoom : {A : Type 0} → Vec ℕ A → ℕ → Type 0
HasRoom line most = vec_len line + most ≤ vec_capacity line

-- a line got this text, of at most so many bytes, behind what it was, and has no less room
abbrev pub Adds : {A : Type 0} → Vec ℕ A → Vec ℕ A → List ℕ → ℕ → Type 0
Adds old new text most = (new.items ≡ old.items ++ text) × (vec_len new ≤ vec_len old + most) × (vec_capacity old ≤ vec_capacity new)
