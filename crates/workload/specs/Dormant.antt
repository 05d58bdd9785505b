-- Which lines of a text say that a worker waits to be started.
use Rattle.std.specs.Prelude.{ℕ, Bool, false, ◌&&◌, List, [], ◌∷◌, codes}
use Rattle.std.specs.Fmt.{decimal}
use Rattle.std.specs.Str.{bytes_eq}

-- whether the first of the words is `dormant`
abbrev pub begins_dormant : List (List ℕ) → Bool
begins_dormant [] = false
begins_dormant (word ∷ words) = bytes_eq word (codes "dormant")

-- whether the words are `dormant` and the worker's number
abbrev pub names_dormant : ℕ → List (List ℕ) → Bool
names_dormant worker (word ∷ number ∷ []) = bytes_eq word (codes "dormant") && bytes_eq number (decimal worker)
names_dormant worker words = false
