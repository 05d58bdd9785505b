-- What is left of a line, or of a word, that is cut at a byte.
use Rattle.std.specs.Prelude.{◌≡◌, ℕ, suc, ◌<◌, Bool, true, ◌==◌, List, [], length, slice_index, take, drop, Option, Some, None}
use Rattle.std.specs.Borrow.{Bor}
use Rattle.std.specs.List.{slice_split}

-- the parts that are left: none, behind the last one
abbrev pub parts_in : ℕ → Option (Bor (List ℕ)) → List (List ℕ)
parts_in separator None = []
parts_in separator (Some rest) = slice_split (λ byte. byte == separator) rest.now

-- whether a `=` stands at a place
abbrev pub is_equals : List ℕ → ℕ → Bool
is_equals word place = slice_index word place == 61

-- no `=` stands behind a place
abbrev pub NoneBehind : List ℕ → ℕ → Type 0
NoneBehind word end = (place : ℕ) → end < place → place < length word → is_equals word place ≡ true → ⊥

-- what stands before the last `=` of a word, and behind it
pub record IsLastSplit (word name rest : List ℕ) : Type 0 where
  pub end : ℕ
  pub within : end < length word
  pub mark : is_equals word end ≡ true
  pub none : NoneBehind word end
  pub name_is : name ≡ take end word
  pub rest_is : rest ≡ drop (suc end) word
