-- What is left of bytes behind a text.
use Rattle.std.specs.Prelude.{◌≡◌, ℕ, Bool, true, ◌==◌, List, [], ◌∷◌, ◌++◌, Option, MatchOption}
use Rattle.std.specs.Borrow.{Bor}

-- what is left of bytes that begin with a text; nothing, where they don't
abbrev pub IsRest : List ℕ → List ℕ → Option (Bor (List ℕ)) → Type 0
IsRest bytes text rest = MatchOption rest ((left : List ℕ) → bytes ≡ text ++ left → ⊥) (λ left. bytes ≡ text ++ left.now)

-- whether each line of a text has its line feed
abbrev pub is_ended : List ℕ → Bool
is_ended [] = true
is_ended (byte ∷ []) = byte == 10
is_ended (byte ∷ (next ∷ bytes)) = is_ended (next ∷ bytes)
