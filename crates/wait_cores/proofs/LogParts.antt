-- What the law of logs says of a log in two parts.
use Rattle.std.proofs.Common.{ℕ, List, ◌++◌}
use Rattle.sync_model.specs.Log.{Entry, after, Follows}

-- each part follows the machine, the later one from the state that the earlier one leads to
abbrev pub ComesApart : {S E R : Type 0} → (S → ℕ → E → S × R) → Type 0
ComesApart {S} {E} {R} next =
    (s : S) (earlier later : List (Entry E R)) → Follows next s (earlier ++ later) → Follows next s earlier × Follows next (after next s earlier) later
