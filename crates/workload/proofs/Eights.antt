-- A schedule's canonical lines take eight items each.
use Rattle.std.proofs.Common.{◌≡◌, ℕ, zero, suc, ◌<◌, length, take, drop, arith, List, [], ◌∷◌, refl, ap}
use Rattle.std.specs.List.{onto_first}
use Rattle.workload.specs.declared.turn.Turn.{Turn}
use Rattle.workload.specs.Canonical.{eights}

-- the first eight items, or all that there are, go on one line
pub eights_first : (more : ℕ) (turns : List Turn) → 0 < length turns → eights more turns ≡ take (suc more) turns ∷ eights 7 (drop (suc more) turns)
eights_first more [] some = absurd (omega arith)
eights_first zero (turn ∷ turns) some = refl
eights_first (suc more) (turn ∷ []) some = refl
eights_first (suc more) (turn ∷ next ∷ turns) some = ap (onto_first turn) (eights_first more (next ∷ turns) (omega arith))
