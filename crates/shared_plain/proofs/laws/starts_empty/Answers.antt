use Rattle.std.proofs.Common.{◌≡◌, ℕ, zero, suc, ◌∷◌, map, replicate, refl}
use Rattle.std.proofs.Common.{None}
use Rattle.sync_types.specs.SequentialAtomic.{zero_of}
use Rattle.std.specs.FinMap.{empty}
use Rattle.shared_plain.specs.Slots.{map_of}
use Rattle.shared_plain.proofs.SlotMaps.{all_none}
use Rattle.shared_plain.proofs.laws.starts_empty.Goals as goal

all_empty : (maps keys : ℕ) → map map_of (replicate maps (replicate keys None)) ≡ replicate maps empty
all_empty zero keys = refl
all_empty (suc maps) keys = λ i. all_none keys i ∷ all_empty maps keys i

pub returns : goal.returns
returns c maps keys kinds = λ i. record { maps = all_empty maps keys i; numbers = map zero_of kinds }
