-- The words of the laws of `sync.Map`.
use Rattle.std.specs.Prelude.{◌≡◌, ℕ, Option}
use Rattle.std.specs.declared.cmp.Ordering.{Ordering}
use Rattle.std.specs.Cmp.{IsTotalOrder}
use Rattle.std.specs.FinMap.{FinMap, IsAntisymmetric}
use Rattle.sync_types.specs.declared.map_object.MapCall.TheVariants.{Load}
use Rattle.sync_types.specs.declared.map_object.MapReply.TheVariants.{Found}
use Rattle.sync_types.specs.SequentialMap.{map_reply}

-- a total order, in which no two keys tie
abbrev pub IsKeyOrder : {K : Type 0} → (K → K → Ordering) → Type 0
IsKeyOrder R = IsTotalOrder R × IsAntisymmetric R

-- a load of the key finds this value, or none
abbrev pub Finds : {K : Type 0} {R : K → K → Ordering} → FinMap R ℕ → K → Option ℕ → Type 0
Finds m key value = map_reply (Load key) m ≡ Found value
