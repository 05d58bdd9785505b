-- A workload's atomics, by their places among its objects.
use Rattle.std.specs.Prelude.{◌≡◌, ℕ, ◌<◌, List, length, Some, slice_get, slice_index}
use Rattle.sync_types.specs.declared.atomic_object.AtomicKind.{AtomicKind}
use Rattle.workload.specs.declared.object.ObjectKind.{ObjectKind}
use Rattle.workload.specs.declared.object.ObjectKind.TheVariants.{Atomic}
use Rattle.workload.specs.declared.object.ObjectLine.{ObjectLine}
use Rattle.workload.specs.Plan.{Plan}
use Rattle.run_record.specs.Limits.{atomic_types}
use Rattle.run_record.specs.Objects.{atomic_number}

-- the workload declares an object of this kind at the place
abbrev pub IsAt : Plan → ℕ → ObjectKind → Type 0
IsAt plan place kind = (line : ObjectLine) × (slice_get plan.objects place ≡ Some line) × (line.kind ≡ kind)

-- Atomics of these types are the workload's, and each one's number is here by its place.
pub record HasAtomics (plan : Plan) (types : List AtomicKind) (numbers : List ℕ) : Type 0 where
  pub all : types ≡ atomic_types plan
  pub within : (place : ℕ) (type : AtomicKind) → IsAt plan place (Atomic type) → place < length numbers
  pub number : (place : ℕ) (type : AtomicKind) → IsAt plan place (Atomic type) → slice_index numbers place ≡ atomic_number plan.objects place
  pub type : (place : ℕ) (type : AtomicKind) → IsAt plan place (Atomic type) → slice_get types (atomic_number plan.objects place) ≡ Some type
