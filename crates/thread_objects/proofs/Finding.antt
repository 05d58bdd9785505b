-- An atomic, found by the place where it is declared.
use Rattle.std.proofs.Common.{◌≡◌, ℕ, List, true, slice_get, slice_index, ap, ◌∙◌, subst}
use Rattle.sync_types.specs.declared.atomic_object.AtomicCall.{AtomicCall}
use Rattle.sync_types.specs.declared.atomic_object.AtomicKind.{AtomicKind}
use Rattle.sync_types.specs.SequentialAtomic.{is_atomic_call}
use Rattle.sync_model.specs.declared.item.SharedCall.TheVariants as calls
use Rattle.sync_model.specs.Shared.{IsAtomicCall}
use Rattle.workload.specs.declared.object.ObjectKind.TheVariants.{Atomic}
use Rattle.workload.specs.Plan.{Plan}
use Rattle.run_record.specs.Limits.{IsCallOf, atomic_types}
use Rattle.thread_objects.specs.Catalog.{HasAtomics, IsAt}

-- it has every call of its type
pub atomic_has : (plan : Plan) (types : List AtomicKind) (numbers : List ℕ) (place : ℕ) (type : AtomicKind) (call : AtomicCall) → HasAtomics plan types numbers → IsAt plan place (Atomic type) → is_atomic_call type call ≡ true
    → IsAtomicCall types (slice_index numbers place) call
atomic_has plan types numbers place type call has at fits = record { kind = type; at = ap (λ (n : ℕ). slice_get types n) (has.number place type at) ∙ has.type place type at; has = fits }

-- a call that atomics of these types have, which are the workload's
pub of_types : (plan : Plan) (types : List AtomicKind) (a : ℕ) (call : AtomicCall) → types ≡ atomic_types plan → IsAtomicCall types a call → IsCallOf plan (calls.Atomic a call)
of_types plan types a call same has = subst (λ (t : List AtomicKind). IsAtomicCall t a call) same has
