-- What a workload asks of a table: few objects, and few units of words.
use Rattle.std.proofs.Common.{◌≡◌, ℕ, suc, ◌+◌, ◌≤◌, ◌<◌, cond, List, [], ◌∷◌, length, get_or, slice_index, arith}
use Rattle.std.specs.Prelude.{count_by, sum}
use Rattle.std.specs.List.{flat_map}
use Rattle.std.proofs.lemmas.List.{length-append}
use Rattle.std.proofs.lemmas.List.Sums.{sum_by-append}
use Rattle.script_calls.specs.declared.call.Call.{Call}
use Rattle.workload.specs.declared.object.ObjectKind.{ObjectKind}
use Rattle.workload.specs.declared.object.ObjectKind.TheVariants as kinds
use Rattle.workload.specs.declared.object.ObjectLine.{ObjectLine}
use Rattle.workload.specs.Draft.{call_count}
use Rattle.run_record.specs.Objects.{is_map, types_of}

one_of_both : (kind : ObjectKind) → length (types_of kind) + cond (is_map kind) 1 0 ≤ 1
one_of_both kinds.Map = omega arith
one_of_both (kinds.Atomic type) = omega arith
one_of_both kind = omega arith

-- each object is an atomic, a map, or neither
pub atomics_and_maps : (objects : List ObjectLine) → length (flat_map (λ object. types_of object.kind) objects) + count_by (λ object. is_map object.kind) objects ≤ length objects
atomics_and_maps [] = omega arith
atomics_and_maps (o ∷ os) =
    let more : length (flat_map (λ object. types_of object.kind) (o ∷ os)) ≡ length (types_of o.kind) + length (flat_map (λ object. types_of object.kind) os) = length-append (types_of o.kind) (flat_map (λ object. types_of object.kind) os) in
    omega (arith, more, sum_by-append (λ (x : ObjectLine). cond (is_map x.kind) 1 0) (o ∷ []) os, one_of_both o.kind, atomics_and_maps os)

-- so many units, one list's number for each script and at most one for each of its calls, are together no more than the calls
pub few_units : (units : List ℕ) (scripts : List (List Call)) → length units ≡ length scripts → ((i : ℕ) → i < length scripts → slice_index units i ≤ length (get_or scripts i [])) → sum units ≤ call_count scripts
few_units [] scripts same each = omega arith
few_units (n ∷ units) [] same each = absurd (omega (arith, same))
few_units (n ∷ units) (script ∷ scripts) same each =
    let long : length units ≡ length scripts = omega (arith, same) in
    let more = few_units units scripts long (λ i within. each (suc i) (omega (arith, within))) in
    let first : n ≤ length script = each 0 (omega arith) in
    omega (arith, first, more, sum_by-append length (script ∷ []) scripts, sum_by-append (λ (x : ℕ). x) (n ∷ []) units)
