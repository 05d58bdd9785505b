-- What adds to an int64 come to is the sum of their bits, in whatever order.
use Rattle.std.proofs.Common.{◌≡◌, ℕ, ◌+◌, ◌==◌, ◌%◌, ◌^◌, ℤ, cond, List, [], ◌∷◌, refl, sym, ap, ◌∙◌, arith}
use Rattle.std.specs.Prelude.{sum_by, IsPermutation}
use Rattle.std.specs.List.{flat_map}
use Rattle.std.specs.Int.{w64, cast_signed, cast_unsigned}
use Rattle.std.proofs.Math.Nat.{mod-add-mod}
use Rattle.std.proofs.lemmas.Int.{of_z-to_z}
use Rattle.std.proofs.lemmas.List.Sums.{sum_by-append, sum_by-cons}
use Rattle.std.proofs.lemmas.List.Sorted.{sum_by-IsPermutation}
use Rattle.sync_types.specs.declared.atomic_object.AtomicKind.TheVariants as kinds
use Rattle.sync_types.specs.declared.atomic_object.Number.{Number}
use Rattle.sync_types.specs.declared.atomic_object.Number.TheVariants.{Int64}
use Rattle.script_calls.specs.declared.call.Call.{Call}
use Rattle.sync_types.specs.SequentialAtomic.{sum, zero_of}
use Rattle.run_laws.specs.Adds.{amount_of, amounts_at, after_adds}

-- an int64 whose bits are a number's, which goes on from 0 behind 2^64
abbrev pub of_bits : ℕ → Number
of_bits n = Int64 (cast_signed w64 (n % 2 ^ 64))

abbrev pub bits_of : ℤ → ℕ
bits_of amount = cast_unsigned w64 amount

-- an add adds the bits
pub add_bits : (n : ℕ) (amount : ℤ) → sum (of_bits n) (Int64 amount) ≡ of_bits (n + bits_of amount)
add_bits n amount = ap (λ (m : ℕ). Int64 (cast_signed w64 m)) (ap (λ (m : ℕ). (m + bits_of amount) % 2 ^ 64) (of_z-to_z w64 (n % 2 ^ 64) (omega arith)) ∙ mod-add-mod n (2 ^ 64) (bits_of amount))

after_bits : (n : ℕ) (amounts : List ℤ) → after_adds (of_bits n) amounts ≡ of_bits (n + sum_by bits_of amounts)
after_bits n [] = ap of_bits (omega arith)
after_bits n (amount ∷ amounts) = ap (λ (held : Number). after_adds held amounts) (add_bits n amount) ∙ (after_bits (n + bits_of amount) amounts ∙ ap of_bits (omega (arith, sum_by-cons bits_of amount amounts)))

pub zero_bits : zero_of kinds.Int64 ≡ of_bits 0
zero_bits = refl

pub all_bits : (amounts : List ℤ) → after_adds (zero_of kinds.Int64) amounts ≡ of_bits (sum_by bits_of amounts)
all_bits amounts = after_bits 0 amounts ∙ ap of_bits (omega arith)

pub in_any_order : (amounts others : List ℤ) → IsPermutation amounts others → after_adds (zero_of kinds.Int64) amounts ≡ after_adds (zero_of kinds.Int64) others
in_any_order amounts others same = all_bits amounts ∙ (ap of_bits (sym (sum_by-IsPermutation bits_of amounts others same)) ∙ sym (all_bits others))

-- what the calls of scripts add, as bits
abbrev pub call_bits : ℕ → Call → ℕ
call_bits place call = sum_by bits_of (cond (call.object == place) (amount_of call.operation) [])

script_bits : (place : ℕ) (script : List Call) → sum_by bits_of (flat_map (λ call. cond (call.object == place) (amount_of call.operation) []) script) ≡ sum_by (call_bits place) script
script_bits place [] = refl
script_bits place (call ∷ script) = sum_by-append bits_of (cond (call.object == place) (amount_of call.operation) []) _
    ∙ (ap (λ n. call_bits place call + n) (script_bits place script) ∙ sym (sum_by-cons (call_bits place) call script))

pub scripts_bits : (place : ℕ) (scripts : List (List Call)) → sum_by bits_of (amounts_at place scripts) ≡ sum_by (λ script. sum_by (call_bits place) script) scripts
scripts_bits place [] = refl
scripts_bits place (script ∷ scripts) = sum_by-append bits_of (flat_map (λ call. cond (call.object == place) (amount_of call.operation) []) script) _
    ∙ (ap (λ n. n + sum_by bits_of (amounts_at place scripts)) (script_bits place script) ∙ (ap (λ n. sum_by (call_bits place) script + n) (scripts_bits place scripts) ∙ sym (sum_by-cons (λ s. sum_by (call_bits place) s) script scripts)))
