-- The first of a list of checks that fails.
use Rattle.std.proofs.Common.{◌≡◌, ℕ, true, false, cond, List, [], ◌∷◌, ◌++◌, Option, Some, None, refl, ap, ◌∙◌}
use Rattle.workload.specs.declared.keyword.Operand.{Operand}
use Rattle.workload.specs.declared.keyword.Verb.{Verb}
use Rattle.workload.specs.declared.reason.Reason.{Reason}
use Rattle.workload.specs.Draft.{Draft}
use Rattle.workload.specs.Checks.{Check, first_failing, form_words, form_checks, keys_among, tries_among, limit_checks, ranges_in, accesses_in}

-- the first of some checks that fails is the first of these and others behind them
pub fails_first : (xs ys : List Check) (r : Reason) → first_failing xs ≡ Some r → first_failing (xs ++ ys) ≡ Some r
fails_first [] ys r e = absurd cc
fails_first (x ∷ xs) ys r e =
    elim x.0 as (λ b. cond b (first_failing xs) (Some x.1) ≡ Some r → cond b (first_failing (xs ++ ys)) (Some x.1) ≡ Some r) [
      | true ↦ λ h. fails_first xs ys r h
      | false ↦ λ h. h
    ] e

-- checks that all pass leave it to those behind them
pub passes_first : (xs ys : List Check) → first_failing xs ≡ None → first_failing (xs ++ ys) ≡ first_failing ys
passes_first [] ys e = refl
passes_first (x ∷ xs) ys e =
    elim x.0 as (λ b. cond b (first_failing xs) (Some x.1) ≡ None → cond b (first_failing (xs ++ ys)) (Some x.1) ≡ first_failing ys) [
      | true ↦ λ h. passes_first xs ys h
      | false ↦ λ h. absurd cc
    ] e

-- words of a form that pass all its checks, the keys among them, and how many waits they say
abbrev pub PassesWith : Draft → Option (List Operand) → List (List ℕ) → List (List ℕ) → ℕ → Type 0
PassesWith d form words keys tries = (keys_among form words ≡ keys) × (tries_among form words ≡ tries) × (first_failing (form_words d form words) ≡ None)

-- a call whose operands pass is left to the limits
pub form_passes : (d : Draft) (verb : Verb) (form : Option (List Operand)) (words keys : List (List ℕ)) (tries : ℕ) → PassesWith d form words keys tries
    → first_failing (form_checks d verb form words) ≡ first_failing (limit_checks d keys (ranges_in verb) tries (accesses_in verb))
form_passes d verb form words keys tries h =
    passes_first (form_words d form words) _ h.2
    ∙ ap (λ (ks : List (List ℕ)). first_failing (limit_checks d ks (ranges_in verb) (tries_among form words) (accesses_in verb))) h.0
    ∙ ap (λ (n : ℕ). first_failing (limit_checks d keys (ranges_in verb) n (accesses_in verb))) h.1
