-- What an `ifeq` of a line answers, and what it passes over.
use Rattle.std.proofs.Common.{◌≡◌, ◌↔◌, ℕ, zero, suc, ◌+◌, ◌<◌, ℤ, Bool, true, false, cond, List, [], ◌∷◌, ◌++◌, length, Some, slice_get, refl, sym, ap, ◌∙◌, subst, append_assoc, arith}
use Rattle.std.specs.Prelude.{Ok}
use Rattle.std.proofs.lemmas.Bool.{false≢true, eqb-true, eq-eqb}
use Rattle.std.proofs.lemmas.Bool.Decides.{Decides-int_eq}
use Rattle.std.proofs.lemmas.Option.{none-some, same_Some}
use Rattle.script_calls.specs.declared.call.Call.{Call}
use Rattle.script_calls.specs.declared.call.ComposedCall.TheVariants.{IfEqual}
use Rattle.script_calls.specs.declared.call.Operation.TheVariants as operations
use Rattle.script_calls.specs.declared.call.Reply.{Reply}
use Rattle.script_calls.specs.declared.call.Reply.TheVariants as replies
use Rattle.script_calls.specs.Runs.{passed_over}
use Rattle.sync_model.specs.declared.answer.Answer.TheVariants.{Done}
use Rattle.sync_types.specs.declared.atomic_object.AtomicReply.TheVariants.{Compared}
use Rattle.sync_types.specs.declared.atomic_object.Number.{Number}
use Rattle.sync_types.specs.declared.atomic_object.Number.TheVariants as numbers
use Rattle.sync_types.specs.SequentialAtomic.{is_same}
use Rattle.workload.specs.Plan.{Plan}
use Rattle.run_record.specs.declared.made.Made.{Made}
use Rattle.run_record.specs.Calls.{SpellsCall}
use Rattle.run_record.specs.Lines.{SpeltCall, AreSpelt}
use Rattle.run_record.specs.Record.{shared_in}
use Rattle.run_laws.proofs.DoneLines.{items_in}

-- equal numbers
number_told : (a b : Number) → is_same a b ≡ true → a ≡ b
number_told (numbers.Int32 a) (numbers.Int32 b) is = ap (λ (n : ℤ). numbers.Int32 n) ((Decides-int_eq a b).0 is)
number_told (numbers.Int64 a) (numbers.Int64 b) is = ap (λ (n : ℤ). numbers.Int64 n) ((Decides-int_eq a b).0 is)
number_told (numbers.Uint32 a) (numbers.Uint32 b) is = ap (λ (n : ℕ). numbers.Uint32 n) (eqb-true a b is)
number_told (numbers.Uint64 a) (numbers.Uint64 b) is = ap (λ (n : ℕ). numbers.Uint64 n) (eqb-true a b is)
number_told (numbers.Bool true) (numbers.Bool true) is = refl
number_told (numbers.Bool false) (numbers.Bool false) is = refl
number_told a b is = absurd cc

number_same : (a : Number) → is_same a a ≡ true
number_same (numbers.Int32 a) = (Decides-int_eq a a).1 refl
number_same (numbers.Int64 a) = (Decides-int_eq a a).1 refl
number_same (numbers.Uint32 a) = eq-eqb a a refl
number_same (numbers.Uint64 a) = eq-eqb a a refl
number_same (numbers.Bool true) = refl
number_same (numbers.Bool false) = refl

pub same_number : (a b : Number) → (is_same a b ≡ true) ↔ (a ≡ b)
same_number a b = (number_told a b, λ is. ap (λ (n : Number). is_same a n) (sym is) ∙ number_same a)

-- a completed call among the items of its line
pub record IsAt (plan : Plan) (worker : ℕ) (spelt : List SpeltCall) (s : SpeltCall) : Type 0 where
  pub before : ℕ
  pub earlier : List Made
  pub later : List Made
  pub items : items_in spelt ≡ earlier ++ (s.items ++ later)
  pub spells : SpellsCall plan worker before s.call s.items (Done (Ok s.reply))

pub spelt_at : (plan : Plan) (worker before : ℕ) (spelt : List SpeltCall) (i : ℕ) (s : SpeltCall) → AreSpelt plan worker before spelt → slice_get spelt i ≡ Some s → IsAt plan worker spelt s
spelt_at plan worker before [] i s are at = absurd (none-some s at)
spelt_at plan worker before (t ∷ spelt) zero s are at = subst (IsAt plan worker (t ∷ spelt)) (same_Some t s at) (record { before = before; earlier = []; later = items_in spelt; items = refl; spells = are.0 })
spelt_at plan worker before (t ∷ spelt) (suc i) s are at =
    let there = spelt_at plan worker (before + length (shared_in t.items)) spelt i s are.1 at in
    record {
      before = there.before;
      earlier = t.items ++ there.earlier;
      later = there.later;
      items = ap (λ (l : List Made). t.items ++ l) there.items ∙ sym (append_assoc t.items there.earlier (s.items ++ there.later));
      spells = there.spells;
    }

-- what an `ifeq` passes over
module _ (passes_all : (call : Call) (value : Number) (passes : ℕ) (reply : Reply ℕ) → call.operation ≡ operations.Composed (IfEqual value passes) → reply ≡ replies.Atomic (Compared false) → passed_over call reply ≡ passes)
    (only : (call : Call) (reply : Reply ℕ) → 0 < passed_over call reply
    → ((value : Number) × (passes : ℕ) × (call.operation ≡ operations.Composed (IfEqual value passes))) × (reply ≡ replies.Atomic (Compared false))) where
  abbrev is_met : Reply ℕ → Bool
  is_met (replies.Atomic (Compared met)) = met
  is_met reply = true

  pub passed_by : (call : Call) (value : Number) (passes : ℕ) (reply : Reply ℕ) (met : Bool) → call.operation ≡ operations.Composed (IfEqual value passes) → reply ≡ replies.Atomic (Compared met) → passed_over call reply ≡ cond met 0 passes
  passed_by call value passes reply false asks tells = passes_all call value passes reply asks tells
  passed_by call value passes reply true asks tells = by_number (passed_over call reply) refl where
    by_number : (n : ℕ) → passed_over call reply ≡ n → passed_over call reply ≡ 0
    by_number zero is = is
    by_number (suc n) is = absurd (false≢true (sym (ap is_met (only call reply (omega (arith, is))).1) ∙ ap is_met tells))
