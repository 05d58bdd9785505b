-- What was found of the workers' lists, worker by worker.
use Rattle.std.proofs.Common.{◌≡◌, ◌⊎◌, inl, inr, ℕ, ◌+◌, ◌<◌, nat_eq, List, [], ◌∷◌, ◌++◌, length, Option, Some, None, slice_get, refl, sym, ap, ◌∙◌, subst, arith}
use Rattle.std.specs.Bool.{Decides}
use Rattle.std.specs.Option.{option_eq}
use Rattle.std.proofs.Math.Nat.{eq-or-lt_of_le}
use Rattle.std.proofs.lemmas.Bool.{false≢true}
use Rattle.std.proofs.lemmas.Bool.Decides.{Decides-eqb}
use Rattle.std.proofs.lemmas.List.{length-append}
use Rattle.std.proofs.lemmas.Option.{none-some, same_Some}
use Rattle.sync_model.proofs.Histories.{get_last, get_left}
use Rattle.workload.specs.Plan.{Plan}
use Rattle.record_text.specs.declared.item_line.ItemLine.{ItemLine}
use Rattle.run_check.specs.declared.spelling.SpeltList.{SpeltList}
use Rattle.run_check.specs.declared.spelling.Spelling.{Spelling}
use Rattle.run_check.specs.Lists.{AreSpeltTo, IsSpeltList, list_at}

-- a test of two items' calls
pub calls_decide : (a b : Option ℕ) → Decides (option_eq nat_eq a b) (a ≡ b)
calls_decide None None = (λ t. refl, λ e. refl)
calls_decide None (Some b) = (λ t. absurd (false≢true t), λ e. absurd (none-some b e))
calls_decide (Some a) None = (λ t. absurd (false≢true t), λ e. absurd (none-some a (sym e)))
calls_decide (Some a) (Some b) = let d = Decides-eqb a b in (λ t. ap Some (d.0 t), λ e. d.1 (same_Some a b e))

at_end : {X : Type 0} (xs : List X) (x : X) (n : ℕ) → length xs ≡ n → slice_get (xs ++ x ∷ []) n ≡ Some x
at_end xs x n count = subst (λ k. slice_get (xs ++ x ∷ []) k ≡ Some x) count (get_last xs x)

module _ (plan : Plan) (items : List ItemLine) where
  pub one_found_more : (n : ℕ) (old new : Spelling) (one : SpeltList) → AreSpeltTo plan items n old → IsSpeltList plan items n one
      → new.lines ≡ old.lines ++ one.line ∷ [] → new.all ≡ old.all ++ one.told.all ∷ [] → new.shared.items ≡ old.shared.items ++ one.told.shared ∷ [] → new.entries ≡ old.entries ++ one.told.entries ∷ []
      → AreSpeltTo plan items (n + 1) new
  one_found_more n old new one are is lines all shared entries = record {
    lines = let count = are.lines in let long = length-append old.lines (one.line ∷ []) in ap length lines ∙ omega (arith, count, long);
    all = let count = are.all in let long = length-append old.all (one.told.all ∷ []) in ap length all ∙ omega (arith, count, long);
    shared = let count = are.shared in let long = length-append old.shared.items (one.told.shared ∷ []) in ap length shared ∙ omega (arith, count, long);
    entries = let count = are.entries in let long = length-append old.entries (one.told.entries ∷ []) in ap length entries ∙ omega (arith, count, long);
    each = λ worker below. by worker (eq-or-lt_of_le {n = worker} {m = n} (omega (arith, below)));
  } where
    by : (worker : ℕ) → (worker ≡ n) ⊎ (worker < n) → (s : SpeltList) × list_at new worker s × IsSpeltList plan items worker s
    by worker (inl same) = (
      one,
      (
        ap (λ xs. slice_get xs worker) lines ∙ at_end old.lines one.line worker (are.lines ∙ sym same),
        ap (λ xs. slice_get xs worker) all ∙ at_end old.all one.told.all worker (are.all ∙ sym same),
        ap (λ xs. slice_get xs worker) shared ∙ at_end old.shared.items one.told.shared worker (are.shared ∙ sym same),
        ap (λ xs. slice_get xs worker) entries ∙ at_end old.entries one.told.entries worker (are.entries ∙ sym same),
      ),
      subst (λ k. IsSpeltList plan items k one) (sym same) is,
    )
    by worker (inr before) =
        let (s, at, spelt) = are.each worker before in (
          s,
          (
            ap (λ xs. slice_get xs worker) lines ∙ get_left old.lines (one.line ∷ []) worker s.line at.0,
            ap (λ xs. slice_get xs worker) all ∙ get_left old.all (one.told.all ∷ []) worker s.told.all at.1,
            ap (λ xs. slice_get xs worker) shared ∙ get_left old.shared.items (one.told.shared ∷ []) worker s.told.shared at.2,
            ap (λ xs. slice_get xs worker) entries ∙ get_left old.entries (one.told.entries ∷ []) worker s.told.entries at.3,
          ),
          spelt,
        )
