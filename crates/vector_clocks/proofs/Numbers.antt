-- How many steps of a worker stand before one.
use Rattle.std.proofs.Common.{◌≡◌, ◌≢◌, ℕ, ◌+◌, ◌≤◌, ◌==◌, List, cond, take, Some, slice_get, get_or, count_by, refl, ap, subst, ◌∙◌}
use Rattle.std.proofs.lemmas.Option.{slice_get_within, get_or_from_slice_get}
use Rattle.std.proofs.lemmas.Bool.{eq-eqb, ne_eqb}
use Rattle.std.proofs.lemmas.List.Sums.{count_by_more_no, count_by_more_yes, sum_by-take-le}
use Rattle.std.proofs.lemmas.List.{take-take}
use Rattle.vector_clocks.specs.declared.step.Step.{Step}
use Rattle.vector_clocks.specs.Before.{made_before}

module _ (trace : List Step) (n : ℕ) (x : Step) (at : slice_get trace n ≡ Some x) where
  is : get_or trace n x ≡ x
  is = get_or_from_slice_get trace n x x at

  -- a step is one more of its worker's
  pub made_own : made_before trace (n + 1) x.worker ≡ made_before trace n x.worker + 1
  made_own = count_by_more_yes (λ y. y.worker == x.worker) trace n x (slice_get_within trace n x at) (ap (λ (y : Step). y.worker == x.worker) is ∙ eq-eqb x.worker x.worker refl)

  -- and no other's
  pub made_other : (w : ℕ) → x.worker ≢ w → made_before trace (n + 1) w ≡ made_before trace n w
  made_other w other = count_by_more_no (λ y. y.worker == w) trace n x (slice_get_within trace n x at) (ap (λ (y : Step). y.worker == w) is ∙ ne_eqb x.worker w other)

-- of no worker fewer stand before a later one
pub made_rises : (trace : List Step) (i n w : ℕ) → i ≤ n → made_before trace i w ≤ made_before trace n w
made_rises trace i n w within =
    subst (λ xs. count_by (λ (x : Step). x.worker == w) xs ≤ made_before trace n w) (take-take i n trace within)
    (sum_by-take-le (λ (x : Step). cond (x.worker == w) 1 0) (take n trace) i)
