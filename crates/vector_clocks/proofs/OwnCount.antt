-- The clock behind a step.
use Rattle.std.proofs.Common.{◌≡◌, ℕ, ◌+◌, ◌<◌, List, length, set, sym, ap, ◌∙◌, arith, slice_index, slice_get, Some}
use Rattle.std.proofs.lemmas.List.{get_or-set_same, get_or-set_other}
use Rattle.vector_clocks.specs.declared.step.Step.{Step}
use Rattle.vector_clocks.specs.Before.{made_before}
use Rattle.vector_clocks.specs.Joins.{IsAtLeast}
use Rattle.vector_clocks.specs.Knowing.{AtOrBefore, Taken, Shows}
use Rattle.vector_clocks.proofs.NextStep.{counted}

module _ (trace : List Step) (n : ℕ) (x : Step) (at : slice_get trace n ≡ Some x) (was old new : List ℕ) (own : slice_index was x.worker ≡ made_before trace n x.worker)
    (shows : Shows trace n old (Taken trace n x.worker x.takes.items)) (rises : IsAtLeast old was) (long : x.worker < length old) (is : new ≡ set old x.worker (slice_index old x.worker + 1)) where
  exact : slice_index old x.worker ≡ made_before trace n x.worker
  exact = let most = shows.most x.worker in let least = rises x.worker in omega (arith, own, most, least)

  pub own_is : slice_index new x.worker ≡ made_before trace n x.worker + 1
  own_is = ap (λ xs. slice_index xs x.worker) is ∙ get_or-set_same old x.worker (slice_index old x.worker + 1) 0 long ∙ ap (λ k. k + 1) exact

  pub shows_is : Shows trace (n + 1) new (λ i. AtOrBefore trace i n)
  shows_is = counted trace n x at old new shows (record { own = own_is; others = λ w other. ap (λ xs. slice_index xs w) is ∙ get_or-set_other old x.worker w (slice_index old x.worker + 1) 0 (λ same. other (sym same)) })
