-- Fronts that rise from entry to entry.
use Rattle.std.proofs.Common.{◌≡◌, ℕ, zero, suc, ◌<◌, List, [], ◌∷◌, Some, subst, arith}
use Rattle.std.specs.Prelude.{slice_get}
use Rattle.sync_model.specs.declared.journal.Entry.{Entry}
use Rattle.sync_model.specs.Front.{Front, NoLess, Later}
use Rattle.sync_model.specs.Journal.{front_at, Rising}

then_on : (low middle high : Front) → Later middle low → NoLess high middle → NoLess high low
then_on low middle high first second = ((λ caller. let a = first.0 caller in let b = second.0 caller in omega arith), (let a = first.1 in let b = second.1 in omega arith))

later_on : (low middle high : Front) → Later middle low → Later high middle → Later high low
later_on low middle high first second = ((λ caller. let a = first.0 caller in let b = second.0 caller in omega arith), (let a = first.1 in let b = second.1 in omega arith))

some_is : {A : Type 0} (x y : A) → Some x ≡ Some y → x ≡ y
some_is x y is = cc

module _ {E R : Type 0} where
  pub rises : (from to : Front) (entries : List (Entry E R)) → Rising from entries to → NoLess to from
  rises from to [] rising = rising
  rises from to (x ∷ xs) rising = then_on from (front_at x) to rising.0 (rises (front_at x) to xs rising.1)

  pub from_first : (from to : Front) (entries : List (Entry E R)) (i : ℕ) (entry : Entry E R) → Rising from entries to → slice_get entries i ≡ Some entry → Later (front_at entry) from
  from_first from to [] i entry rising at = cc
  from_first from to (x ∷ xs) zero entry rising at = subst (λ (y : Entry E R). Later (front_at y) from) (some_is x entry at) rising.0
  from_first from to (x ∷ xs) (suc i) entry rising at = later_on from (front_at x) (front_at entry) rising.0 (from_first (front_at x) to xs i entry rising.1 at)

  pub to_last : (from to : Front) (entries : List (Entry E R)) (i : ℕ) (entry : Entry E R) → Rising from entries to → slice_get entries i ≡ Some entry → NoLess to (front_at entry)
  to_last from to [] i entry rising at = cc
  to_last from to (x ∷ xs) zero entry rising at = subst (λ (y : Entry E R). NoLess to (front_at y)) (some_is x entry at) (rises (front_at x) to xs rising.1)
  to_last from to (x ∷ xs) (suc i) entry rising at = to_last (front_at x) to xs i entry rising.1 at

  pub any_two : (from to : Front) (entries : List (Entry E R)) (i j : ℕ) (earlier later : Entry E R) → Rising from entries to → i < j → slice_get entries i ≡ Some earlier → slice_get entries j ≡ Some later → Later (front_at later) (front_at earlier)
  any_two from to [] i j earlier later rising before at then_at = cc
  any_two from to (x ∷ xs) i zero earlier later rising before at then_at = absurd (omega arith)
  any_two from to (x ∷ xs) zero (suc j) earlier later rising before at then_at = subst (λ (y : Entry E R). Later (front_at later) (front_at y)) (some_is x earlier at) (from_first (front_at x) to xs j later rising.1 then_at)
  any_two from to (x ∷ xs) (suc i) (suc j) earlier later rising before at then_at = any_two (front_at x) to xs i j earlier later rising.1 (omega arith) at then_at
