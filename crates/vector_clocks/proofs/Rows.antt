-- Rows of clocks that grow.
use Rattle.std.proofs.Common.{◌≡◌, ◌⊎◌, inl, inr, ℕ, zero, suc, ◌+◌, ◌<◌, ◌≤◌, List, [], ◌∷◌, ◌++◌, length, replicate, Some, slice_get, slice_index, refl, sym, ap, ◌∙◌, subst, arith}
use Rattle.std.proofs.lemmas.Option.{none-some, same_Some}
use Rattle.vector_clocks.specs.declared.clock.Clock.{Clock}
use Rattle.vector_clocks.specs.declared.step.Step.{Step}
use Rattle.vector_clocks.specs.Before.{Before}
use Rattle.vector_clocks.specs.Knowing.{IsBehind, AreZero, ClocksUpTo, AreAt, AreClocks, Shows, AtOrBefore, WorkerKnows, ChannelKnows}

pushed : {A : Type 0} (xs : List A) (y : A) (i : ℕ) (z : A) → slice_get (xs ++ y ∷ []) i ≡ Some z → (slice_get xs i ≡ Some z) ⊎ ((i ≡ length xs) × (z ≡ y))
pushed [] y zero z e = inr (refl, sym (same_Some y z e))
pushed [] y (suc i) z e = absurd (none-some z e)
pushed (x ∷ xs) y zero z e = inl e
pushed (x ∷ xs) y (suc i) z e = further (pushed xs y i z e) where
  further : (slice_get xs i ≡ Some z) ⊎ ((i ≡ length xs) × (z ≡ y)) → (slice_get xs i ≡ Some z) ⊎ ((suc i ≡ suc (length xs)) × (z ≡ y))
  further (inl at) = inl at
  further (inr (same, is)) = inr (ap suc same, is)

all_zero : (n w : ℕ) → slice_index (replicate n 0) w ≡ 0
all_zero zero w = refl
all_zero (suc n) zero = refl
all_zero (suc n) (suc w) = all_zero n w

pub none_zero : AreZero []
none_zero = λ i clock at. absurd (none-some clock at)

pub more_zero : (clocks : List Clock) (new : Clock) → new.counts ≡ replicate 32 0 → AreZero clocks → AreZero (clocks ++ new ∷ [])
more_zero clocks new is are = λ i clock at w. by i clock w (pushed clocks new i clock at) where
  by : (i : ℕ) (clock : Clock) (w : ℕ) → (slice_get clocks i ≡ Some clock) ⊎ ((i ≡ length clocks) × (clock ≡ new)) → slice_index clock.counts w ≡ 0
  by i clock w (inl at) = are i clock at w
  by i clock w (inr (last, same)) = ap (λ (k : Clock). slice_index k.counts w) same ∙ ap (λ xs. slice_index xs w) is ∙ all_zero 32 w

module _ (trace : List Step) where
  first_shows : (clock : Clock) (P : ℕ → Type 0) → ((w : ℕ) → slice_index clock.counts w ≡ 0) → Shows trace 0 clock.counts P
  first_shows clock P none = record {
    sound = λ i x within. absurd (omega (arith, within));
    complete = λ i x within. absurd (omega (arith, within));
    most = λ w. let e = none w in omega (arith, e);
  }

  pub first_at : (workers channels : List Clock) → AreZero workers → AreZero channels → AreAt trace 0 workers channels
  first_at workers channels of_workers of_channels = record {
    of_worker = λ w clock at. first_shows clock (WorkerKnows trace 0 w) (of_workers w clock at);
    own = λ w clock at. of_workers w clock at w;
    of_channel = λ c clock at. first_shows clock (ChannelKnows trace 0 c) (of_channels c clock at);
  }

  pub more_clocks : (n : ℕ) (clocks : List Clock) (new : Clock) → length clocks ≡ n → IsBehind trace n new → ClocksUpTo trace n clocks → ClocksUpTo trace (n + 1) (clocks ++ new ∷ [])
  more_clocks n clocks new many shows upto = λ m clock at. by m clock (pushed clocks new m clock at) where
    old : (m : ℕ) (clock : Clock) → (m < n) × IsBehind trace m clock → (m < n + 1) × IsBehind trace m clock
    old m clock (below, s) = (omega (arith, below), s)

    by : (m : ℕ) (clock : Clock) → (slice_get clocks m ≡ Some clock) ⊎ ((m ≡ length clocks) × (clock ≡ new)) → (m < n + 1) × IsBehind trace m clock
    by m clock (inl at) = old m clock (upto m clock at)
    by m clock (inr (last, same)) =
        let is : m ≡ n = last ∙ many in
        (omega (arith, is), subst (λ k. IsBehind trace k clock) (sym is) (subst (IsBehind trace n) (sym same) shows))

  pub no_clocks : ClocksUpTo trace 0 []
  no_clocks = λ m clock at. absurd (none-some clock at)

  pub are_clocks : (n : ℕ) (clocks : List Clock) → length clocks ≡ length trace → ClocksUpTo trace n clocks → AreClocks trace clocks
  are_clocks n clocks all upto = record { all = all; each = λ m clock at. (upto m clock at).1 }

  -- by clocks, an earlier step is before a later one exactly where the later one's clock counts it
  pub counted_before : (clocks : List Clock) → AreClocks trace clocks → (i j : ℕ) (x : Step) (a b : Clock) → i < j → slice_get trace i ≡ Some x → slice_get clocks i ≡ Some a → slice_get clocks j ≡ Some b
      → (slice_index a.counts x.worker ≤ slice_index b.counts x.worker → Before trace i j) × (Before trace i j → slice_index a.counts x.worker ≤ slice_index b.counts x.worker)
  counted_before clocks are i j x a b earlier at_x at_a at_b =
      let own = (are.each i a at_a).own x at_x in
      let shows = (are.each j b at_b).shows in (
        λ most. not_itself (shows.sound i x (omega (arith, earlier)) at_x (omega (arith, own, most))),
        λ before. let less = shows.complete i x (omega (arith, earlier)) at_x (inr before) in omega (arith, own, less),
      )
    where
      not_itself : AtOrBefore trace i j → Before trace i j
      not_itself (inl same) = absurd (omega (arith, earlier, same))
      not_itself (inr before) = before
