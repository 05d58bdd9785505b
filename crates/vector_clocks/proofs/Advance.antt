-- All clocks behind a step.
use Rattle.std.proofs.Common.{◌≡◌, ◌≢◌, ◌⊎◌, inl, inr, ℕ, ◌+◌, ◌<◌, Bool, true, false, ◌==◌, ◌||◌, List, length, set, Some, slice_get, slice_index, refl, sym, ap, ◌∙◌, subst}
use Rattle.std.proofs.lemmas.Bool.{false≢true}
use Rattle.std.proofs.lemmas.Bool.Decides.{eqb_tells}
use Rattle.std.proofs.Math.Bool.{or-true}
use Rattle.vector_clocks.specs.declared.clock.Clock.{Clock}
use Rattle.vector_clocks.specs.declared.step.Step.{Step}
use Rattle.vector_clocks.specs.Before.{is_among, sets, hands_on, made_before}
use Rattle.vector_clocks.specs.Knowing.{AtOrBefore, WorkerKnows, ChannelKnows, Shows, AreAt, GivenBy, AreGiven, SetBy, AreSet}
use Rattle.vector_clocks.proofs.Channels.{set_there, set_elsewhere}
use Rattle.vector_clocks.proofs.Numbers.{made_own, made_other}
use Rattle.vector_clocks.proofs.NextStep.{kept_clock, channel_unknown, own_worker, other_worker, unset_channel, set_channel}
use Rattle.vector_clocks.proofs.Steps.{joined, same_shown}

module _ (trace : List Step) (n : ℕ) (x : Step) (at : slice_get trace n ≡ Some x) (clock : Clock) (shows : Shows trace (n + 1) clock.counts (λ i. AtOrBefore trace i n)) where
  -- a channel behind the step, by what it was
  given : (c : ℕ) (was k : Clock) (b : Bool) → is_among x.gives.items c ≡ b → sets x c ≡ false → Shows trace n was.counts (ChannelKnows trace n c) → GivenBy b clock was k
      → Shows trace (n + 1) k.counts (λ i. ChannelKnows trace n c i ⊎ ((hands_on x c ≡ true) × AtOrBefore trace i n))
  given c was k true gives unset of_was joins =
      let hands : hands_on x c ≡ true = ap (λ b. b || sets x c) gives in
      same_shown trace (n + 1) k.counts (λ i. ChannelKnows trace n c i ⊎ AtOrBefore trace i n) (λ i. ChannelKnows trace n c i ⊎ ((hands_on x c ≡ true) × AtOrBefore trace i n))
      (λ i within knows. with_hands i hands knows) (λ i within knows. without i knows)
      (joined trace (n + 1) was.counts clock.counts k.counts (ChannelKnows trace n c) (λ i. AtOrBefore trace i n) (kept_clock trace n x at was.counts (ChannelKnows trace n c) (channel_unknown trace n x at c) of_was) shows joins)
    where
      with_hands : (i : ℕ) → hands_on x c ≡ true → ChannelKnows trace n c i ⊎ AtOrBefore trace i n → ChannelKnows trace n c i ⊎ ((hands_on x c ≡ true) × AtOrBefore trace i n)
      with_hands i hands (inl knows) = inl knows
      with_hands i hands (inr or) = inr (hands, or)

      without : (i : ℕ) → ChannelKnows trace n c i ⊎ ((hands_on x c ≡ true) × AtOrBefore trace i n) → ChannelKnows trace n c i ⊎ AtOrBefore trace i n
      without i (inl knows) = inl knows
      without i (inr (hands, or)) = inr or
  given c was k false gives unset of_was same =
      same_shown trace (n + 1) k.counts (ChannelKnows trace n c) (λ i. ChannelKnows trace n c i ⊎ ((hands_on x c ≡ true) × AtOrBefore trace i n))
      (λ i within knows. inl knows) (λ i within knows. without i knows)
      (subst (λ (j : Clock). Shows trace (n + 1) j.counts (ChannelKnows trace n c)) (sym same) (kept_clock trace n x at was.counts (ChannelKnows trace n c) (channel_unknown trace n x at c) of_was))
    where
      without : (i : ℕ) → ChannelKnows trace n c i ⊎ ((hands_on x c ≡ true) × AtOrBefore trace i n) → ChannelKnows trace n c i
      without i (inl knows) = knows
      without i (inr (hands, or)) = absurd (false≢true (sym (ap (λ b. b || sets x c) gives ∙ unset) ∙ hands))

  module _ (workers channels : List Clock) (are : AreAt trace n workers channels) (own : slice_index clock.counts x.worker ≡ made_before trace n x.worker + 1) (long : x.worker < length workers)
      (between new : List Clock) (gave : AreGiven x.gives.items clock channels between) (has_set : AreSet x.sets.items clock between new) where
    worker : (w : ℕ) (k : Clock) → slice_get (set workers x.worker clock) w ≡ Some k → ((x.worker == w) ≡ true) × (x.worker ≡ w) ⊎ ((x.worker == w) ≡ false) × (x.worker ≢ w) → Shows trace (n + 1) k.counts (WorkerKnows trace (n + 1) w)
    worker w k at_w (inl (t, same)) =
        let is : k ≡ clock = set_there workers x.worker clock k (ap (slice_get (set workers x.worker clock)) same ∙ at_w) in
        subst (λ v. Shows trace (n + 1) k.counts (WorkerKnows trace (n + 1) v)) same (subst (λ (j : Clock). Shows trace (n + 1) j.counts (WorkerKnows trace (n + 1) x.worker)) (sym is) (own_worker trace n x at clock.counts shows))
    worker w k at_w (inr (t, other)) = other_worker trace n x at k.counts w other (are.of_worker w k (set_elsewhere workers x.worker w clock k other at_w))

    counts : (w : ℕ) (k : Clock) → slice_get (set workers x.worker clock) w ≡ Some k → ((x.worker == w) ≡ true) × (x.worker ≡ w) ⊎ ((x.worker == w) ≡ false) × (x.worker ≢ w) → slice_index k.counts w ≡ made_before trace (n + 1) w
    counts w k at_w (inl (t, same)) =
        let is : k ≡ clock = set_there workers x.worker clock k (ap (slice_get (set workers x.worker clock)) same ∙ at_w) in
        subst (λ v. slice_index k.counts v ≡ made_before trace (n + 1) v) same (ap (λ (j : Clock). slice_index j.counts x.worker) is ∙ own ∙ sym (made_own trace n x at))
    counts w k at_w (inr (t, other)) = are.own w k (set_elsewhere workers x.worker w clock k other at_w) ∙ sym (made_other trace n x at w other)

    channel : (c : ℕ) (k : Clock) (b : Bool) → sets x c ≡ b → (mid : Clock) × (slice_get between c ≡ Some mid) × SetBy b clock mid k → Shows trace (n + 1) k.counts (ChannelKnows trace (n + 1) c)
    channel c k true is (mid, at_mid, same) =
        subst (λ (j : Clock). Shows trace (n + 1) j.counts (ChannelKnows trace (n + 1) c)) (sym same) (set_channel trace n x at clock.counts c is (ap (λ b. is_among x.gives.items c || b) is ∙ or-true (is_among x.gives.items c)) shows)
    channel c k false is (mid, at_mid, same) = by (gave c mid at_mid) where
      by : (was : Clock) × (slice_get channels c ≡ Some was) × GivenBy (is_among x.gives.items c) clock was mid → Shows trace (n + 1) k.counts (ChannelKnows trace (n + 1) c)
      by (was, at_was, given_by) =
          subst (λ (j : Clock). Shows trace (n + 1) j.counts (ChannelKnows trace (n + 1) c)) (sym same)
          (unset_channel trace n x at mid.counts c is (given c was mid (is_among x.gives.items c) refl is (are.of_channel c was at_was) given_by))

    pub next_at : AreAt trace (n + 1) (set workers x.worker clock) new
    next_at = record {
      of_worker = λ w k at_w. worker w k at_w (eqb_tells x.worker w);
      own = λ w k at_w. counts w k at_w (eqb_tells x.worker w);
      of_channel = λ c k at_c. channel c k (sets x c) refl (has_set c k at_c);
    }
