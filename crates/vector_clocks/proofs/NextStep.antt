-- What clocks know once one more step is made.
use Rattle.std.proofs.Common.{◌≡◌, ◌≢◌, ◌⊎◌, inl, inr, ℕ, ◌+◌, ◌<◌, ◌≤◌, Bool, true, false, ◌==◌, List, [], Some, slice_get, slice_index, refl, sym, ap, ◌∙◌, subst, arith}
use Rattle.std.proofs.lemmas.Bool.{false≢true, eqb-true, eqb-false}
use Rattle.std.proofs.Math.Nat.{eq-or-lt_of_le}
use Rattle.std.proofs.lemmas.Option.{same_Some}
use Rattle.vector_clocks.specs.declared.step.Step.{Step}
use Rattle.vector_clocks.specs.Before.{takes, sets, hands_on, Stands, Meets, Edge, Before, made_before}
use Rattle.vector_clocks.specs.Knowing.{AtOrBefore, WorkerKnows, ChannelKnows, Shows}
use Rattle.vector_clocks.proofs.Numbers.{made_own, made_rises}
use Rattle.vector_clocks.proofs.Steps.{before_earlier, or_earlier, goes_on, comes_by, same_shown}

-- two numbers are equal, or not
nat_dec : (a b : ℕ) → (a ≡ b) ⊎ (a ≢ b)
nat_dec a b = by (a == b) refl where
  by : (c : Bool) → (a == b) ≡ c → (a ≡ b) ⊎ (a ≢ b)
  by true is = inl (eqb-true a b is)
  by false is = inr (eqb-false a b is)

module _ (trace : List Step) (n : ℕ) (x : Step) (at : slice_get trace n ≡ Some x) where
  -- ---- what the step takes in

  abbrev pub Taken : ℕ → Type 0
  Taken i = WorkerKnows trace n x.worker i ⊎ ((c : ℕ) × (takes x c ≡ true) × ChannelKnows trace n c i)

  own_edge : (k : ℕ) (y : Step) → k < n → slice_get trace k ≡ Some y → y.worker ≡ x.worker → Edge trace k n
  own_edge k y earlier at_k same = record { first = y; second = x; at_first = at_k; at_second = at; earlier = earlier; meets = inl same }

  pub taken_before : (i : ℕ) → Taken i → Before trace i n
  taken_before i (inl (k, y, earlier, at_k, same, or)) = goes_on trace i k n or (own_edge k y earlier at_k same)
  taken_before i (inr (c, took, (k, stands, or))) =
      goes_on trace i k n or (record { first = stands.giver; second = x; at_first = stands.at; at_second = at; earlier = stands.earlier; meets = inr (c, took, stands) })

  by_edge : (i k : ℕ) (y z : Step) → AtOrBefore trace i k → slice_get trace k ≡ Some y → k < n → z ≡ x → Meets trace k n y z → Taken i
  by_edge i k y z or at_k earlier is (inl same) = inl (k, y, earlier, at_k, same ∙ ap (λ (s : Step). s.worker) is, or)
  by_edge i k y z or at_k earlier is (inr (c, took, stands)) = inr (c, subst (λ (s : Step). takes s c ≡ true) is took, (k, stands, or))

  pub before_taken : (i : ℕ) → Before trace i n → Taken i
  before_taken i before = last (comes_by trace i n before) where
    last : (k : ℕ) × AtOrBefore trace i k × Edge trace k n → Taken i
    last (k, or, edge) = by_edge i k edge.first edge.second or edge.at_first edge.earlier (same_Some edge.second x (sym edge.at_second ∙ at)) edge.meets

  -- ---- the clock of the step

  -- the new step is known of nobody yet
  pub worker_unknown : (v : ℕ) → WorkerKnows trace n v n → ⊥
  worker_unknown v (k, y, earlier, at_k, is, or) = let one = or_earlier trace n k or in absurd (omega arith)

  pub channel_unknown : (c : ℕ) → ChannelKnows trace n c n → ⊥
  channel_unknown c (k, stands, or) = let one = or_earlier trace n k or in let two = stands.earlier in absurd (omega arith)

  -- an old clock knows no more than it did
  pub kept_clock : (clock : List ℕ) (P : ℕ → Type 0) → (P n → ⊥) → Shows trace n clock P → Shows trace (n + 1) clock P
  kept_clock clock P unknown shows = record {
    sound = λ i y within at_i under. by_sound i y at_i under (eq-or-lt_of_le {n = i} {m = n} (omega (arith, within)));
    complete = λ i y within at_i known. by_complete i y at_i known (eq-or-lt_of_le {n = i} {m = n} (omega (arith, within)));
    most = λ w. let old = shows.most w in let rises = made_rises trace n (n + 1) w (omega arith) in omega arith;
  } where
    by_sound : (i : ℕ) (y : Step) → slice_get trace i ≡ Some y → made_before trace i y.worker < slice_index clock y.worker → (i ≡ n) ⊎ (i < n) → P i
    by_sound i y at_i under (inl is) =
        let most = shows.most y.worker in
        let same : made_before trace i y.worker ≡ made_before trace n y.worker = ap (λ k. made_before trace k y.worker) is in
        absurd (omega (arith, under, most, same))
    by_sound i y at_i under (inr below) = shows.sound i y below at_i under

    by_complete : (i : ℕ) (y : Step) → slice_get trace i ≡ Some y → P i → (i ≡ n) ⊎ (i < n) → made_before trace i y.worker < slice_index clock y.worker
    by_complete i y at_i known (inl is) = absurd (unknown (subst P is known))
    by_complete i y at_i known (inr below) = shows.complete i y below at_i known

  -- the clock that knows all that the step takes in, and then counts the step itself
  pub record Counts (old new : List ℕ) : Type 0 where
    pub own : slice_index new x.worker ≡ made_before trace n x.worker + 1
    pub others : (w : ℕ) → x.worker ≢ w → slice_index new w ≡ slice_index old w

  pub counted : (old new : List ℕ) → Shows trace n old Taken → Counts old new → Shows trace (n + 1) new (λ i. AtOrBefore trace i n)
  counted old new shows counts = record {
    sound = λ i y within at_i under. by_sound i y at_i under (eq-or-lt_of_le {n = i} {m = n} (omega (arith, within))) (nat_dec x.worker y.worker);
    complete = λ i y within at_i or. by_complete i y at_i or (eq-or-lt_of_le {n = i} {m = n} (omega (arith, within))) (nat_dec x.worker y.worker);
    most = λ w. by_most w (nat_dec x.worker w);
  } where
    by_sound : (i : ℕ) (y : Step) → slice_get trace i ≡ Some y → made_before trace i y.worker < slice_index new y.worker → (i ≡ n) ⊎ (i < n) → (x.worker ≡ y.worker) ⊎ (x.worker ≢ y.worker) → AtOrBefore trace i n
    by_sound i y at_i under (inl is) whose = inl is
    by_sound i y at_i under (inr below) (inl same) = inr ([], own_edge i y below at_i (sym same))
    by_sound i y at_i under (inr below) (inr other) = let e = counts.others y.worker other in inr (taken_before i (shows.sound i y below at_i (omega (arith, e, under))))

    by_complete : (i : ℕ) (y : Step) → slice_get trace i ≡ Some y → AtOrBefore trace i n → (i ≡ n) ⊎ (i < n) → (x.worker ≡ y.worker) ⊎ (x.worker ≢ y.worker) → made_before trace i y.worker < slice_index new y.worker
    by_complete i y at_i or here (inl same) =
        let rises = made_rises trace i n y.worker (or_earlier trace i n or) in
        let e : slice_index new y.worker ≡ made_before trace n y.worker + 1 = subst (λ w. slice_index new w ≡ made_before trace n w + 1) same counts.own in
        omega (arith, rises, e)
    by_complete i y at_i (inl is) here (inr other) = absurd (other (ap (λ (s : Step). s.worker) (same_Some x y (sym at ∙ ap (slice_get trace) (sym is) ∙ at_i))))
    by_complete i y at_i (inr before) here (inr other) =
        let less = shows.complete i y (before_earlier trace i n before) at_i (before_taken i before) in
        let e = counts.others y.worker other in
        omega (arith, less, e)

    by_most : (w : ℕ) → (x.worker ≡ w) ⊎ (x.worker ≢ w) → slice_index new w ≤ made_before trace (n + 1) w
    by_most w (inl same) =
        let e : slice_index new w ≡ made_before trace n w + 1 = subst (λ v. slice_index new v ≡ made_before trace n v + 1) same counts.own in
        let more : made_before trace (n + 1) w ≡ made_before trace n w + 1 = subst (λ v. made_before trace (n + 1) v ≡ made_before trace n v + 1) same (made_own trace n x at) in
        omega (arith, e, more)
    by_most w (inr other) =
        let e = counts.others w other in
        let old_most = shows.most w in
        let rises = made_rises trace n (n + 1) w (omega arith) in
        omega (arith, e, old_most, rises)

  -- ---- workers and channels behind the step

  pub own_worker : (clock : List ℕ) → Shows trace (n + 1) clock (λ i. AtOrBefore trace i n) → Shows trace (n + 1) clock (WorkerKnows trace (n + 1) x.worker)
  own_worker clock shows = same_shown trace (n + 1) clock (λ i. AtOrBefore trace i n) (WorkerKnows trace (n + 1) x.worker) (λ i within or. (n, x, omega arith, at, refl, or)) (λ i within knows. from i knows) shows where
    at_last : (i k : ℕ) (y : Step) → slice_get trace k ≡ Some y → y.worker ≡ x.worker → AtOrBefore trace i k → (k ≡ n) ⊎ (k < n) → AtOrBefore trace i n
    at_last i k y at_k same or (inl is) = subst (AtOrBefore trace i) is or
    at_last i k y at_k same or (inr below) = inr (goes_on trace i k n or (own_edge k y below at_k same))

    from : (i : ℕ) → WorkerKnows trace (n + 1) x.worker i → AtOrBefore trace i n
    from i (k, y, earlier, at_k, same, or) = at_last i k y at_k same or (eq-or-lt_of_le {n = k} {m = n} (omega (arith, earlier)))

  pub other_worker : (clock : List ℕ) (v : ℕ) → x.worker ≢ v → Shows trace n clock (WorkerKnows trace n v) → Shows trace (n + 1) clock (WorkerKnows trace (n + 1) v)
  other_worker clock v other shows =
      same_shown trace (n + 1) clock (WorkerKnows trace n v) (WorkerKnows trace (n + 1) v) (λ i within knows. to i knows) (λ i within knows. from i knows)
      (kept_clock clock (WorkerKnows trace n v) (worker_unknown v) shows)
    where
      to : (i : ℕ) → WorkerKnows trace n v i → WorkerKnows trace (n + 1) v i
      to i (k, y, earlier, at_k, same, or) = (k, y, omega arith, at_k, same, or)

      by_last : (i k : ℕ) (y : Step) → slice_get trace k ≡ Some y → y.worker ≡ v → AtOrBefore trace i k → (k ≡ n) ⊎ (k < n) → WorkerKnows trace n v i
      by_last i k y at_k same or (inl is) = absurd (other (ap (λ (s : Step). s.worker) (same_Some x y (sym at ∙ ap (slice_get trace) (sym is) ∙ at_k)) ∙ same))
      by_last i k y at_k same or (inr below) = (k, y, below, at_k, same, or)

      from : (i : ℕ) → WorkerKnows trace (n + 1) v i → WorkerKnows trace n v i
      from i (k, y, earlier, at_k, same, or) = by_last i k y at_k same or (eq-or-lt_of_le {n = k} {m = n} (omega (arith, earlier)))

  -- what stood stands still, unless the step sets the channel
  still_stands : (c k : ℕ) → sets x c ≡ false → Stands trace c k n → Stands trace c k (n + 1)
  still_stands c k unset stands = record {
    giver = stands.giver;
    at = stands.at;
    gives = stands.gives;
    earlier = let e = stands.earlier in omega arith;
    kept = λ m y above below at_m. by_last m y above at_m (eq-or-lt_of_le {n = m} {m = n} (omega (arith, below)));
  } where
    by_last : (m : ℕ) (y : Step) → k < m → slice_get trace m ≡ Some y → (m ≡ n) ⊎ (m < n) → sets y c ≡ false
    by_last m y above at_m (inl is) = subst (λ (s : Step). sets s c ≡ false) (same_Some x y (sym at ∙ ap (slice_get trace) (sym is) ∙ at_m)) unset
    by_last m y above at_m (inr below) = stands.kept m y above below at_m

  stood : (c k : ℕ) → k < n → Stands trace c k (n + 1) → Stands trace c k n
  stood c k earlier stands = record {
    giver = stands.giver;
    at = stands.at;
    gives = stands.gives;
    earlier = earlier;
    kept = λ m y above below at_m. stands.kept m y above (omega (arith, below)) at_m;
  }

  stands_new : (c : ℕ) → hands_on x c ≡ true → Stands trace c n (n + 1)
  stands_new c gives = record { giver = x; at = at; gives = gives; earlier = omega arith; kept = λ m y above below at_m. absurd (omega (arith, above, below)) }

  gives_what_stands : (c : ℕ) → Stands trace c n (n + 1) → hands_on x c ≡ true
  gives_what_stands c stands = subst (λ (s : Step). hands_on s c ≡ true) (same_Some stands.giver x (sym stands.at ∙ at)) stands.gives

  -- a channel that the step doesn't set knows what it knew, and the step where that gives into it
  pub unset_channel : (clock : List ℕ) (c : ℕ) → sets x c ≡ false → Shows trace (n + 1) clock (λ i. ChannelKnows trace n c i ⊎ ((hands_on x c ≡ true) × AtOrBefore trace i n)) → Shows trace (n + 1) clock (ChannelKnows trace (n + 1) c)
  unset_channel clock c unset shows =
      same_shown trace (n + 1) clock (λ i. ChannelKnows trace n c i ⊎ ((hands_on x c ≡ true) × AtOrBefore trace i n)) (ChannelKnows trace (n + 1) c) (λ i within knows. to i knows) (λ i within knows. from i knows) shows
    where
      to : (i : ℕ) → ChannelKnows trace n c i ⊎ ((hands_on x c ≡ true) × AtOrBefore trace i n) → ChannelKnows trace (n + 1) c i
      to i (inl (k, stands, or)) = (k, still_stands c k unset stands, or)
      to i (inr (gives, or)) = (n, stands_new c gives, or)

      by_last : (i k : ℕ) → Stands trace c k (n + 1) → AtOrBefore trace i k → (k ≡ n) ⊎ (k < n) → ChannelKnows trace n c i ⊎ ((hands_on x c ≡ true) × AtOrBefore trace i n)
      by_last i k stands or (inl is) = inr (gives_what_stands c (subst (λ m. Stands trace c m (n + 1)) is stands), subst (AtOrBefore trace i) is or)
      by_last i k stands or (inr below) = inl (k, stood c k below stands, or)

      from : (i : ℕ) → ChannelKnows trace (n + 1) c i → ChannelKnows trace n c i ⊎ ((hands_on x c ≡ true) × AtOrBefore trace i n)
      from i (k, stands, or) = by_last i k stands or (eq-or-lt_of_le {n = k} {m = n} (let e = stands.earlier in omega arith))

  -- one that it sets knows the step alone
  pub set_channel : (clock : List ℕ) (c : ℕ) → sets x c ≡ true → hands_on x c ≡ true → Shows trace (n + 1) clock (λ i. AtOrBefore trace i n) → Shows trace (n + 1) clock (ChannelKnows trace (n + 1) c)
  set_channel clock c set gives shows =
      same_shown trace (n + 1) clock (λ i. AtOrBefore trace i n) (ChannelKnows trace (n + 1) c) (λ i within or. (n, stands_new c gives, or)) (λ i within knows. from i knows) shows
    where
      by_last : (i k : ℕ) → Stands trace c k (n + 1) → AtOrBefore trace i k → (k ≡ n) ⊎ (k < n) → AtOrBefore trace i n
      by_last i k stands or (inl is) = subst (AtOrBefore trace i) is or
      by_last i k stands or (inr below) = absurd (false≢true (sym (stands.kept n x below (omega arith) at) ∙ set))

      from : (i : ℕ) → ChannelKnows trace (n + 1) c i → AtOrBefore trace i n
      from i (k, stands, or) = by_last i k stands or (eq-or-lt_of_le {n = k} {m = n} (let e = stands.earlier in omega arith))
