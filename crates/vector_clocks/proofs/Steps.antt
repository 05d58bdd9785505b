-- How clocks go on by a step.
use Rattle.std.proofs.Common.{◌≡◌, ◌⊎◌, inl, inr, ℕ, ◌<◌, ◌≤◌, List, [], ◌∷◌, Some, slice_get, slice_index, refl, sym, subst, arith}
use Rattle.vector_clocks.specs.declared.step.Step.{Step}
use Rattle.vector_clocks.specs.Before.{Edge, Leads, Before, made_before}
use Rattle.vector_clocks.specs.Joins.{Joins}
use Rattle.vector_clocks.specs.Knowing.{AtOrBefore, Shows}

module _ (trace : List Step) where
  pub leads_earlier : (i : ℕ) (path : List ℕ) (j : ℕ) → Leads trace i path j → i < j
  leads_earlier i [] j edge = edge.earlier
  leads_earlier i (k ∷ path) j (leads, edge) = let one = leads_earlier i path k leads in let two = edge.earlier in omega arith

  pub before_earlier : (i j : ℕ) → Before trace i j → i < j
  before_earlier i j (path, leads) = leads_earlier i path j leads

  pub or_earlier : (i k : ℕ) → AtOrBefore trace i k → i ≤ k
  or_earlier i k (inl e) = omega arith
  or_earlier i k (inr b) = let one = before_earlier i k b in omega arith

  -- from one step on by an edge
  pub goes_on : (i k j : ℕ) → AtOrBefore trace i k → Edge trace k j → Before trace i j
  goes_on i k j (inl e) edge = ([], subst (λ n. Edge trace n j) (sym e) edge)
  goes_on i k j (inr (path, leads)) edge = (k ∷ path, (leads, edge))

  -- a last edge
  pub comes_by : (i j : ℕ) → Before trace i j → (k : ℕ) × AtOrBefore trace i k × Edge trace k j
  comes_by i j ([], edge) = (i, inl refl, edge)
  comes_by i j (k ∷ path, leads) = (k, inr (path, leads.0), leads.1)

  -- before is transitive
  pub chain : (i j : ℕ) (path : List ℕ) (k : ℕ) → Before trace i j → Leads trace j path k → Before trace i k
  chain i j [] k before edge = goes_on i j k (inr before) edge
  chain i j (m ∷ path) k before (leads, edge) = goes_on i m k (inr (chain i j path m before leads)) edge

  -- and the least such relation
  pub least : (R : ℕ → ℕ → Type 0) → ((i j : ℕ) → Edge trace i j → R i j) → ((i j k : ℕ) → R i j → R j k → R i k) → (i : ℕ) (path : List ℕ) (j : ℕ) → Leads trace i path j → R i j
  least R edges through i [] j edge = edges i j edge
  least R edges through i (k ∷ path) j (leads, edge) = through i k j (least R edges through i path k leads) (edges k j edge)

  -- two clocks in one
  pub joined : (n : ℕ) (a b c : List ℕ) (P Q : ℕ → Type 0) → Shows trace n a P → Shows trace n b Q → Joins a b c → Shows trace n c (λ i. P i ⊎ Q i)
  joined n a b c P Q of_a of_b joins = record {
    sound = λ i x within at under. by_one i x within at under (joins.one x.worker);
    complete = λ i x within at known. by_known i x within at known;
    most = λ w. by_most w (joins.one w);
  } where
    by_one : (i : ℕ) (x : Step) → i < n → slice_get trace i ≡ Some x → made_before trace i x.worker < slice_index c x.worker → (slice_index c x.worker ≡ slice_index a x.worker) ⊎ (slice_index c x.worker ≡ slice_index b x.worker) → P i ⊎ Q i
    by_one i x within at under (inl e) = inl (of_a.sound i x within at (omega (arith, under, e)))
    by_one i x within at under (inr e) = inr (of_b.sound i x within at (omega (arith, under, e)))

    by_known : (i : ℕ) (x : Step) → i < n → slice_get trace i ≡ Some x → P i ⊎ Q i → made_before trace i x.worker < slice_index c x.worker
    by_known i x within at (inl p) = let less = of_a.complete i x within at p in let up = joins.first x.worker in omega (arith, less, up)
    by_known i x within at (inr q) = let less = of_b.complete i x within at q in let up = joins.second x.worker in omega (arith, less, up)

    by_most : (w : ℕ) → (slice_index c w ≡ slice_index a w) ⊎ (slice_index c w ≡ slice_index b w) → slice_index c w ≤ made_before trace n w
    by_most w (inl e) = let most = of_a.most w in omega (arith, e, most)
    by_most w (inr e) = let most = of_b.most w in omega (arith, e, most)

  -- the same knowledge in other words
  pub same_shown : (n : ℕ) (a : List ℕ) (P Q : ℕ → Type 0) → ((i : ℕ) → i < n → P i → Q i) → ((i : ℕ) → i < n → Q i → P i) → Shows trace n a P → Shows trace n a Q
  same_shown n a P Q to from shows = record {
    sound = λ i x within at under. to i within (shows.sound i x within at under);
    complete = λ i x within at q. shows.complete i x within at (from i within q);
    most = shows.most;
  }
