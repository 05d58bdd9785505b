-- What is before what, by the elements of the steps' lists.
use Rattle.std.proofs.Common.{◌≡◌, ◌≢◌, ◌⊎◌, inl, inr, ℕ, zero, suc, ◌<◌, Bool, true, false, ◌==◌, ◌||◌, List, [], ◌∷◌, Some, slice_get, IsTrue, refl, sym, ap, ◌∙◌, subst, arith}
use Rattle.std.specs.Prelude.{Contains}
use Rattle.std.proofs.lemmas.Bool.{false≢true, eq-eqb}
use Rattle.std.proofs.lemmas.Bool.Decides.{eqb_tells}
use Rattle.std.proofs.lemmas.Option.{same_Some}
use Rattle.std.proofs.Math.Bool.{or-true}
use Rattle.vector_clocks.specs.declared.step.Step.{Step}
use Rattle.vector_clocks.specs.Before.{is_among, takes, sets, hands_on, Stands, Meets, Edge, Before}
use Rattle.vector_clocks.specs.Handed.{IsHanded, IsOwn}
use Rattle.vector_clocks.proofs.Steps.{before_earlier, least}

pub among : (xs : List ℕ) (c : ℕ) → Contains xs c → is_among xs c ≡ true
among [] c (k, within, is) = absurd (omega (arith, within))
among (x ∷ xs) c (zero, within, is) = ap (λ b. b || is_among xs c) (eq-eqb x c is)
among (x ∷ xs) c (suc k, within, is) = ap (λ b. (x == c) || b) (among xs c (k, omega (arith, within), is)) ∙ or-true (x == c)

pub contained : (xs : List ℕ) (c : ℕ) → is_among xs c ≡ true → Contains xs c
contained [] c e = absurd (false≢true e)
contained (x ∷ xs) c e = by (λ f. contained xs c f) (eqb_tells x c) where
  later : Contains xs c → Contains (x ∷ xs) c
  later (k, within, is) = (suc k, omega (arith, within), is)

  by : (is_among xs c ≡ true → Contains xs c) → (((x == c) ≡ true) × (x ≡ c)) ⊎ (((x == c) ≡ false) × (x ≢ c)) → Contains (x ∷ xs) c
  by rest (inl (is, same)) = (0, omega arith, same)
  by rest (inr (is, other)) = later (rest (sym (ap (λ b. b || is_among xs c) is) ∙ e))

not_among : (xs : List ℕ) (c : ℕ) → (Contains xs c → ⊥) → is_among xs c ≡ false
not_among xs c apart = by (is_among xs c) refl where
  by : (b : Bool) → is_among xs c ≡ b → is_among xs c ≡ false
  by true e = absurd (apart (contained xs c e))
  by false e = e

either : (a b : Bool) → (a || b) ≡ true → (a ≡ true) ⊎ (b ≡ true)
either true b e = inl refl
either false b e = inr e

handing : (x : Step) (c : ℕ) → Contains x.gives.items c ⊎ Contains x.sets.items c → hands_on x c ≡ true
handing x c (inl gives) = ap (λ b. b || sets x c) (among x.gives.items c gives)
handing x c (inr set) = ap (λ b. is_among x.gives.items c || b) (among x.sets.items c set) ∙ or-true (is_among x.gives.items c)

module _ (trace : List Step) where
  pub own_before : (i j : ℕ) → IsOwn trace i j → Before trace i j
  own_before i j own = ([], record { first = own.first; second = own.second; at_first = own.at_first; at_second = own.at_second; earlier = own.earlier; meets = inl own.worker })

  pub handed_before : (c i j : ℕ) → IsHanded trace c i j → Before trace i j
  handed_before c i j handed = (
    [],
    record {
      first = handed.giver;
      second = handed.taker;
      at_first = handed.at_giver;
      at_second = handed.at_taker;
      earlier = handed.earlier;
      meets = inr (
        c,
        among handed.taker.takes.items c handed.takes,
        record {
          giver = handed.giver;
          at = handed.at_giver;
          earlier = handed.earlier;
          gives = handing handed.giver c handed.gives;
          kept = λ k x after before at. not_among x.sets.items c (handed.kept k x after before at);
        },
      );
    },
  )

  of_stands : (c i j : ℕ) (y : Step) → slice_get trace j ≡ Some y → takes y c ≡ true → Stands trace c i j → IsHanded trace c i j
  of_stands c i j y at_y is stands = record {
    giver = stands.giver;
    taker = y;
    at_giver = stands.at;
    at_taker = at_y;
    earlier = stands.earlier;
    gives = by (either (is_among stands.giver.gives.items c) (sets stands.giver c) stands.gives);
    takes = contained y.takes.items c is;
    kept = λ k x after before at set. false≢true (sym (stands.kept k x after before at) ∙ among x.sets.items c set);
  } where
    by : (is_among stands.giver.gives.items c ≡ true) ⊎ (sets stands.giver c ≡ true) → Contains stands.giver.gives.items c ⊎ Contains stands.giver.sets.items c
    by (inl e) = inl (contained stands.giver.gives.items c e)
    by (inr e) = inr (contained stands.giver.sets.items c e)

  -- an edge is of one of the two kinds
  pub edge_cases : (i j : ℕ) → Edge trace i j → IsOwn trace i j ⊎ ((c : ℕ) × IsHanded trace c i j)
  edge_cases i j edge = by edge.meets where
    by : Meets trace i j edge.first edge.second → IsOwn trace i j ⊎ ((c : ℕ) × IsHanded trace c i j)
    by (inl same) = inl (record { first = edge.first; second = edge.second; at_first = edge.at_first; at_second = edge.at_second; earlier = edge.earlier; worker = same })
    by (inr (c, is, stands)) = inr (c, of_stands c i j edge.second edge.at_second is stands)

  pub within_each : (related : ℕ → ℕ → Bool) → ((i j : ℕ) → IsOwn trace i j → IsTrue (related i j)) → ((channel i j : ℕ) → IsHanded trace channel i j → IsTrue (related i j))
      → ((i j k : ℕ) → IsTrue (related i j) → IsTrue (related j k) → IsTrue (related i k)) → (i j : ℕ) → Before trace i j → IsTrue (related i j)
  within_each related own handed through i j (path, leads) = least trace (λ i j. IsTrue (related i j)) (λ i j edge. by i j (edge_cases i j edge)) through i path j leads where
    by : (i j : ℕ) → IsOwn trace i j ⊎ ((c : ℕ) × IsHanded trace c i j) → IsTrue (related i j)
    by i j (inl o) = own i j o
    by i j (inr (c, h)) = handed c i j h

-- a channel that is set forgets
module _ (x y z : Step) (apart : x.worker ≢ y.worker) (far : x.worker ≢ z.worker) (takes_none : y.takes.items ≡ []) (forgets : (c : ℕ) → Contains z.takes.items c → Contains y.sets.items c) where
  abbrev three : List Step
  three = x ∷ y ∷ z ∷ []

  no_first : Edge three 0 1 → ⊥
  no_first edge = by (edge_cases three 0 1 edge) where
    by : IsOwn three 0 1 ⊎ ((c : ℕ) × IsHanded three c 0 1) → ⊥
    by (inl own) = apart (ap (λ (s : Step). s.worker) (same_Some x own.first own.at_first) ∙ own.worker ∙ ap (λ (s : Step). s.worker) (sym (same_Some y own.second own.at_second)))
    by (inr (c, handed)) = none (subst (λ xs. Contains xs c) (ap (λ (s : Step). s.takes.items) (sym (same_Some y handed.taker handed.at_taker)) ∙ takes_none) handed.takes) where
      none : Contains [] c → ⊥
      none (k, within, is) = omega (arith, within)

  no_second : Edge three 0 2 → ⊥
  no_second edge = by (edge_cases three 0 2 edge) where
    by : IsOwn three 0 2 ⊎ ((c : ℕ) × IsHanded three c 0 2) → ⊥
    by (inl own) = far (ap (λ (s : Step). s.worker) (same_Some x own.first own.at_first) ∙ own.worker ∙ ap (λ (s : Step). s.worker) (sym (same_Some z own.second own.at_second)))
    by (inr (c, handed)) = handed.kept 1 y (omega arith) (omega arith) refl (forgets c (subst (λ (s : Step). Contains s.takes.items c) (sym (same_Some z handed.taker handed.at_taker)) handed.takes))

  pub not_first : Before three 0 1 → ⊥
  not_first ([], edge) = no_first edge
  not_first (k ∷ path, (leads, edge)) = let one = before_earlier three 0 k (path, leads) in let two = edge.earlier in omega (arith, one, two)

  pub not_second : Before three 0 2 → ⊥
  not_second ([], edge) = no_second edge
  not_second (k ∷ path, (leads, edge)) = not_first (subst (λ m. Before three 0 m) (between (before_earlier three 0 k (path, leads)) edge.earlier) (path, leads)) where
    between : 0 < k → k < 2 → k ≡ 1
    between after before = omega (arith, after, before)
