-- How the list of races goes on.
use Rattle.std.proofs.Common.{◌≡◌, ◌⊎◌, inl, inr, ℕ, ◌+◌, ◌<◌, ◌≤◌, List, [], ◌∷◌, ◌++◌, length, take, get_or, Option, Some, None, false, slice_get, refl, sym, ap, ◌∙◌, subst, arith}
use Rattle.std.specs.Prelude.{Contains}
use Rattle.std.specs.Option.{is_some}
use Rattle.std.proofs.lemmas.Bool.{cases_lt, false≢true}
use Rattle.std.proofs.lemmas.Option.{none-some, same_Some, slice_get_within}
use Rattle.std.proofs.lemmas.List.{get_or-take, get_or_default, length-take-le, take_more}
use Rattle.std.proofs.lemmas.List.Elements.{All-push, Contains-push, Contains-push_cases, Contains-append_left}
use Rattle.std.proofs.lemmas.List.Quantifiers.{all_pairs_push}
use Rattle.vector_clocks.specs.declared.race.Race.{Race}
use Rattle.vector_clocks.specs.declared.step.Access.{Access}
use Rattle.vector_clocks.specs.declared.step.Step.{Step}
use Rattle.vector_clocks.specs.Listing.{HoldAccesses, IsReached, AreRacesUpTo}
use Rattle.vector_clocks.specs.Races.{IsRace, Precedes, AreRaces, race}

has_none : {A : Type 0} (x : A) → Contains [] x → ⊥
has_none x (k, within, is) = omega (arith, within)

next_cases : (i n : ℕ) → i < n + 1 → (i < n) ⊎ (i ≡ n)
next_cases i n below = by (cases_lt i n) where
  by : (i < n) ⊎ (n ≤ i) → (i < n) ⊎ (i ≡ n)
  by (inl before) = inl before
  by (inr past) = inr (omega (arith, below, past))

pub is_absent : {A : Type 0} (o : Option A) → false ≡ is_some o → o ≡ None
is_absent None e = refl
is_absent (Some a) e = absurd (false≢true e)

module _ (trace : List Step) where
  -- before the first step there is no access, and no race
  pub no_accesses : HoldAccesses trace 0 []
  no_accesses = record {
    below = λ k d within. absurd (omega (arith, within));
    rising = λ i j d less within. absurd (omega (arith, within));
    all = λ i x a below. absurd (omega (arith, below));
  }

  pub no_races : AreRacesUpTo trace 0 [] []
  no_races = record {
    sound = λ k d within. absurd (omega (arith, within));
    complete = λ i j r reached. absurd (not_reached i j reached);
    sorted = λ i j d less within. absurd (omega (arith, within));
  } where
    not_reached : (i j : ℕ) → IsReached 0 [] i j → ⊥
    not_reached i j (inl below) = omega (arith, below)
    not_reached i j (inr (is, has)) = has_none i has

  module _ (n : ℕ) (numbers : List ℕ) (hold : HoldAccesses trace n numbers) where
    -- a step is one more access
    pub one_access : HoldAccesses trace (n + 1) (numbers ++ n ∷ [])
    one_access = record {
      below = All-push (λ i. i < n + 1) numbers n (λ k d within. let e = hold.below k d within in omega (arith, e)) (omega arith);
      rising = all_pairs_push (λ i j. i < j) numbers n hold.rising (λ k d within. hold.below k d within);
      all = λ i x a below at is. by i x a at is (next_cases i n below);
    } where
      by : (i : ℕ) (x : Step) (a : Access) → slice_get trace i ≡ Some x → x.access ≡ Some a → (i < n) ⊎ (i ≡ n) → Contains (numbers ++ n ∷ []) i
      by i x a at is (inl before) = Contains-append_left numbers (n ∷ []) i (hold.all i x a before at is)
      by i x a at is (inr same) = subst (Contains (numbers ++ n ∷ [])) (sym same) (Contains-push numbers n)

    -- or none
    pub other_step : (y : Step) → slice_get trace n ≡ Some y → y.access ≡ None → HoldAccesses trace (n + 1) numbers
    other_step y at_y none = record {
      below = λ k d within. let e = hold.below k d within in omega (arith, e);
      rising = hold.rising;
      all = λ i x a below at is. by i x a at is (next_cases i n below);
    } where
      by : (i : ℕ) (x : Step) (a : Access) → slice_get trace i ≡ Some x → x.access ≡ Some a → (i < n) ⊎ (i ≡ n) → Contains numbers i
      by i x a at is (inl before) = hold.all i x a before at is
      by i x a at is (inr same) = absurd (none-some a (sym none ∙ ap (λ (s : Step). s.access) (same_Some y x (sym at_y ∙ ap (slice_get trace) (sym same) ∙ at)) ∙ is))

    -- all races with step n are told, when all accesses before it were compared with it
    pub next_step : (races : List Race) → AreRacesUpTo trace n numbers races → AreRacesUpTo trace (n + 1) [] races
    next_step races are = record {
      sound = λ k d within. let e = are.sound k d within in (e.0, inl (below (get_or races k d).earlier (get_or races k d).later e.1));
      complete = λ i j r reached. are.complete i j r (by i j r reached);
      sorted = are.sorted;
    } where
      below : (i j : ℕ) → IsReached n numbers i j → j < n + 1
      below i j (inl before) = omega (arith, before)
      below i j (inr (same, has)) = omega (arith, same)

      told : (i j : ℕ) → IsRace trace i j → (j < n) ⊎ (j ≡ n) → IsReached n numbers i j
      told i j r (inl before) = inl before
      told i j r (inr same) = let e = r.earlier in inr (same, hold.all i r.first r.conflict.first (omega (arith, e, same)) r.at_first r.conflict.of_first)

      by : (i j : ℕ) → IsRace trace i j → IsReached (n + 1) [] i j → IsReached n numbers i j
      by i j r (inl before) = told i j r (next_cases j n before)
      by i j r (inr (same, has)) = absurd (has_none i has)

  -- a step without an access has no races
  pub step_without : (n : ℕ) (y : Step) → slice_get trace n ≡ Some y → y.access ≡ None → (races : List Race) → AreRacesUpTo trace n [] races → AreRacesUpTo trace (n + 1) [] races
  step_without n y at_y none races are = record {
    sound = λ k d within. let e = are.sound k d within in (e.0, inl (below (get_or races k d).earlier (get_or races k d).later e.1));
    complete = λ i j r reached. are.complete i j r (by i j r reached);
    sorted = are.sorted;
  } where
    below : (i j : ℕ) → IsReached n [] i j → j < n + 1
    below i j (inl before) = omega (arith, before)
    below i j (inr (same, has)) = absurd (has_none i has)

    told : (i j : ℕ) → IsRace trace i j → (j < n) ⊎ (j ≡ n) → IsReached n [] i j
    told i j r (inl before) = inl before
    told i j r (inr same) = absurd (none-some r.conflict.second (sym none ∙ ap (λ (s : Step). s.access) (same_Some y r.second (sym at_y ∙ ap (slice_get trace) (sym same) ∙ r.at_second)) ∙ r.conflict.of_second))

    by : (i j : ℕ) → IsRace trace i j → IsReached (n + 1) [] i j → IsReached n [] i j
    by i j r (inl before) = told i j r (next_cases j n before)
    by i j r (inr (same, has)) = absurd (has_none i has)

  -- one access before step n was compared with it: no race
  module _ (n : ℕ) (numbers : List ℕ) (k : ℕ) (within : k < length numbers) (races : List Race) (are : AreRacesUpTo trace n (take k numbers) races) where
    abbrev now : ℕ
    now = get_or numbers k 0

    further : (i j : ℕ) → IsReached n (take k numbers) i j → IsReached n (take (k + 1) numbers) i j
    further i j (inl before) = inl before
    further i j (inr (same, has)) = inr (same, subst (λ xs. Contains xs i) (sym (take_more numbers k 0 within)) (Contains-append_left (take k numbers) (now ∷ []) i has))

    reached_now : IsReached n (take (k + 1) numbers) now n
    reached_now = inr (refl, subst (λ xs. Contains xs now) (sym (take_more numbers k 0 within)) (Contains-push (take k numbers) now))

    back : (i j : ℕ) → IsReached n (take (k + 1) numbers) i j → IsReached n (take k numbers) i j ⊎ ((now ≡ i) × (j ≡ n))
    back i j (inl before) = inl (inl before)
    back i j (inr (same, has)) = by (Contains-push_cases (take k numbers) now i (subst (λ xs. Contains xs i) (take_more numbers k 0 within) has)) where
      by : Contains (take k numbers) i ⊎ (now ≡ i) → IsReached n (take k numbers) i j ⊎ ((now ≡ i) × (j ≡ n))
      by (inl old) = inl (inr (same, old))
      by (inr new) = inr (new, same)

    pub one_without : (IsRace trace now n → ⊥) → AreRacesUpTo trace n (take (k + 1) numbers) races
    one_without apart = record {
      sound = λ m d below. let e = are.sound m d below in (e.0, further (get_or races m d).earlier (get_or races m d).later e.1);
      complete = λ i j r reached. by i j r (back i j reached);
      sorted = are.sorted;
    } where
      by : (i j : ℕ) → IsRace trace i j → IsReached n (take k numbers) i j ⊎ ((now ≡ i) × (j ≡ n)) → Contains races (race i j)
      by i j r (inl old) = are.complete i j r old
      by i j r (inr (first, second)) = absurd (apart (subst (λ m. IsRace trace now m) second (subst (λ m. IsRace trace m j) (sym first) r)))

    -- or a race
    pub one_race : HoldAccesses trace n numbers → IsRace trace now n → AreRacesUpTo trace n (take (k + 1) numbers) (races ++ race now n ∷ [])
    one_race hold races_now = record {
      sound = All-push (λ (r : Race). IsRace trace r.earlier r.later × IsReached n (take (k + 1) numbers) r.earlier r.later) races (race now n)
          (λ m d below. let e = are.sound m d below in (e.0, further (get_or races m d).earlier (get_or races m d).later e.1))
          (races_now, reached_now);
      complete = λ i j r reached. by i j r (back i j reached);
      sorted = all_pairs_push Precedes races (race now n) are.sorted (λ m d below. in_front (get_or races m d) (are.sound m d below).1);
    } where
      by : (i j : ℕ) → IsRace trace i j → IsReached n (take k numbers) i j ⊎ ((now ≡ i) × (j ≡ n)) → Contains (races ++ race now n ∷ []) (race i j)
      by i j r (inl old) = Contains-append_left races (race now n ∷ []) (race i j) (are.complete i j r old)
      by i j r (inr (first, second)) = subst (Contains (races ++ race now n ∷ [])) (ap (λ a. race a n) first ∙ ap (race i) (sym second)) (Contains-push races (race now n))

      below_now : (i : ℕ) → Contains (take k numbers) i → i < now
      below_now i (m, inside, at) =
          let size : length (take k numbers) ≡ k = length-take-le k numbers (omega (arith, within)) in
          let shorter : m < k = omega (arith, inside, size) in
          let less : get_or numbers m i < get_or numbers k i = hold.rising m k i shorter within in
          let first : get_or numbers m i ≡ i = sym (get_or-take k numbers m i shorter) ∙ at in
          let second : get_or numbers k i ≡ now = get_or_default numbers k i 0 within in
          omega (arith, less, first, second)

      in_front : (r : Race) → IsReached n (take k numbers) r.earlier r.later → Precedes r (race now n)
      in_front r (inl before) = inl before
      in_front r (inr (same, has)) = inr (same, below_now r.earlier has)

  -- and all are told at the end
  pub all_told : (n : ℕ) → n ≡ length trace → (races : List Race) → AreRacesUpTo trace n [] races → AreRaces trace races
  all_told n is races are = record {
    sound = λ k d within. (are.sound k d within).0;
    complete = λ i j r. are.complete i j r (inl (let e = slice_get_within trace j r.second r.at_second in omega (arith, is, e)));
    sorted = are.sorted;
  }
