-- What agrees in turns and steps: what is before what, and what races. So the races of the steps are those of the trace.
use Rattle.std.proofs.Common.{◌≡◌, inl, inr, ℕ, ◌<◌, ◌||◌, List, [], ◌∷◌, length, get_or, Option, Some, None, slice_get, refl, sym, ap, ◌∙◌, subst, arith}
use Rattle.std.specs.Prelude.{All, Contains, map, option_map}
use Rattle.std.proofs.lemmas.List.{get_or-map, length-map}
use Rattle.std.proofs.lemmas.List.Elements.{All-map, All-weaker}
use Rattle.std.proofs.lemmas.Option.{none-some, same_Some, slice_get_within, slice_get-get_or}
use Rattle.workload.specs.Plan.{Plan}
use Rattle.vector_clocks.specs.Before as clocks
use Rattle.vector_clocks.specs.Races as steps_race
use Rattle.vector_clocks.specs.declared.race.Race.{Race as StepRace}
use Rattle.vector_clocks.specs.declared.step.Access.{Access as StepAccess}
use Rattle.vector_clocks.specs.declared.step.Step.{Step}
use Rattle.step_runner.specs.declared.trace.TraceItem.{TraceItem}
use Rattle.race_clocks.specs.declared.race.Race.{Race}
use Rattle.race_clocks.specs.Agreement.{step_access, AgreesAt, Agree, pair_of}
use Rattle.race_clocks.specs.HappensBefore.{Meets, Edge, Leads, Before}
use Rattle.race_clocks.specs.Races.{Access, access_of, Conflicts, IsRace, Pair, pair, Precedes, ArePairs, race_of, AreRaces}

-- the element at a place, or one more fact: there is none
there : {A : Type 0} (xs : List A) (n : ℕ) → n < length xs → (x : A) × (slice_get xs n ≡ Some x)
there [] n within = absurd (omega (arith, within))
there (x ∷ xs) n within = (get_or (x ∷ xs) n x, slice_get-get_or (x ∷ xs) n x within)

-- the access of which a step's one is the copy
of_copy : (o : Option Access) (b : StepAccess) → option_map step_access o ≡ Some b → (a : Access) × (o ≡ Some a) × (step_access a ≡ b)
of_copy None b e = absurd (none-some b e)
of_copy (Some a) b e = (a, refl, same_Some (step_access a) b e)

module _ (plan : Plan) (trace : List TraceItem) (steps : List Step) (agree : Agree plan trace steps) where
  -- the step of a turn, and the turn of a step
  step_at : (n : ℕ) (turn : TraceItem) → slice_get trace n ≡ Some turn → (step : Step) × (slice_get steps n ≡ Some step)
  step_at n turn at = there steps n (let within = slice_get_within trace n turn at in let same = agree.all in omega (arith, within, same))

  turn_at : (n : ℕ) (step : Step) → slice_get steps n ≡ Some step → (turn : TraceItem) × (slice_get trace n ≡ Some turn)
  turn_at n step at = there trace n (let within = slice_get_within steps n step at in let same = agree.all in omega (arith, within, same))

  edge_to : (i j : ℕ) → Edge plan trace i j → clocks.Edge steps i j
  edge_to i j edge = by (step_at i edge.first edge.at_first) (step_at j edge.second edge.at_second) where
    by : (x : Step) × (slice_get steps i ≡ Some x) → (y : Step) × (slice_get steps j ≡ Some y) → clocks.Edge steps i j
    by (x, at_x) (y, at_y) = record { first = x; second = y; at_first = at_x; at_second = at_y; earlier = edge.earlier; meets = meet edge.meets } where
      meet : Meets plan trace i j edge.first edge.second → clocks.Meets steps i j x y
      meet (inl same) = inl ((agree.each i edge.first x edge.at_first at_x).worker ∙ same ∙ sym (agree.each j edge.second y edge.at_second at_y).worker)
      meet (inr takes) = inr ((agree.each j edge.second y edge.at_second at_y).taken i takes)

  edge_from : (i j : ℕ) → clocks.Edge steps i j → Edge plan trace i j
  edge_from i j edge = by (turn_at i edge.first edge.at_first) (turn_at j edge.second edge.at_second) where
    by : (x : TraceItem) × (slice_get trace i ≡ Some x) → (y : TraceItem) × (slice_get trace j ≡ Some y) → Edge plan trace i j
    by (x, at_x) (y, at_y) = record { first = x; second = y; at_first = at_x; at_second = at_y; earlier = edge.earlier; meets = meet edge.meets } where
      meet : clocks.Meets steps i j edge.first edge.second → Meets plan trace i j x y
      meet (inl same) = inl (sym (agree.each i x edge.first at_x edge.at_first).worker ∙ same ∙ (agree.each j y edge.second at_y edge.at_second).worker)
      meet (inr takes) = inr ((agree.each j y edge.second at_y edge.at_second).only i takes)

  leads_to : (i : ℕ) (path : List ℕ) (j : ℕ) → Leads plan trace i path j → clocks.Leads steps i path j
  leads_to i [] j edge = edge_to i j edge
  leads_to i (k ∷ path) j (leads, edge) = (leads_to i path k leads, edge_to k j edge)

  leads_from : (i : ℕ) (path : List ℕ) (j : ℕ) → clocks.Leads steps i path j → Leads plan trace i path j
  leads_from i [] j edge = edge_from i j edge
  leads_from i (k ∷ path) j (leads, edge) = (leads_from i path k leads, edge_from k j edge)

  pub before_to : (i j : ℕ) → Before plan trace i j → clocks.Before steps i j
  before_to i j (path, leads) = (path, leads_to i path j leads)

  pub before_from : (i j : ℕ) → clocks.Before steps i j → Before plan trace i j
  before_from i j (path, leads) = (path, leads_from i path j leads)

  pub race_to : (i j : ℕ) → IsRace plan trace i j → steps_race.IsRace steps i j
  race_to i j race = by (step_at i race.first race.at_first) (step_at j race.second race.at_second) where
    by : (x : Step) × (slice_get steps i ≡ Some x) → (y : Step) × (slice_get steps j ≡ Some y) → steps_race.IsRace steps i j
    by (x, at_x) (y, at_y) = record {
      first = x;
      second = y;
      at_first = at_x;
      at_second = at_y;
      earlier = race.earlier;
      unordered = λ before. race.unordered (before_from i j before);
      conflict = record {
        first = step_access c.first;
        second = step_access c.second;
        of_first = one.access ∙ ap (option_map step_access) c.of_first;
        of_second = two.access ∙ ap (option_map step_access) c.of_second;
        workers = λ same. c.workers (sym one.worker ∙ same ∙ two.worker);
        variable = c.variable;
        written = c.written;
      };
    } where
      c : Conflicts race.first race.second
      c = race.conflict

      one : AgreesAt plan trace steps i race.first x
      one = agree.each i race.first x race.at_first at_x

      two : AgreesAt plan trace steps j race.second y
      two = agree.each j race.second y race.at_second at_y

  pub race_from : (i j : ℕ) → steps_race.IsRace steps i j → IsRace plan trace i j
  race_from i j race = by (turn_at i race.first race.at_first) (turn_at j race.second race.at_second) where
    by : (x : TraceItem) × (slice_get trace i ≡ Some x) → (y : TraceItem) × (slice_get trace j ≡ Some y) → IsRace plan trace i j
    by (x, at_x) (y, at_y) = record {
      first = x;
      second = y;
      at_first = at_x;
      at_second = at_y;
      earlier = race.earlier;
      unordered = λ before. race.unordered (before_to i j before);
      conflict = conflict (of_copy (access_of x) c.first (sym one.access ∙ c.of_first)) (of_copy (access_of y) c.second (sym two.access ∙ c.of_second));
    } where
      c : steps_race.Conflicts race.first race.second
      c = race.conflict

      one : AgreesAt plan trace steps i x race.first
      one = agree.each i x race.first at_x race.at_first

      two : AgreesAt plan trace steps j y race.second
      two = agree.each j y race.second at_y race.at_second

      conflict : (a : Access) × (access_of x ≡ Some a) × (step_access a ≡ c.first) → (b : Access) × (access_of y ≡ Some b) × (step_access b ≡ c.second) → Conflicts x y
      conflict (a, of_x, is_a) (b, of_y, is_b) = record {
        first = a;
        second = b;
        of_first = of_x;
        of_second = of_y;
        workers = λ same. c.workers (one.worker ∙ same ∙ sym two.worker);
        variable = ap (λ (k : StepAccess). k.variable) is_a ∙ c.variable ∙ sym (ap (λ (k : StepAccess). k.variable) is_b);
        written = ap (λ (k : StepAccess). k.writes || b.writes) is_a ∙ ap (λ (k : StepAccess). c.first.writes || k.writes) is_b ∙ c.written;
      }

  module _ (found : List StepRace) (are : steps_race.AreRaces steps found) where
    all_race : All (λ (r : StepRace). IsRace plan trace r.earlier r.later) found
    all_race = All-weaker (λ (r : StepRace). steps_race.IsRace steps r.earlier r.later) (λ (r : StepRace). IsRace plan trace r.earlier r.later) (λ (r : StepRace). race_from r.earlier r.later) found are.sound

    in_pairs : (i j : ℕ) → Contains found (steps_race.race i j) → Contains (map pair_of found) (pair i j)
    in_pairs i j (k, within, is) = (k, subst (λ n. k < n) (sym (length-map found pair_of)) within, get_or-map pair_of found k (steps_race.race i j) (pair i j) within ∙ ap pair_of is)

    pub are_pairs : ArePairs plan trace (map pair_of found)
    are_pairs = record {
      sound = All-map (λ (p : Pair). IsRace plan trace p.earlier p.later) pair_of found all_race;
      complete = λ i j race. in_pairs i j (are.complete i j (race_to i j race));
      sorted = λ m n d less within.
          let in_n : n < length found = subst (λ k. n < k) (length-map found pair_of) within in
          let at_m = get_or-map pair_of found m (steps_race.race d.earlier d.later) d (omega (arith, less, in_n)) in
          let at_n = get_or-map pair_of found n (steps_race.race d.earlier d.later) d in_n in
          subst (λ p. Precedes p (get_or (map pair_of found) n d)) (sym at_m) (subst (λ p. Precedes (pair_of (get_or found m (steps_race.race d.earlier d.later))) p) (sym at_n) (are.sorted m n (steps_race.race d.earlier d.later) less in_n));
    }

    pub are_told : (races : List Race) → map (race_of trace) (map pair_of found) ≡ map Some races → AreRaces plan trace races
    are_told races told = record { pairs = map pair_of found; are = are_pairs; told = told }
