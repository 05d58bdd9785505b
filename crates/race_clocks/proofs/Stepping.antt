-- A step more: it tells what its turn tells.
use Rattle.std.proofs.Common.{◌≡◌, ◌⊎◌, ℕ, zero, suc, ◌+◌, ◌<◌, ◌≤◌, inl, inr, Bool, true, false, List, [], ◌∷◌, ◌++◌, length, take, Option, Some, None, refl, sym, ap, ◌∙◌, subst, append-nil, arith}
use Rattle.std.specs.Prelude.{◌==◌, ◌&&◌, ◌||◌, Contains, All, slice_get, slice_index_or}
use Rattle.std.specs.List.{list_any}
use Rattle.std.specs.Option.{option_to_list}
use Rattle.std.proofs.lemmas.Bool.{eqb-true, eq-eqb, false≢true, cases_lt}
use Rattle.std.proofs.lemmas.Grind.{flat_map-append}
use Rattle.std.proofs.lemmas.List.Elements.{All-weaker, All-contains_itself, Contains-append_cases, Contains-append_right, Contains-push_cases}
use Rattle.std.proofs.lemmas.List.Folds.{list_any-append}
use Rattle.std.proofs.lemmas.Option.{slice_get_within}
use Rattle.std.proofs.lemmas.List.{length-replicate}
use Rattle.std.specs.FinMap.{get-empty}
use Rattle.std.specs.Ordering.{nat_cmp}
use Rattle.std.specs.Cmp.Lexicographic.{slice_cmp}
use Rattle.vector_clocks.specs.Before as clocks
use Rattle.vector_clocks.specs.Fits.{StepFits}
use Rattle.vector_clocks.specs.declared.step.Step.{Step}
use Rattle.workload.specs.Plan.{Plan}
use Rattle.step_runner.specs.Traces.{items_told}
use Rattle.step_runner.specs.declared.trace.TraceItem.{TraceItem}
use Rattle.race_clocks.specs.Agreement.{TurnTakes, StepTakes, AgreesAt}
use Rattle.race_clocks.specs.Channels as all
use Rattle.race_clocks.specs.Channels.{hands_on, takes_in, sets}
use Rattle.race_clocks.specs.Handing.{is_for, are_for, is_each}
use Rattle.race_clocks.specs.HappensBefore.{done_before, Stands}
use Rattle.race_clocks.specs.Numbering.{later, number_of, number_at, numbers_of, none_yet, no_numbers}
use Rattle.race_clocks.specs.Passing.{new_seen, IsSeen, IsTold}
use Rattle.race_clocks.specs.Stepping.{IsStepOf, Holds, AreSteps}
use Rattle.race_clocks.specs.declared.channel.Channel.{Channel}
use Rattle.race_clocks.specs.declared.numbers.Numbers.{Numbers}
use Rattle.race_clocks.specs.declared.seen.Seen.{Seen}
use Rattle.race_clocks.specs.declared.tables.Tables.{Tables}
use Rattle.race_clocks.proofs.StepByStep.{front_at, next_at, within_next, agree_none, agree_more}
use Rattle.race_clocks.proofs.TableLemmas.{of, is_of, stands_for, number_by, each_none}

wrong : {A : Type 0} → false ≡ true → A
wrong e = absurd (false≢true e)

none_some : {A X : Type 0} (v : X) (n : Option X) → n ≡ None → n ≡ Some v → A
none_some v n none some = let e : None ≡ Some v = sym none ∙ some in absurd cc

some_some : {X : Type 0} (v w : X) (n : Option X) → n ≡ Some v → n ≡ Some w → v ≡ w
some_some v w n one other = let e : Some v ≡ Some w = sym one ∙ other in cc

by_test : {A : Type 0} (b : Bool) → (b ≡ true → A) → (b ≡ false → A) → A
by_test true is isnt = is refl
by_test false is isnt = isnt refl

by_found : {A X : Type 0} (o : Option X) → (o ≡ None → A) → ((x : X) → o ≡ Some x → A) → A
by_found None none some = none refl
by_found (Some x) none some = some x refl

or_true : (a : Bool) → (a || true) ≡ true
or_true true = refl
or_true false = refl

or_false : (a : Bool) → (a || false) ≡ a
or_false true = refl
or_false false = refl

or_either : (a b : Bool) → (a || b) ≡ true → (a ≡ true) ⊎ (b ≡ true)
or_either true b is = inl refl
or_either false b is = inr is

or_neither : (a b : Bool) → (a || b) ≡ false → (a ≡ false) × (b ≡ false)
or_neither true b isnt = wrong (sym isnt)
or_neither false b isnt = (refl, isnt)

both_true : (a b : Bool) → (a && b) ≡ true → (a ≡ true) × (b ≡ true)
both_true true b is = (refl, is)
both_true false b is = wrong is

-- ---- numbers among others

abbrev has : List ℕ → ℕ → Bool
has list v = list_any (λ d. d == v) list

from_has : (list : List ℕ) (v : ℕ) → has list v ≡ true → Contains list v
from_has [] v is = wrong is
from_has (x ∷ list) v is = elim (or_either (x == v) (has list v) is) [
  | inl here ↦ subst (λ y. Contains (x ∷ list) y) (eqb-true x v here) (0, omega arith, refl)
  | inr later ↦ Contains-append_right (x ∷ []) list v (from_has list v later)
]

to_has : (list : List ℕ) (v : ℕ) → Contains list v → has list v ≡ true
to_has [] v among = absurd (omega (arith, among.1))
to_has (x ∷ list) v among = elim (Contains-append_cases (x ∷ []) list v among) [
  | inl here ↦ elim (Contains-push_cases [] x v here) [
    | inl before ↦ absurd (omega (arith, before.1))
    | inr same ↦ ap (λ b. b || has list v) (eq-eqb x v same)
  ]
  | inr later ↦ ap (λ b. (x == v) || b) (to_has list v (later)) ∙ or_true (x == v)
]

module _ (t : Tables) where
  among : (ds : List Channel) (c : all.Channel) (v : ℕ) → are_for c ds ≡ true → list_any is_each ds ≡ false → number_of t c ≡ Some v → has (numbers_of t ds) v ≡ true
  among [] c v is keyed number = wrong is
  among (d ∷ ds) c v is keyed number =
      let parts = or_neither (is_each d) (list_any is_each ds) keyed in
      by_test (is_for c d)
      (λ here.
      let at_d : number_at t d ≡ Some v = sym (number_by t d parts.0) ∙ ap (number_of t) (sym (is_of c d here parts.0)) ∙ number in
      ap (λ o. has (option_to_list o ++ numbers_of t ds) v) at_d ∙ ap (λ b. b || has (numbers_of t ds) v) (eq-eqb v v refl))
      (λ isnt.
      let later : are_for c ds ≡ true = ap (λ b. b || are_for c ds) (sym isnt) ∙ is in
      list_any-append (λ d. d == v) (option_to_list (number_at t d)) (numbers_of t ds) ∙ ap (λ b. has (option_to_list (number_at t d)) v || b) (among ds c v later parts.1 number) ∙ or_true (has (option_to_list (number_at t d)) v))

  owner : (ds : List Channel) (v : ℕ) → has (numbers_of t ds) v ≡ true → (c : all.Channel) × (are_for c ds ≡ true) × (number_of t c ≡ Some v)
  owner [] v is = wrong is
  owner (d ∷ ds) v is = by_found (number_at t d)
      (λ none. later (owner ds v (ap (λ o. has (option_to_list o ++ numbers_of t ds) v) (sym none) ∙ is)))
      (λ u some. elim (or_either (u == v) (has (numbers_of t ds) v) (ap (λ o. has (option_to_list o ++ numbers_of t ds) v) (sym some) ∙ is)) [
        | inl here ↦
            let one : is_each d ≡ false = by_test (is_each d) (λ each. none_some u (number_at t d) (each_none t d each) some) (λ isnt. isnt) in
            (of d, ap (λ b. b || are_for (of d) ds) (stands_for d one), number_by t d one ∙ some ∙ ap Some (eqb-true u v here))
        | inr more ↦ later (owner ds v more)
      ])
    where
      later : (c : all.Channel) × (are_for c ds ≡ true) × (number_of t c ≡ Some v) → (c : all.Channel) × (are_for c (d ∷ ds) ≡ true) × (number_of t c ≡ Some v)
      later (c, are, number) = (c, ap (λ b. is_for c d || b) are ∙ or_true (is_for c d), number)

-- ---- a step more

module _ (plan : Plan) (trace : List TraceItem) (steps : List Step) (turn : TraceItem) (old new : Seen) (before after : Numbers) (step : Step) where
  module _ (so_far : AreSteps plan trace steps old before) (at_turn : slice_get trace (length steps) ≡ Some turn) (is : IsStepOf plan turn old before new after step) where
    told : IsTold plan (done_before trace (length steps)) turn.made turn.call new is.passing
    told = is.told (done_before trace (length steps)) so_far.comes

    gives_only : (i : ℕ) (x : Step) (v : ℕ) → slice_get steps i ≡ Some x → clocks.hands_on x v ≡ true → Contains x.gives.items v
    gives_only i x v at_x hands =
        from_has x.gives.items v (sym (ap (λ (list : List ℕ). has x.gives.items v || has list v) (so_far.unset i x at_x) ∙ or_false (has x.gives.items v)) ∙ hands)

    takes : (i : ℕ) → TurnTakes plan trace i (length steps) turn → StepTakes steps i (length steps) step
    takes i (c, taken, stands) =
        by_found (number_of before.tables c) (λ none. absurd (so_far.holds.none c i none stands))
        (λ v number.
        let found = cases_within steps i stands.earlier in (
          v,
          ap (λ (list : List ℕ). has list v) is.takes ∙ among before.tables is.passing.takes c v (told.takes c ∙ taken) told.keyed number,
          record {
            giver = found.0;
            at = found.1;
            earlier = stands.earlier;
            gives = ap (λ b. b || has found.0.sets.items v) (to_has found.0.gives.items v (so_far.holds.back c v i found.0 number found.1 stands));
            kept = λ k y first second at_y. ap (λ (list : List ℕ). has list v) (so_far.unset k y at_y);
          },
        ))
      where
        cases_within : (list : List Step) (i : ℕ) → i < length list → (x : Step) × (slice_get list i ≡ Some x)
        cases_within [] i less = absurd (omega (arith, less))
        cases_within (x ∷ list) zero less = (x, refl)
        cases_within (x ∷ list) (suc i) less = cases_within list i (omega (arith, less))

    only : (i : ℕ) → StepTakes steps i (length steps) step → TurnTakes plan trace i (length steps) turn
    only i (v, taken, stands) =
        let own = owner before.tables is.passing.takes v (ap (λ (list : List ℕ). has list v) (sym is.takes) ∙ taken) in
        (own.0, sym (told.takes own.0) ∙ own.1, so_far.holds.there own.0 v i stands.giver own.2 stands.at (gives_only i stands.giver v stands.at stands.gives))

    agrees : AgreesAt plan trace steps (length steps) turn step
    agrees = record { worker = is.worker; access = is.access; taken = takes; only = only }

    -- ---- what channels hold then

    extend : (c : all.Channel) (i : ℕ) → Stands plan trace c i (length steps) → sets plan (done_before trace (length steps)) turn c ≡ false → Stands plan trace c i (length steps + 1)
    extend c i stands unset = record {
      giver = stands.giver;
      at = stands.at;
      earlier = let less = stands.earlier in omega (arith, less);
      gives = stands.gives;
      kept = λ k x first second at_x. elim (cases_lt k (length steps)) [
        | inl less ↦ stands.kept k x first less at_x
        | inr more ↦
            let same : k ≡ length steps = omega (arith, more, second) in
            let turn_is : turn ≡ x = some_some turn x (slice_get trace k) (ap (slice_get trace) same ∙ at_turn) at_x in
            subst (λ (y : TraceItem). sets plan (done_before trace k) y c ≡ false) turn_is (subst (λ m. sets plan (done_before trace m) turn c ≡ false) (sym same) unset)
      ];
    }

    shrink : (c : all.Channel) (i : ℕ) → Stands plan trace c i (length steps + 1) → i < length steps → Stands plan trace c i (length steps) × (sets plan (done_before trace (length steps)) turn c ≡ false)
    shrink c i stands less = (
      record { giver = stands.giver; at = stands.at; earlier = less; gives = stands.gives; kept = λ k x first second at_x. stands.kept k x first (omega (arith, second)) at_x },
      stands.kept (length steps) turn less (omega arith) at_turn,
    )

    tested : (c : all.Channel) → (all.is_replaced c && are_for c is.passing.gives) ≡ sets plan (done_before trace (length steps)) turn c
    tested c = ap (λ b. all.is_replaced c && b) (told.gives c)

    own_gives : (c : all.Channel) (i : ℕ) → Stands plan trace c i (length steps + 1) → length steps ≤ i → are_for c is.passing.gives ≡ true
    own_gives c i stands more =
        let less = stands.earlier in
        let same : i ≡ length steps = omega (arith, more, less) in
        let turn_is : stands.giver ≡ turn = some_some stands.giver turn (slice_get trace i) stands.at (ap (slice_get trace) same ∙ at_turn) in
        told.gives c ∙ ap (λ (x : TraceItem). hands_on plan (done_before trace (length steps)) x c) (sym turn_is) ∙ ap (λ m. hands_on plan (done_before trace m) stands.giver c) (sym same) ∙ stands.gives

    own_stands : (c : all.Channel) → are_for c is.passing.gives ≡ true → Stands plan trace c (length steps) (length steps + 1)
    own_stands c are = record {
      giver = turn;
      at = at_turn;
      earlier = omega arith;
      gives = sym (told.gives c) ∙ are;
      kept = λ k x first second at_x. absurd (omega (arith, first, second));
    }

    unless_new : (c : all.Channel) (w : ℕ) → number_of after.tables c ≡ Some w → w < before.next → (number_of before.tables c ≡ Some w) × (sets plan (done_before trace (length steps)) turn c ≡ false)
    unless_new c w number less = (
      elim (is.gives.fresh c w number) [
        | inl was ↦ was
        | inr fresh ↦ absurd (omega (arith, less, fresh))
      ],
      by_test (all.is_replaced c && are_for c is.passing.gives)
          (λ replaced.
          let parts = both_true (all.is_replaced c) (are_for c is.passing.gives) replaced in
          let handed = is.gives.handed c parts.1 in
          let same = some_some w handed.0 (number_of after.tables c) number handed.1 in
          let fresh = handed.3 parts.0 in
          absurd (omega (arith, less, same, fresh)))
          (λ isnt. sym (tested c) ∙ isnt),
    )

    still_has : (c : all.Channel) (v : ℕ) → number_of before.tables c ≡ Some v → sets plan (done_before trace (length steps)) turn c ≡ false → number_of after.tables c ≡ Some v
    still_has c v number unset = is.gives.kept c v (tested c ∙ unset) number

    last_is : (i : ℕ) (x : Step) → slice_get (steps ++ step ∷ []) i ≡ Some x → length steps ≤ i → (i ≡ length steps) × (step ≡ x)
    last_is i x at_x more =
        let within = within_both i x at_x in
        let longer = within_next steps step in
        let same : i ≡ length steps = omega (arith, more, within, longer) in
        (same, some_some step x (slice_get (steps ++ step ∷ []) i) (ap (slice_get (steps ++ step ∷ [])) same ∙ next_at steps step) at_x)
      where
        within_both : (i : ℕ) (x : Step) → slice_get (steps ++ step ∷ []) i ≡ Some x → i < length (steps ++ step ∷ [])
        within_both i x at_x = slice_get_within (steps ++ step ∷ []) i x at_x

    holds_more : Holds plan trace (length steps + 1) (steps ++ step ∷ []) after
    holds_more = record {
      there = λ c w i x number at_x gives. elim (cases_lt i (length steps)) [
        | inl less ↦
            let at_i = sym (front_at steps (step ∷ []) i less) ∙ at_x in
            let kept = unless_new c w number (so_far.below i x at_i w gives) in
            extend c i (so_far.holds.there c w i x kept.0 at_i gives) kept.1
        | inr more ↦
            let last = last_is i x at_x more in
            let given = is.gives.given c w number (subst (λ (y : Step). Contains y.gives.items w) (sym last.1) gives) in
            subst (λ m. Stands plan trace c m (length steps + 1)) (sym last.0) (own_stands c given)
      ];
      back = λ c w i x number at_x stands. elim (cases_lt i (length steps)) [
        | inl less ↦
            let at_i = sym (front_at steps (step ∷ []) i less) ∙ at_x in
            let was = shrink c i stands less in
            by_found (number_of before.tables c) (λ none. absurd (so_far.holds.none c i none was.0))
            (λ v found. subst (λ m. Contains x.gives.items m) (some_some v w (number_of after.tables c) (still_has c v found was.1) number) (so_far.holds.back c v i x found at_i was.0))
        | inr more ↦
            let last = last_is i x at_x more in
            let handed = is.gives.handed c (own_gives c i stands more) in
            subst (λ (y : Step). Contains y.gives.items w) last.1 (subst (λ m. Contains step.gives.items m) (some_some handed.0 w (number_of after.tables c) handed.1 number) handed.2)
      ];
      none = λ c i number stands. elim (cases_lt i (length steps)) [
        | inl less ↦
            let was = shrink c i stands less in
            by_found (number_of before.tables c) (λ none. so_far.holds.none c i none was.0)
            (λ v found. none_some v (number_of after.tables c) number (still_has c v found was.1))
        | inr more ↦
            let handed = is.gives.handed c (own_gives c i stands more) in
            none_some handed.0 (number_of after.tables c) number handed.1
      ];
    }

    takes_below : (v : ℕ) → Contains step.takes.items v → v < after.next
    takes_below v among_v =
        let own = owner before.tables is.passing.takes v (ap (λ (list : List ℕ). has list v) (sym is.takes) ∙ to_has step.takes.items v among_v) in
        let under = so_far.numbered.below own.0 v own.2 in
        let rises = is.gives.rises in omega (arith, under, rises)

    done_next : done_before trace (length steps + 1) ≡ done_before trace (length steps) ++ turn.made
    done_next =
        ap items_told (take_at trace (length steps) turn at_turn) ∙ flat_map-append (λ (one : TraceItem). one.made) (take (length steps) trace) (turn ∷ []) ∙ ap (λ made. done_before trace (length steps) ++ made) (append-nil turn.made)
      where
        take_suc : (i : ℕ) (xs : List TraceItem) (x : TraceItem) → slice_get xs i ≡ Some x → take (suc i) xs ≡ take i xs ++ x ∷ []
        take_suc i [] x at = absurd cc
        take_suc zero (y ∷ ys) x at = let same : y ≡ x = cc in ap (λ z. z ∷ []) same
        take_suc (suc i) (y ∷ ys) x at = ap (λ zs. y ∷ zs) (take_suc i ys x at)

        take_at : (xs : List TraceItem) (i : ℕ) (x : TraceItem) → slice_get xs i ≡ Some x → take (i + 1) xs ≡ take i xs ++ x ∷ []
        take_at xs i x at = let one : i + 1 ≡ suc i = omega arith in ap (λ m. take m xs) one ∙ take_suc i xs x at

    longer : length (steps ++ step ∷ []) ≡ length steps + 1
    longer = let one = within_next steps step in omega (arith, one)

    pub steps_more : step.worker < plan.workers → AreSteps plan trace (steps ++ step ∷ []) new after
    steps_more worker = record {
      agree = agree_more plan trace steps step turn at_turn so_far.agree agrees;
      comes = subst (λ items. IsSeen plan items new) (sym (ap (done_before trace) longer ∙ done_next)) told.comes;
      numbered = is.gives.numbered;
      holds = subst (λ m. Holds plan trace m (steps ++ step ∷ []) after) (sym longer) holds_more;
      worker = λ i x at_x. elim (cases_lt i (length steps)) [
        | inl less ↦ so_far.worker i x (sym (front_at steps (step ∷ []) i less) ∙ at_x)
        | inr more ↦ subst (λ (y : Step). y.worker < plan.workers) (last_is i x at_x more).1 worker
      ];
      takes = λ i x at_x v among_v. elim (cases_lt i (length steps)) [
        | inl less ↦ let under = so_far.takes i x (sym (front_at steps (step ∷ []) i less) ∙ at_x) v among_v in let rises = is.gives.rises in omega (arith, under, rises)
        | inr more ↦ takes_below v (subst (λ (y : Step). Contains y.takes.items v) (sym (last_is i x at_x more).1) among_v)
      ];
      below = λ i x at_x v among_v. elim (cases_lt i (length steps)) [
        | inl less ↦ let under = so_far.below i x (sym (front_at steps (step ∷ []) i less) ∙ at_x) v among_v in let rises = is.gives.rises in omega (arith, under, rises)
        | inr more ↦ is.gives.below v (subst (λ (y : Step). Contains y.gives.items v) (sym (last_is i x at_x more).1) among_v)
      ];
      unset = λ i x at_x. elim (cases_lt i (length steps)) [
        | inl less ↦ so_far.unset i x (sym (front_at steps (step ∷ []) i less) ∙ at_x)
        | inr more ↦ ap (λ (y : Step). y.sets.items) (sym (last_is i x at_x more).1) ∙ is.sets
      ];
    }

-- ---- no step, and all steps

at_index : {A : Type 0} (list : List A) (k : ℕ) (d : A) → k < length list → slice_get list k ≡ Some (slice_index_or list k d)
at_index [] k d less = absurd (omega (arith, less))
at_index (x ∷ list) zero d less = refl
at_index (x ∷ list) (suc k) d less = at_index list k d (omega (arith, less))

pub item_at : {A : Type 0} (list : List A) (k : ℕ) (x : A) → x ≡ slice_index_or list k x → k < length list → slice_get list k ≡ Some x
item_at list k x is less = at_index list k x less ∙ ap Some (sym is)

pub steps_none : (plan : Plan) (trace : List TraceItem) → AreSteps plan trace [] new_seen no_numbers
steps_none plan trace = record {
  agree = agree_none plan trace;
  comes = record {
    are = λ place. length-replicate plan.workers None;
    conds = λ place. refl;
    pools = λ place. refl;
    maps = λ place. refl;
    callers = λ worker. refl;
  };
  numbered = record {
    below = λ c v number. none_number c v number;
    apart = λ c d v number other keeps. none_number c v number;
  };
  holds = record {
    there = λ c v i x number at. none_number c v number;
    back = λ c v i x number at. none_number c v number;
    none = λ c i number stands. let less = stands.earlier in absurd (omega (arith, less));
  };
  worker = λ i x at. none_at x at;
  takes = λ i x at. none_at x at;
  below = λ i x at. none_at x at;
  unset = λ i x at. none_at x at;
}
  where
    none_at : {A : Type 0} (x : Step) → None ≡ Some x → A
    none_at x at = none_some x None refl at

    no_number : (c : all.Channel) → number_of none_yet c ≡ None
    no_number (all.MutexUnlock m) = refl
    no_number (all.WriterUnlock m) = refl
    no_number (all.ReaderUnlock m) = refl
    no_number (all.Notice m n) = refl
    no_number (all.Lowering m) = refl
    no_number (all.FunctionEnd m) = refl
    no_number (all.PutItem m n) = refl
    no_number (all.Start m) = refl
    no_number (all.Atomic m) = refl
    no_number (all.MapKey m n) = ap (λ own. later own None) (get-empty (slice_cmp nat_cmp) n)

    none_number : {A : Type 0} (c : all.Channel) (v : ℕ) → number_of none_yet c ≡ Some v → A
    none_number c v number = none_some v (number_of none_yet c) (no_number c) number

pub steps_begin : (plan : Plan) (trace : List TraceItem) (steps : List Step) (seen : Seen) (numbers : Numbers) → steps ≡ [] → seen ≡ new_seen → numbers ≡ no_numbers → AreSteps plan trace steps seen numbers
steps_begin plan trace steps seen numbers no_steps none_seen none =
    subst (λ (list : List Step). AreSteps plan trace list seen numbers) (sym no_steps) (subst (λ (s : Seen). AreSteps plan trace [] s numbers) (sym none_seen) (subst (λ (m : Numbers). AreSteps plan trace [] new_seen m) (sym none) (steps_none plan trace)))

module _ (plan : Plan) (trace : List TraceItem) (steps : List Step) (seen : Seen) (numbers : Numbers) (are : AreSteps plan trace steps seen numbers) where
  all_below : (list : List ℕ) → ((v : ℕ) → Contains list v → v < numbers.next) → All (λ c. c < numbers.next) list
  all_below list below = All-weaker (Contains list) (λ c. c < numbers.next) below list (All-contains_itself list)

  one_fits : (i : ℕ) (x : Step) → slice_get steps i ≡ Some x → StepFits plan.workers numbers.next x
  one_fits i x at = record {
    worker = are.worker i x at;
    takes = all_below x.takes.items (are.takes i x at);
    gives = all_below x.gives.items (are.below i x at);
    sets = subst (λ (list : List ℕ). All (λ c. c < numbers.next) list) (sym (are.unset i x at)) (all_below [] (λ v among. absurd (omega (arith, among.1))));
  }

  pub steps_fit : All (StepFits plan.workers numbers.next) steps
  steps_fit k d less = one_fits k (slice_index_or steps k d) (at_index steps k d less)
