-- The numbers of what a misuse halts.
use Rattle.std.proofs.Common.{◌≡◌, ◌⊎◌, inl, inr, ℕ, zero, suc, ◌+◌, ◌-◌, ◌<◌, ◌≤◌, ◌==◌, Bool, true, false, cond, List, [], ◌∷◌, ◌++◌, length, take, drop, Some, slice_get, refl, sym, ap, ◌∙◌, subst, arith, append_assoc, eq-eqb, ne_eqb}
use Rattle.std.specs.Prelude.{Contains, filter}
use Rattle.std.specs.List.{range_with_len}
use Rattle.std.proofs.lemmas.List.Elements.{Contains-append_left, Contains-append_right, Contains-append_cases, filter-append}
use Rattle.std.proofs.lemmas.Option.{none-some, same_Some, slice_get_within}
use Rattle.workload.specs.declared.object.ObjectKind.{ObjectKind}
use Rattle.workload.specs.declared.object.ObjectKind.TheVariants as kinds
use Rattle.workload.specs.declared.object.ObjectLine.{ObjectLine}
use Rattle.workload.specs.Plan.{Plan, has_dormant}
use Rattle.run_record.specs.Halts.{halted_at, halted_from, halted_starts, halted_with_stop, halted_numbers, IsNumberAt}
use Rattle.run_record.specs.Objects.{first_part, starts_number}
use Rattle.run_record.specs.Record.{stop, object_number}
use Rattle.run_record.proofs.NumberLemmas.{apart, within as is_within}

module _ {A : Type 0} where
  -- a place in one list and then another one
  has_at : (xs : List A) (i : ℕ) (x : A) → slice_get xs i ≡ Some x → Contains xs x
  has_at [] i x at = absurd (none-some x at)
  has_at (y ∷ xs) zero x at = (0, omega arith, same_Some y x at)
  has_at (y ∷ xs) (suc i) x at = let rest = has_at xs i x at in (suc rest.0, omega (arith, rest.1), rest.2)

  pub in_first : (xs ys : List A) (i : ℕ) (x : A) → slice_get (xs ++ ys) i ≡ Some x → (Contains ys x → ⊥) → i < length xs
  in_first [] ys i x at none = absurd (none (has_at ys i x at))
  in_first (y ∷ xs) ys zero x at none = omega arith
  in_first (y ∷ xs) ys (suc i) x at none = omega (arith, in_first xs ys i x at none)

  pub in_second : (xs ys : List A) (i : ℕ) (x : A) → slice_get (xs ++ ys) i ≡ Some x → (Contains xs x → ⊥) → length xs ≤ i
  in_second [] ys i x at none = omega arith
  in_second (y ∷ xs) ys zero x at none = absurd (none (0, omega arith, same_Some y x at))
  in_second (y ∷ xs) ys (suc i) x at none = omega (arith, in_second xs ys i x at (λ has. none (suc has.0, omega (arith, has.1), has.2)))

  pub taken_at : (n : ℕ) (xs : List A) (i : ℕ) (x : A) → slice_get (take n xs) i ≡ Some x → (i < n) × (slice_get xs i ≡ Some x)
  taken_at zero xs i x at = absurd (none-some x at)
  taken_at (suc n) [] i x at = absurd (none-some x at)
  taken_at (suc n) (y ∷ xs) zero x at = (omega arith, at)
  taken_at (suc n) (y ∷ xs) (suc i) x at = let rest = taken_at n xs i x at in (omega (arith, rest.0), rest.1)

  pub dropped_at : (n : ℕ) (xs : List A) (i : ℕ) (x : A) → slice_get (drop n xs) i ≡ Some x → slice_get xs (n + i) ≡ Some x
  dropped_at zero xs i x at = let same : 0 + i ≡ i = omega arith in ap (λ (k : ℕ). slice_get xs k) same ∙ at
  dropped_at (suc n) [] i x at = absurd (none-some x at)
  dropped_at (suc n) (y ∷ xs) i x at = let same : suc n + i ≡ suc (n + i) = omega arith in ap (λ (k : ℕ). slice_get (y ∷ xs) k) same ∙ dropped_at n xs i x at

  drop_at : (n : ℕ) (xs : List A) (x : A) → slice_get xs n ≡ Some x → drop n xs ≡ x ∷ drop (suc n) xs
  drop_at n [] x at = absurd (none-some x at)
  drop_at zero (y ∷ xs) x at = ap (λ (z : A). z ∷ xs) (same_Some y x at)
  drop_at (suc n) (y ∷ xs) x at = drop_at n xs x at

-- which of these numbers is this one
abbrev kept : ℕ → List ℕ → List ℕ
kept number numbers = filter (λ n. n == number) numbers

none_kept : (number : ℕ) (numbers : List ℕ) → (Contains numbers number → ⊥) → kept number numbers ≡ []
none_kept number [] none = refl
none_kept number (n ∷ numbers) none =
    ap (λ (b : Bool). cond b (n ∷ kept number numbers) (kept number numbers)) (ne_eqb n number (λ same. none (0, omega arith, same)))
    ∙ none_kept number numbers (λ has. none (suc has.0, omega (arith, has.1), has.2))

first_kept : (number : ℕ) (numbers : List ℕ) → (Contains numbers number → ⊥) → kept number (number ∷ numbers) ≡ number ∷ []
first_kept number numbers none = ap (λ (b : Bool). cond b (number ∷ kept number numbers) (kept number numbers)) (eq-eqb number number refl) ∙ ap (λ (l : List ℕ). number ∷ l) (none_kept number numbers none)

-- the numbers of a range
in_range : (first n number : ℕ) → Contains (range_with_len first n) number → (part : ℕ) × (part < n) × (number ≡ first + part)
in_range first zero number has = absurd (omega (arith, has.1))
in_range first (suc n) number (zero, within, is) = (0, omega arith, omega (arith, is))
in_range first (suc n) number (suc k, within, is) = let rest = in_range (first + 1) n number (k, omega (arith, within), is) in (suc rest.0, omega (arith, rest.1), omega (arith, rest.2))

range_has : (first n part : ℕ) → part < n → Contains (range_with_len first n) (first + part)
range_has first zero part below = absurd (omega (arith, below))
range_has first (suc n) zero below = (0, omega arith, omega arith)
range_has first (suc n) (suc part) below =
    let rest = range_has (first + 1) n part (omega (arith, below)) in
    let next : (first + 1) + part ≡ first + suc part = omega arith in
    subst (Contains (range_with_len first (suc n))) next (suc rest.0, omega (arith, rest.1), rest.2)

range_kept : (first n part : ℕ) → part < n → kept (first + part) (range_with_len first n) ≡ (first + part) ∷ []
range_kept first zero part below = absurd (omega (arith, below))
range_kept first (suc n) zero below =
    let here : first + 0 ≡ first = omega arith in
    subst (λ (k : ℕ). kept k (range_with_len first (suc n)) ≡ k ∷ []) (sym here) (first_kept first (range_with_len (first + 1) n) (λ has. let part = in_range (first + 1) n first has in omega (arith, part.2)))
range_kept first (suc n) (suc part) below =
    let next : (first + 1) + part ≡ first + suc part = omega arith in
    let rest = range_with_len (first + 1) n in
    ap (λ (b : Bool). cond b (first ∷ kept (first + suc part) rest) (kept (first + suc part) rest)) (ne_eqb first (first + suc part) (λ same. omega (arith, same)))
    ∙ subst (λ (k : ℕ). kept k rest ≡ k ∷ []) next (range_kept (first + 1) n part (omega (arith, below)))

range_cut : (first m n : ℕ) → range_with_len first (m + n) ≡ range_with_len first m ++ range_with_len (first + m) n
range_cut first zero n =
    let all : 0 + n ≡ n = omega arith in
    let here : first ≡ first + 0 = omega arith in
    ap (λ (k : ℕ). range_with_len first k) all ∙ ap (λ (k : ℕ). range_with_len k n) here
range_cut first (suc m) n =
    let all : suc m + n ≡ suc (m + n) = omega arith in
    let next : (first + 1) + m ≡ first + suc m = omega arith in
    ap (λ (k : ℕ). range_with_len first k) all ∙ ap (λ (l : List ℕ). first ∷ l) (range_cut (first + 1) m n ∙ ap (λ (k : ℕ). range_with_len (first + 1) m ++ range_with_len k n) next)

one_is : (n number : ℕ) → Contains (n ∷ []) number → number ≡ n
one_is n number (zero, within, is) = sym is
one_is n number (suc k, within, is) = absurd (omega (arith, within))

module _ (plan : Plan) where
  -- what is halted at a place is what has a journal there
  at_is : (place : ℕ) (kind : ObjectKind) (number : ℕ) → Contains (halted_at plan place kind) number → IsNumberAt plan place kind number
  at_is place kinds.Map number has = absurd (omega (arith, has.1))
  at_is place (kinds.Atomic type) number has = absurd (omega (arith, has.1))
  at_is place kinds.Var number has = absurd (omega (arith, has.1))
  at_is place kinds.Pool number has = in_range (first_part plan place) plan.workers number has
  at_is place kind number has = one_is (object_number place) number has

  is_at : (place : ℕ) (kind : ObjectKind) (number : ℕ) → IsNumberAt plan place kind number → Contains (halted_at plan place kind) number
  is_at place kinds.Map number is = absurd is
  is_at place (kinds.Atomic type) number is = absurd is
  is_at place kinds.Var number is = absurd is
  is_at place kinds.Pool number (part, below, is) = subst (Contains (range_with_len (first_part plan place) plan.workers)) (sym is) (range_has (first_part plan place) plan.workers part below)
  is_at place kind number is = (0, omega arith, sym is)

  kept_at : (place : ℕ) (kind : ObjectKind) (number : ℕ) → IsNumberAt plan place kind number → kept number (halted_at plan place kind) ≡ number ∷ []
  kept_at place kinds.Map number is = absurd is
  kept_at place (kinds.Atomic type) number is = absurd is
  kept_at place kinds.Var number is = absurd is
  kept_at place kinds.Pool number (part, below, is) = subst (λ (k : ℕ). kept k (range_with_len (first_part plan place) plan.workers) ≡ k ∷ []) (sym is) (range_kept (first_part plan place) plan.workers part below)
  kept_at place kind number is = subst (λ (k : ℕ). kept k (object_number place ∷ []) ≡ k ∷ []) (sym is) (first_kept (object_number place) [] (λ has. omega (arith, has.1)))

  -- an object's own number, or that of a part
  abbrev IsOwnOrPart : ℕ → ObjectKind → ℕ → Type 0
  IsOwnOrPart place kind number = (number ≡ object_number place) ⊎ ((part : ℕ) × (part < plan.workers) × (kind ≡ kinds.Pool) × (number ≡ first_part plan place + part))

  own_or_part : (place : ℕ) (kind : ObjectKind) (number : ℕ) → IsNumberAt plan place kind number → IsOwnOrPart place kind number
  own_or_part place kinds.Map number is = absurd is
  own_or_part place (kinds.Atomic type) number is = absurd is
  own_or_part place kinds.Var number is = absurd is
  own_or_part place kinds.Pool number (part, below, is) = inr (part, below, refl, is)
  own_or_part place kind number is = inl is

  -- what is halted at a place isn't Stop, and is halted at no other one
  not_stop : (place : ℕ) (kind : ObjectKind) → IsNumberAt plan place kind stop → ⊥
  not_stop place kind is = by_case (own_or_part place kind stop is) where
    by_case : IsOwnOrPart place kind stop → ⊥
    by_case (inl own) = omega (arith, own)
    by_case (inr (part, below, pool, own)) = omega (arith, own)

  pub one_place : (place other number : ℕ) (object one : ObjectLine) → slice_get plan.objects place ≡ Some object → slice_get plan.objects other ≡ Some one
      → IsNumberAt plan place object.kind number → IsNumberAt plan other one.kind number → place ≡ other
  one_place place other number object one here there is also = by_case (own_or_part place object.kind number is) (own_or_part other one.kind number also) where
    by_case : IsOwnOrPart place object.kind number → IsOwnOrPart other one.kind number → place ≡ other
    by_case (inl own) (inl same) = omega (arith, own, same)
    by_case (inl own) (inr (part, below, pool, same)) = absurd (omega (arith, own, same, slice_get_within plan.objects place object here))
    by_case (inr (part, below, pool, own)) (inl same) = absurd (omega (arith, own, same, slice_get_within plan.objects other one there))
    by_case (inr (part, below, pool, own)) (inr (another, under, also_pool, same)) =
        (apart plan.workers plan.objects place other part another object one here pool below there also_pool under (omega (arith, own, same))).0

  -- what is halted for declared objects
  in_from : (place : ℕ) (lines : List ObjectLine) (number : ℕ) → Contains (halted_from plan place lines) number → (i : ℕ) × (line : ObjectLine) × (slice_get lines i ≡ Some line) × IsNumberAt plan (place + i) line.kind number
  in_from place [] number has = absurd (omega (arith, has.1))
  in_from place (line ∷ lines) number has = by_case (in_from (place + 1) lines number) (Contains-append_cases (halted_at plan place line.kind) (halted_from plan (place + 1) lines) number has) where
    by_case : (Contains (halted_from plan (place + 1) lines) number → (i : ℕ) × (l : ObjectLine) × (slice_get lines i ≡ Some l) × IsNumberAt plan ((place + 1) + i) l.kind number)
        → Contains (halted_at plan place line.kind) number ⊎ Contains (halted_from plan (place + 1) lines) number → (i : ℕ) × (l : ObjectLine) × (slice_get (line ∷ lines) i ≡ Some l) × IsNumberAt plan (place + i) l.kind number
    by_case rest (inl here) = (0, line, refl, subst (λ (n : ℕ). IsNumberAt plan n line.kind number) (omega arith) (at_is place line.kind number here))
    by_case rest (inr later) = let found = rest later in (suc found.0, found.1, found.2, subst (λ (n : ℕ). IsNumberAt plan n found.1.kind number) (omega arith) found.3)

  from_in : (place : ℕ) (lines : List ObjectLine) (i : ℕ) (line : ObjectLine) (number : ℕ) → slice_get lines i ≡ Some line → IsNumberAt plan (place + i) line.kind number → Contains (halted_from plan place lines) number
  from_in place [] i line number at is = absurd (none-some line at)
  from_in place (l ∷ lines) zero line number at is =
      let here = subst (λ (x : ObjectLine). IsNumberAt plan place x.kind number) (sym (same_Some l line at)) (subst (λ (n : ℕ). IsNumberAt plan n line.kind number) (omega arith) is) in
      Contains-append_left (halted_at plan place l.kind) (halted_from plan (place + 1) lines) number (is_at place l.kind number here)
  from_in place (l ∷ lines) (suc i) line number at is =
      Contains-append_right (halted_at plan place l.kind) (halted_from plan (place + 1) lines) number (from_in (place + 1) lines i line number at (subst (λ (n : ℕ). IsNumberAt plan n line.kind number) (omega arith) is))

  from_cut : (n place : ℕ) (lines : List ObjectLine) → halted_from plan place lines ≡ halted_from plan place (take n lines) ++ halted_from plan (place + n) (drop n lines)
  from_cut zero place lines = ap (λ (k : ℕ). halted_from plan k lines) (omega arith)
  from_cut (suc n) place [] = refl
  from_cut (suc n) place (l ∷ lines) =
      let next : (place + 1) + n ≡ place + suc n = omega arith in
      ap (λ (xs : List ℕ). halted_at plan place l.kind ++ xs) (from_cut n (place + 1) lines ∙ ap (λ (k : ℕ). halted_from plan (place + 1) (take n lines) ++ halted_from plan k (drop n lines)) next)
      ∙ sym (append_assoc (halted_at plan place l.kind) (halted_from plan (place + 1) (take n lines)) (halted_from plan (place + suc n) (drop n lines)))

  -- what is halted for Starts is Starts, where some workers wait to be started, and that is no declared object
  in_starts : (number : ℕ) → Contains (halted_starts plan) number → (has_dormant plan ≡ true) × (number ≡ starts_number plan)
  in_starts number has = by_waiting (has_dormant plan) refl has where
    by_waiting : (b : Bool) → has_dormant plan ≡ b → Contains (cond b (starts_number plan ∷ []) []) number → (has_dormant plan ≡ true) × (number ≡ starts_number plan)
    by_waiting true some has = (some, one_is (starts_number plan) number has)
    by_waiting false none has = absurd (omega (arith, has.1))

  not_starts : (place : ℕ) (object : ObjectLine) → slice_get plan.objects place ≡ Some object → IsNumberAt plan place object.kind (starts_number plan) → ⊥
  not_starts place object here is = by_case (own_or_part place object.kind (starts_number plan) is) where
    by_case : IsOwnOrPart place object.kind (starts_number plan) → ⊥
    by_case (inl own) = omega (arith, own, slice_get_within plan.objects place object here)
    by_case (inr (part, below, pool, own)) = omega (arith, own, is_within plan.workers plan.objects place part object here pool below)

  -- Stop, Starts, or halted for one of these objects
  abbrev IsNumberOf : List ObjectLine → ℕ → Type 0
  IsNumberOf lines number = (number ≡ stop) ⊎ ((has_dormant plan ≡ true) × (number ≡ starts_number plan)) ⊎ ((place : ℕ) × (object : ObjectLine) × (slice_get lines place ≡ Some object) × IsNumberAt plan place object.kind number)

  in_numbers : (lines : List ObjectLine) (number : ℕ) → Contains (halted_with_stop plan lines) number → IsNumberOf lines number
  in_numbers lines number (zero, within, is) = inl (sym is)
  in_numbers lines number (suc k, within, is) = by_case (Contains-append_cases (halted_starts plan) (halted_from plan 0 lines) number (k, omega (arith, within), is)) where
    by_case : Contains (halted_starts plan) number ⊎ Contains (halted_from plan 0 lines) number → IsNumberOf lines number
    by_case (inl starts) = inr (inl (in_starts number starts))
    by_case (inr later) = let found = in_from 0 lines number later in inr (inr (found.0, found.1, found.2, subst (λ (i : ℕ). IsNumberAt plan i found.1.kind number) (omega arith) found.3))

  abbrev front : ℕ → List ℕ
  front n = halted_with_stop plan (take n plan.objects)

  abbrev back : ℕ → List ℕ
  back n = halted_from plan n (drop n plan.objects)

  numbers_cut : (n : ℕ) → halted_numbers plan ≡ front n ++ back n
  numbers_cut n =
      ap (λ (xs : List ℕ). stop ∷ (halted_starts plan ++ xs)) (from_cut n 0 plan.objects ∙ ap (λ (k : ℕ). halted_from plan 0 (take n plan.objects) ++ halted_from plan k (drop n plan.objects)) (omega arith))
      ∙ ap (λ (xs : List ℕ). stop ∷ xs) (sym (append_assoc (halted_starts plan) (halted_from plan 0 (take n plan.objects)) (back n)))

  module _ (place number : ℕ) (object : ObjectLine) (here : slice_get plan.objects place ≡ Some object) (is : IsNumberAt plan place object.kind number) where
    not_before : (n : ℕ) → n ≤ place → Contains (front n) number → ⊥
    not_before n least has = by_case (in_numbers (take n plan.objects) number has) where
      by_case : IsNumberOf (take n plan.objects) number → ⊥
      by_case (inl first) = not_stop place object.kind (subst (IsNumberAt plan place object.kind) first is)
      by_case (inr (inl (some, starts))) = not_starts place object here (subst (IsNumberAt plan place object.kind) starts is)
      by_case (inr (inr (other, one, there, also))) = let at = taken_at n plan.objects other one there in omega (arith, least, at.0, one_place other place number one object at.1 here also is)

    not_behind : (n : ℕ) → place < n → Contains (back n) number → ⊥
    not_behind n less has =
        let found = in_from n (drop n plan.objects) number has in
        let at = dropped_at n plan.objects found.0 found.1 found.2 in
        omega (arith, less, one_place (n + found.0) place number found.1 object at here found.3 is)

    -- from its place on
    back_is : back place ≡ halted_at plan place object.kind ++ back (suc place)
    back_is =
        let next : place + 1 ≡ suc place = omega arith in
        ap (λ (xs : List ObjectLine). halted_from plan place xs) (drop_at place plan.objects object here) ∙ ap (λ (k : ℕ). halted_at plan place object.kind ++ halted_from plan k (drop (suc place) plan.objects)) next

    pub placed_once : kept number (halted_numbers plan) ≡ number ∷ []
    placed_once =
        ap (λ (xs : List ℕ). kept number xs) (numbers_cut place ∙ ap (λ (xs : List ℕ). front place ++ xs) back_is)
        ∙ filter-append (λ n. n == number) (front place) (halted_at plan place object.kind ++ back (suc place))
        ∙ ap (λ (xs : List ℕ). xs ++ kept number (halted_at plan place object.kind ++ back (suc place))) (none_kept number (front place) (not_before place (omega arith)))
        ∙ filter-append (λ n. n == number) (halted_at plan place object.kind) (back (suc place))
        ∙ ap (λ (xs : List ℕ). xs ++ kept number (back (suc place))) (kept_at place object.kind number is)
        ∙ ap (λ (xs : List ℕ). number ∷ xs) (none_kept number (back (suc place)) (not_behind (suc place) (omega arith)))

    pub placed : Contains (halted_numbers plan) number
    placed =
        let at = Contains-append_right (halted_starts plan) (halted_from plan 0 plan.objects) number (from_in 0 plan.objects place object number here (subst (λ (i : ℕ). IsNumberAt plan i object.kind number) (omega arith) is)) in
        (suc at.0, omega (arith, at.1), at.2)

  -- Stop is halted once
  pub stop_once : kept stop (halted_numbers plan) ≡ stop ∷ []
  stop_once = first_kept stop (halted_starts plan ++ halted_from plan 0 plan.objects) (λ has. by_case (Contains-append_cases (halted_starts plan) (halted_from plan 0 plan.objects) stop has)) where
    by_case : Contains (halted_starts plan) stop ⊎ Contains (halted_from plan 0 plan.objects) stop → ⊥
    by_case (inl starts) = omega (arith, (in_starts stop starts).1)
    by_case (inr later) = let found = in_from 0 plan.objects stop later in not_stop (0 + found.0) found.1.kind found.3

  -- and so is Starts, behind it
  module _ (some : has_dormant plan ≡ true) where
    starts_is : halted_numbers plan ≡ stop ∷ starts_number plan ∷ halted_from plan 0 plan.objects
    starts_is = ap (λ (b : Bool). stop ∷ (cond b (starts_number plan ∷ []) [] ++ halted_from plan 0 plan.objects)) some

    pub starts_second : slice_get (halted_numbers plan) 1 ≡ Some (starts_number plan)
    starts_second = ap (λ (xs : List ℕ). slice_get xs 1) starts_is

    pub starts_placed : Contains (halted_numbers plan) (starts_number plan)
    starts_placed = has_at (halted_numbers plan) 1 (starts_number plan) starts_second

    not_later : Contains (halted_from plan 0 plan.objects) (starts_number plan) → ⊥
    not_later has = let found = in_from 0 plan.objects (starts_number plan) has in not_starts found.0 found.1 found.2 (subst (λ (i : ℕ). IsNumberAt plan i found.1.kind (starts_number plan)) (omega arith) found.3)

    starts_once : kept (starts_number plan) (halted_numbers plan) ≡ starts_number plan ∷ []
    starts_once =
        let starts = starts_number plan in
        let rest = kept starts (starts ∷ halted_from plan 0 plan.objects) in
        ap (λ (xs : List ℕ). kept starts xs) starts_is
        ∙ ap (λ (b : Bool). cond b (stop ∷ rest) rest) (ne_eqb stop starts (λ same. omega (arith, same)))
        ∙ first_kept starts (halted_from plan 0 plan.objects) not_later

  -- what stands among the numbers
  pub numbered : (number : ℕ) → Contains (halted_numbers plan) number → IsNumberOf plan.objects number
  numbered number has = in_numbers plan.objects number has

  pub kept_once : (number : ℕ) → Contains (halted_numbers plan) number → kept number (halted_numbers plan) ≡ number ∷ []
  kept_once number has = by_case (numbered number has) where
    by_case : IsNumberOf plan.objects number → kept number (halted_numbers plan) ≡ number ∷ []
    by_case (inl is) = subst (λ (n : ℕ). kept n (halted_numbers plan) ≡ n ∷ []) (sym is) stop_once
    by_case (inr (inl (some, is))) = subst (λ (n : ℕ). kept n (halted_numbers plan) ≡ n ∷ []) (sym is) (starts_once some)
    by_case (inr (inr (place, object, here, is))) = placed_once place number object here is

  pub in_order : (i j place other first later : ℕ) (object one : ObjectLine) → slice_get plan.objects place ≡ Some object → IsNumberAt plan place object.kind first → slice_get plan.objects other ≡ Some one → IsNumberAt plan other one.kind later
      → place < other → slice_get (halted_numbers plan) i ≡ Some first → slice_get (halted_numbers plan) j ≡ Some later → i < j
  in_order i j place other first later object one here is there also less at_first at_later =
      let cut = numbers_cut (suc place) in
      let low = in_first (front (suc place)) (back (suc place)) i first (ap (λ (xs : List ℕ). slice_get xs i) (sym cut) ∙ at_first) (not_behind place first object here is (suc place) (omega arith)) in
      let high = in_second (front (suc place)) (back (suc place)) j later (ap (λ (xs : List ℕ). slice_get xs j) (sym cut) ∙ at_later) (not_before other later one there also (suc place) (omega (arith, less))) in
      omega (arith, low, high)

  pub parts_in_order : (i j place part another : ℕ) (object : ObjectLine) → slice_get plan.objects place ≡ Some object → object.kind ≡ kinds.Pool → part < another → another < plan.workers
      → slice_get (halted_numbers plan) i ≡ Some (first_part plan place + part) → slice_get (halted_numbers plan) j ≡ Some (first_part plan place + another) → i < j
  parts_in_order i j place part another object here pool less below at_first at_later =
      let all : suc part + (plan.workers - suc part) ≡ plan.workers = omega (arith, less, below) in
      let lower = range_with_len (first_part plan place) (suc part) in
      let upper = range_with_len (first_part plan place + suc part) (plan.workers - suc part) in
      let range : halted_at plan place object.kind ≡ lower ++ upper = ap (halted_at plan place) pool ∙ ap (range_with_len (first_part plan place)) (sym all) ∙ range_cut (first_part plan place) (suc part) (plan.workers - suc part) in
      let cut : halted_numbers plan ≡ (front place ++ lower) ++ (upper ++ back (suc place)) =
      numbers_cut place ∙ ap (λ (xs : List ℕ). front place ++ xs) (back_is place (first_part plan place + part) object here (of part (omega (arith, less, below))) ∙ ap (λ (xs : List ℕ). xs ++ back (suc place)) range ∙ append_assoc lower upper (back (suc place)))
      ∙ sym (append_assoc (front place) lower (upper ++ back (suc place))) in
      let not_first : Contains (upper ++ back (suc place)) (first_part plan place + part) → ⊥ = λ has. not_upper (Contains-append_cases upper (back (suc place)) (first_part plan place + part) has) in
      let not_later : Contains (front place ++ lower) (first_part plan place + another) → ⊥ = λ has. not_lower (Contains-append_cases (front place) lower (first_part plan place + another) has) in
      let low = in_first (front place ++ lower) (upper ++ back (suc place)) i (first_part plan place + part) (ap (λ (xs : List ℕ). slice_get xs i) (sym cut) ∙ at_first) not_first in
      let high = in_second (front place ++ lower) (upper ++ back (suc place)) j (first_part plan place + another) (ap (λ (xs : List ℕ). slice_get xs j) (sym cut) ∙ at_later) not_later in
      omega (arith, low, high) where
        of : (p : ℕ) → p < plan.workers → IsNumberAt plan place object.kind (first_part plan place + p)
        of p within = subst (λ (kind : ObjectKind). IsNumberAt plan place kind (first_part plan place + p)) (sym pool) (p, within, refl)

        not_upper : Contains (range_with_len (first_part plan place + suc part) (plan.workers - suc part)) (first_part plan place + part) ⊎ Contains (back (suc place)) (first_part plan place + part) → ⊥
        not_upper (inl has) = let p = in_range (first_part plan place + suc part) (plan.workers - suc part) (first_part plan place + part) has in omega (arith, p.2)
        not_upper (inr has) = not_behind place (first_part plan place + part) object here (of part (omega (arith, less, below))) (suc place) (omega arith) has

        not_lower : Contains (front place) (first_part plan place + another) ⊎ Contains (range_with_len (first_part plan place) (suc part)) (first_part plan place + another) → ⊥
        not_lower (inl has) = not_before place (first_part plan place + another) object here (of another below) place (omega arith) has
        not_lower (inr has) = let p = in_range (first_part plan place) (suc part) (first_part plan place + another) has in omega (arith, p.1, p.2, less)
