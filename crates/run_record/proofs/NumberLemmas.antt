-- The objects of a record by number: Stop, those of the workload, the parts of its pools, and Starts.
use Rattle.std.proofs.Common.{◌≡◌, ℕ, zero, suc, ◌+◌, ◌-◌, ◌*◌, ◌<◌, ◌≤◌, Bool, true, false, cond, List, [], ◌∷◌, length, take, count_by, Option, Some, ◌⊎◌, inl, inr, slice_get, refl, sym, ap, ◌∙◌, subst, arith}
use Rattle.std.proofs.lemmas.Bool.{cases_lt}
use Rattle.std.proofs.lemmas.List.Sums.{sum_by-append}
use Rattle.std.proofs.lemmas.Option.{none-some, slice_get_within}
use Rattle.std.proofs.Math.Nat.{add-mul}
use Rattle.std.proofs.Math.Seq.{take-length}
use Rattle.std.specs.Prelude.{unwrap_or}
use Rattle.workload.specs.declared.object.ObjectKind.{ObjectKind}
use Rattle.workload.specs.declared.object.ObjectKind.TheVariants as kinds
use Rattle.workload.specs.declared.object.ObjectLine.{ObjectLine}
use Rattle.workload.specs.Plan.{Plan, has_dormant}
use Rattle.run_record.specs.Calls.{IsJournalOf}
use Rattle.run_record.specs.Explains.{IsRecordOf}
use Rattle.run_record.specs.Journals.{IsStops}
use Rattle.run_record.specs.Objects.{is_pool, first_part, object_count, starts_number}
use Rattle.run_record.specs.PoolKind.{IsPartJournal}
use Rattle.run_record.specs.Record.{Record, ObjectEntry, stop, object_number, journal_of}
use Rattle.run_record.specs.StartsKind.{IsStartsJournal}
use Rattle.run_record.proofs.ListLemmas.{get_past}

module _ (workers : ℕ) where
  -- how many parts an object has, and these objects together
  abbrev parts_of : ObjectKind → ℕ
  parts_of kind = cond (is_pool kind) 1 0 * workers

  abbrev parts_in : List ObjectLine → ℕ
  parts_in objects = count_by (λ object. is_pool object.kind) objects * workers

  one_more : (x : ObjectLine) (xs : List ObjectLine) → parts_in (x ∷ xs) ≡ parts_of x.kind + parts_in xs
  one_more x xs =
      let one = cond (is_pool x.kind) 1 0 in
      let more : count_by (λ o. is_pool o.kind) (x ∷ xs) ≡ one + count_by (λ o. is_pool o.kind) xs = omega (arith, sum_by-append (λ (o : ObjectLine). cond (is_pool o.kind) 1 0) (x ∷ []) xs) in
      ap (λ (n : ℕ). n * workers) more ∙ add-mul one (count_by (λ o. is_pool o.kind) xs) workers

  of_pool : (kind : ObjectKind) → kind ≡ kinds.Pool → parts_of kind ≡ workers
  of_pool kind is = ap (λ (k : ObjectKind). cond (is_pool k) 1 0 * workers) is ∙ omega arith

  -- the part of a pool with this number among all parts
  pub record PartAt (objects : List ObjectLine) (m : ℕ) : Type 0 where
    pub place : ℕ
    pub part : ℕ
    pub object : ObjectLine
    pub here : slice_get objects place ≡ Some object
    pub pool : object.kind ≡ kinds.Pool
    pub there : part < workers
    pub is : m ≡ parts_in (take place objects) + part

  behind : (x : ObjectLine) (xs : List ObjectLine) (m k : ℕ) → m ≡ parts_of x.kind + k → PartAt xs k → PartAt (x ∷ xs) m
  behind x xs m k is at = record { place = suc at.place; part = at.part; object = at.object; here = at.here; pool = at.pool; there = at.there; is = omega (arith, is, at.is, one_more x (take at.place xs)) }

  some_part : (x : ObjectLine) (xs : List ObjectLine) (m : ℕ) (kind : ObjectKind) → x.kind ≡ kind → m < parts_of kind → PartAt (x ∷ xs) m
  some_part x xs m kinds.Pool is below = record { place = 0; part = m; object = x; here = refl; pool = is; there = omega (arith, below); is = omega arith }
  some_part x xs m kind is below = absurd (omega (arith, below))

  pub part_at : (objects : List ObjectLine) (m : ℕ) → m < parts_in objects → PartAt objects m
  part_at [] m below = absurd (omega (arith, below))
  part_at (x ∷ xs) m below = by_case (λ k within. part_at xs k within) (cases_lt m (parts_of x.kind)) where
    by_case : ((k : ℕ) → k < parts_in xs → PartAt xs k) → (m < parts_of x.kind) ⊎ (parts_of x.kind ≤ m) → PartAt (x ∷ xs) m
    by_case later (inl first) = some_part x xs m x.kind refl first
    by_case later (inr past) = behind x xs m (m - parts_of x.kind) (omega (arith, past)) (later (m - parts_of x.kind) (omega (arith, past, below, one_more x xs)))

  -- the parts up to an object, and behind it
  pub next_parts : (objects : List ObjectLine) (place : ℕ) (object : ObjectLine) → slice_get objects place ≡ Some object → parts_in (take (suc place) objects) ≡ parts_in (take place objects) + parts_of object.kind
  next_parts [] place object here = absurd (none-some object here)
  next_parts (x ∷ xs) zero object here = one_more x [] ∙ omega arith ∙ ap (λ (o : Option ObjectLine). parts_of (unwrap_or o object).kind) here ∙ omega arith
  next_parts (x ∷ xs) (suc place) object here = omega (arith, one_more x (take (suc place) xs), one_more x (take place xs), next_parts xs place object here)

  none_taken : (n : ℕ) → parts_in (take n []) ≡ 0
  none_taken zero = omega arith
  none_taken (suc n) = omega arith

  parts_rise : (objects : List ObjectLine) (place other : ℕ) → place ≤ other → parts_in (take place objects) ≤ parts_in (take other objects)
  parts_rise [] place other least = omega (arith, none_taken place)
  parts_rise (x ∷ xs) zero other least = omega arith
  parts_rise (x ∷ xs) (suc place) zero least = absurd (omega (arith, least))
  parts_rise (x ∷ xs) (suc place) (suc other) least = omega (arith, one_more x (take place xs), one_more x (take other xs), parts_rise xs place other (omega (arith, least)))

  pub within : (objects : List ObjectLine) (place part : ℕ) (object : ObjectLine) → slice_get objects place ≡ Some object → object.kind ≡ kinds.Pool → part < workers → parts_in (take place objects) + part < parts_in objects
  within objects place part object here pool below =
      let there = slice_get_within objects place object here in
      let all : parts_in (take (length objects) objects) ≡ parts_in objects = ap (λ (xs : List ObjectLine). parts_in xs) (take-length objects) in
      omega (arith, below, next_parts objects place object here, of_pool object.kind pool, parts_rise objects (suc place) (length objects) (omega (arith, there)), all)

  before : (objects : List ObjectLine) (place other part another : ℕ) (object : ObjectLine) → slice_get objects place ≡ Some object → object.kind ≡ kinds.Pool → part < workers → place < other
      → parts_in (take place objects) + part ≡ parts_in (take other objects) + another → ⊥
  before objects place other part another object here pool below earlier is =
      omega (arith, below, next_parts objects place object here, of_pool object.kind pool, parts_rise objects (suc place) other (omega (arith, earlier)), is)

  pub apart : (objects : List ObjectLine) (place other part another : ℕ) (object one : ObjectLine) → slice_get objects place ≡ Some object → object.kind ≡ kinds.Pool → part < workers → slice_get objects other ≡ Some one → one.kind ≡ kinds.Pool → another < workers
      → parts_in (take place objects) + part ≡ parts_in (take other objects) + another → (place ≡ other) × (part ≡ another)
  apart objects place other part another object one here pool below there also under is = by_order (cases_lt place other) (cases_lt other place) where
    by_order : (place < other) ⊎ (other ≤ place) → (other < place) ⊎ (place ≤ other) → (place ≡ other) × (part ≡ another)
    by_order (inl earlier) side = absurd (before objects place other part another object here pool below earlier is)
    by_order side (inl later) = absurd (before objects other place another part one there also under later (sym is))
    by_order (inr low) (inr high) =
        let same : place ≡ other = omega (arith, low, high) in
        let parts : parts_in (take place objects) ≡ parts_in (take other objects) = ap (λ (n : ℕ). parts_in (take n objects)) same in
        (same, omega (arith, is, parts))

module _ (plan : Plan) (r : Record) (lawful : IsRecordOf plan r) (P : List ObjectEntry → Type 0) (none : P []) (stops : IsStops (journal_of r stop) → P (journal_of r stop))
    (of_kind : (place : ℕ) (kind : ObjectKind) (journal : List ObjectEntry) → IsJournalOf plan place kind journal → P journal) (of_part : (room : ℕ) (journal : List ObjectEntry) → IsPartJournal room journal → P journal)
    (of_starts : (dormant : List Bool) (journal : List ObjectEntry) → IsStartsJournal dormant journal → P journal) where
  there_or_past : (xs : List ObjectLine) (place : ℕ) → place < length xs → (object : ObjectLine) × (slice_get xs place ≡ Some object)
  there_or_past [] place below = absurd (omega (arith, below))
  there_or_past (x ∷ xs) zero below = (x, refl)
  there_or_past (x ∷ xs) (suc place) below = there_or_past xs place (omega (arith, below))

  at_place : (place : ℕ) → place < length plan.objects → P (journal_of r (object_number place))
  at_place place below = let at = there_or_past plan.objects place below in of_kind place at.0.kind (journal_of r (object_number place)) (lawful.journals place at.0 at.1)

  at_part : (number m : ℕ) → number ≡ object_number (length plan.objects) + m → PartAt plan.workers plan.objects m → P (journal_of r number)
  at_part number m is at =
      let e : first_part plan at.place + at.part ≡ number = omega (arith, is, at.is) in
      subst (λ n. P (journal_of r n)) e (of_part _ (journal_of r (first_part plan at.place + at.part)) (lawful.parts at.place at.part at.object at.here at.pool at.there))

  -- behind the parts stands Starts, where some workers wait to be started
  behind_parts : (place : ℕ) → length plan.objects ≤ place → parts_in plan.workers plan.objects ≤ place - length plan.objects → P (journal_of r (object_number place))
  behind_parts place past late = by_waiting (has_dormant plan) refl where
    no_object : object_count plan ≤ object_number place → P (journal_of r (object_number place))
    no_object past_all = subst P (sym (get_past r.journals (object_number place) (omega (arith, past_all, lawful.objects)))) none

    by_number : has_dormant plan ≡ true → (starts_number plan < object_number place) ⊎ (object_number place ≤ starts_number plan) → P (journal_of r (object_number place))
    by_number some (inl later) = no_object (omega (arith, later, ap (λ (t : Bool). starts_number plan + cond t 1 0) some))
    by_number some (inr here) =
        let e : starts_number plan ≡ object_number place = omega (arith, past, late, here) in
        subst (λ n. P (journal_of r n)) e (of_starts plan.dormant (journal_of r (starts_number plan)) (lawful.starts some))

    by_waiting : (b : Bool) → has_dormant plan ≡ b → P (journal_of r (object_number place))
    by_waiting true some = by_number some (cases_lt (starts_number plan) (object_number place))
    by_waiting false nobody = no_object (omega (arith, past, late, ap (λ (t : Bool). starts_number plan + cond t 1 0) nobody))

  behind_stop : (place : ℕ) → (place < length plan.objects) ⊎ (length plan.objects ≤ place) → P (journal_of r (object_number place))
  behind_stop place (inl below) = at_place place below
  behind_stop place (inr past) = by_case (cases_lt (place - length plan.objects) (parts_in plan.workers plan.objects)) where
    by_case : (place - length plan.objects < parts_in plan.workers plan.objects) ⊎ (parts_in plan.workers plan.objects ≤ place - length plan.objects) → P (journal_of r (object_number place))
    by_case (inl below) = at_part (object_number place) (place - length plan.objects) (omega (arith, past)) (part_at plan.workers plan.objects (place - length plan.objects) below)
    by_case (inr behind) = behind_parts place past behind

  -- what holds of each journal of Stop, of an object, of a part of a pool, and of Starts, and of an empty one, holds of the journal of whatever number
  pub each_journal : (number : ℕ) → P (journal_of r number)
  each_journal zero = stops lawful.stops
  each_journal (suc place) = let e : object_number place ≡ suc place = omega arith in subst (λ n. P (journal_of r n)) e (behind_stop place (cases_lt place (length plan.objects)))
