-- Objects and their columns, one after the other.
use Rattle.std.proofs.Common.{◌≡◌, ℕ, zero, suc, ◌+◌, ◌<◌, ◌≤◌, Bool, true, false, cond, List, [], ◌∷◌, ◌++◌, length, get_or, Some, None, ◌⊎◌, inl, inr, slice_get, refl, sym, ap, ◌∙◌, subst, arith}
use Rattle.std.proofs.lemmas.Bool.{false≢true}
use Rattle.std.proofs.lemmas.List.{length_push, get_or_past}
use Rattle.std.proofs.lemmas.Option.{none-some, same_Some, slice_get_cases, slice_get_within, get_or_from_slice_get}
use Rattle.workload.specs.declared.object.ObjectKind.{ObjectKind}
use Rattle.workload.specs.declared.object.ObjectKind.TheVariants.{Pool}
use Rattle.workload.specs.declared.object.ObjectLine.{ObjectLine}
use Rattle.workload.specs.Plan.{Plan, has_dormant}
use Rattle.run_record.specs.Objects.{is_pool, first_part, object_count, starts_number}
use Rattle.run_record.specs.Record.{stop, object_number}
use Rattle.thread_objects.specs.declared.column.AnyColumn.{AnyColumn}
use Rattle.thread_objects.specs.declared.column.AnyColumn.TheVariants as columns
use Rattle.thread_objects.specs.declared.object.AnyObject.{AnyObject}
use Rattle.thread_objects.specs.AsDeclared.{IsStopOf, IsDeclared, IsPartOf, IsStartsOf, AreDeclared}
use Rattle.thread_objects.specs.ByKind.{passes_in}
use Rattle.thread_objects.specs.Columns.{IsColumnOf}
use Rattle.thread_objects.specs.Passes.{owns_of}
use Rattle.thread_objects.specs.Rows.{AreColumns, made_on}
use Rattle.thread_runner.specs.Dealing.{AreMade, MadeNothingFrom}
use Rattle.thread_runner.proofs.Dealt.{pushed_at}

-- an object that has some part is a pool
pub some_parts : (pool : Bool) (workers part : ℕ) → part < cond pool workers 0 → (pool ≡ true) × (part < workers)
some_parts true workers part below = (refl, below)
some_parts false workers part below = absurd (omega (arith, below))

pub of_pool : (kind : ObjectKind) → is_pool kind ≡ true → kind ≡ Pool
of_pool Pool is = refl
of_pool kind is = absurd (false≢true is)

module _ {N H : Type 0} (at : H → N → Type 0) (home : H) (workers : ℕ) (plan : Plan) where
  pub first_made : (object : AnyObject N H) (column : AnyColumn N) → IsStopOf at home workers object → IsColumnOf at home workers workers object column → ((worker : ℕ) → owns_of (passes_in column) worker ≡ []) → AreMade at home workers plan 1 (object ∷ []) (column ∷ [])
  first_made object column is seated none = record {
    objects_count = refl;
    columns_count = refl;
    stops = λ other at_other. subst (λ o. IsStopOf at home workers o) (same_Some object other at_other) is;
    declared = λ place line other at_line at_other. absurd (past place other at_other);
    parts = λ place part line other at_line pool below at_other. absurd (beyond place part other at_other);
    starts = λ other has at_other. absurd (behind other at_other);
    columns = one;
    nothing = empty;
  } where
    past : (place : ℕ) (other : AnyObject N H) → slice_get (object ∷ []) (object_number place) ≡ Some other → ⊥
    past place other found = let within = slice_get_within (object ∷ []) (object_number place) other found in absurd (omega (arith, within))

    beyond : (place part : ℕ) (other : AnyObject N H) → slice_get (object ∷ []) (first_part plan place + part) ≡ Some other → ⊥
    beyond place part other found = let within = slice_get_within (object ∷ []) (first_part plan place + part) other found in absurd (omega (arith, within))

    behind : (other : AnyObject N H) → slice_get (object ∷ []) (starts_number plan) ≡ Some other → ⊥
    behind other found = let within = slice_get_within (object ∷ []) (starts_number plan) other found in absurd (omega (arith, within))

    one : (number : ℕ) (o : AnyObject N H) (c : AnyColumn N) → slice_get (object ∷ []) number ≡ Some o → slice_get (column ∷ []) number ≡ Some c → IsColumnOf at home workers workers o c
    one zero o c at_o at_c = subst (λ k. IsColumnOf at home workers workers o k) (same_Some column c at_c) (subst (λ k. IsColumnOf at home workers workers k column) (same_Some object o at_o) seated)
    one (suc n) o c at_o at_c = absurd (none-some o at_o)

    empty : (number : ℕ) (c : AnyColumn N) (worker : ℕ) → slice_get (column ∷ []) number ≡ Some c → owns_of (passes_in c) worker ≡ []
    empty zero c worker at_c = subst (λ k. owns_of (passes_in k) worker ≡ []) (same_Some column c at_c) (none worker)
    empty (suc n) c worker at_c = absurd (none-some c at_c)

  -- the object is the one with this number
  pub record IsNumbered (number : ℕ) (object : AnyObject N H) : Type 0 where
    pub declared : (place : ℕ) (line : ObjectLine) → slice_get plan.objects place ≡ Some line → object_number place ≡ number → IsDeclared at home plan place line.kind object
    pub part : (place part : ℕ) (line : ObjectLine) → slice_get plan.objects place ≡ Some line → line.kind ≡ Pool → part < plan.workers → first_part plan place + part ≡ number → IsPartOf at home plan place object
    pub starts : has_dormant plan ≡ true → starts_number plan ≡ number → IsStartsOf at home plan object

  pub at_place : (count : ℕ) (object : AnyObject N H) → count < length plan.objects → ((line : ObjectLine) → slice_get plan.objects count ≡ Some line → IsDeclared at home plan count line.kind object) → IsNumbered (count + 1) object
  at_place count object within is = record {
    declared = λ place line at_line number.
        let here : count ≡ place = omega (arith, number) in
        subst (λ n. IsDeclared at home plan n line.kind object) here (is line (ap (λ n. slice_get plan.objects n) here ∙ at_line));
    part = λ place part line at_line pool below number. absurd (omega (arith, within, number));
    starts = λ has number. absurd (omega (arith, within, number));
  }

  -- each part has a number of its own
  abbrev pub AreApart : Type 0
  AreApart = (place other part another : ℕ) (line one : ObjectLine) → slice_get plan.objects place ≡ Some line → line.kind ≡ Pool → part < plan.workers → slice_get plan.objects other ≡ Some one → one.kind ≡ Pool → another < plan.workers
      → first_part plan place + part ≡ first_part plan other + another → (place ≡ other) × (part ≡ another)

  -- and Starts is behind them all
  abbrev pub AreWithin : Type 0
  AreWithin = (place part : ℕ) (line : ObjectLine) → slice_get plan.objects place ≡ Some line → line.kind ≡ Pool → part < plan.workers → first_part plan place + part < starts_number plan

  pub at_part : AreApart → AreWithin → (place part : ℕ) (line : ObjectLine) (object : AnyObject N H) → slice_get plan.objects place ≡ Some line → line.kind ≡ Pool → part < plan.workers → IsPartOf at home plan place object → IsNumbered (first_part plan place + part) object
  at_part apart before place part line object at_line pool below is = record {
    declared = λ other one at_other number. absurd (omega (arith, slice_get_within plan.objects other one at_other, number));
    part = λ other another one at_other also under number. subst (λ n. IsPartOf at home plan n object) (apart place other part another line one at_line pool below at_other also under (sym number)).0 is;
    starts = λ has number. let low = before place part line at_line pool below in absurd (omega (arith, low, number));
  }

  pub at_starts : AreWithin → (object : AnyObject N H) → IsStartsOf at home plan object → IsNumbered (starts_number plan) object
  at_starts before object is = record {
    declared = λ place line at_line number. absurd (omega (arith, slice_get_within plan.objects place line at_line, number));
    part = λ place part line at_line pool below number. let low = before place part line at_line pool below in absurd (omega (arith, low, number));
    starts = λ has number. is;
  }

  pub next_made : (count : ℕ) (objects : List (AnyObject N H)) (all : List (AnyColumn N)) (object : AnyObject N H) (column : AnyColumn N) → 0 < count → AreMade at home workers plan count objects all
      → IsNumbered count object → IsColumnOf at home workers workers object column → ((worker : ℕ) → owns_of (passes_in column) worker ≡ [])
      → AreMade at home workers plan (count + 1) (objects ++ object ∷ []) (all ++ column ∷ [])
  next_made count objects all object column some made is seated none = record {
    objects_count = length_push objects object ∙ ap (λ n. n + 1) made.objects_count;
    columns_count = length_push all column ∙ ap (λ n. n + 1) made.columns_count;
    stops = λ other found. stops_by other (pushed_at objects object other stop found);
    declared = λ place line other at_line found. declared_by place line other at_line (pushed_at objects object other (object_number place) found);
    parts = λ place part line other at_line pool below found. parts_by place part line other at_line pool below (pushed_at objects object other (first_part plan place + part) found);
    starts = λ other has found. starts_by other has (pushed_at objects object other (starts_number plan) found);
    columns = λ number o c at_o at_c. columns_by number o c (pushed_at objects object o number at_o) (pushed_at all column c number at_c);
    nothing = λ number c worker found. nothing_by number c worker (pushed_at all column c number found);
  } where
    stops_by : (other : AnyObject N H) → (slice_get objects stop ≡ Some other) ⊎ ((stop ≡ length objects) × (object ≡ other)) → IsStopOf at home workers other
    stops_by other (inl found) = made.stops other found
    stops_by other (inr (behind, same)) = let long = made.objects_count in absurd (omega (arith, some, behind, long))

    declared_by : (place : ℕ) (line : ObjectLine) (other : AnyObject N H) → slice_get plan.objects place ≡ Some line → (slice_get objects (object_number place) ≡ Some other) ⊎ ((object_number place ≡ length objects) × (object ≡ other)) → IsDeclared at home plan place line.kind other
    declared_by place line other at_line (inl found) = made.declared place line other at_line found
    declared_by place line other at_line (inr (behind, same)) =
        subst (λ o. IsDeclared at home plan place line.kind o) same (is.declared place line at_line (behind ∙ made.objects_count))

    parts_by : (place part : ℕ) (line : ObjectLine) (other : AnyObject N H) → slice_get plan.objects place ≡ Some line → line.kind ≡ Pool → part < plan.workers
        → (slice_get objects (first_part plan place + part) ≡ Some other) ⊎ ((first_part plan place + part ≡ length objects) × (object ≡ other)) → IsPartOf at home plan place other
    parts_by place part line other at_line pool below (inl found) = made.parts place part line other at_line pool below found
    parts_by place part line other at_line pool below (inr (behind, same)) = subst (λ o. IsPartOf at home plan place o) same (is.part place part line at_line pool below (behind ∙ made.objects_count))

    starts_by : (other : AnyObject N H) → has_dormant plan ≡ true → (slice_get objects (starts_number plan) ≡ Some other) ⊎ ((starts_number plan ≡ length objects) × (object ≡ other)) → IsStartsOf at home plan other
    starts_by other has (inl found) = made.starts other has found
    starts_by other has (inr (behind, same)) = subst (λ o. IsStartsOf at home plan o) same (is.starts has (behind ∙ made.objects_count))

    columns_by : (number : ℕ) (o : AnyObject N H) (c : AnyColumn N) → (slice_get objects number ≡ Some o) ⊎ ((number ≡ length objects) × (object ≡ o)) → (slice_get all number ≡ Some c) ⊎ ((number ≡ length all) × (column ≡ c)) → IsColumnOf at home workers workers o c
    columns_by number o c (inl at_o) (inl at_c) = made.columns number o c at_o at_c
    columns_by number o c (inl at_o) (inr (behind, same)) = let within = slice_get_within objects number o at_o in absurd (omega (arith, within, behind, made.objects_count, made.columns_count))
    columns_by number o c (inr (behind, same)) (inl at_c) = let within = slice_get_within all number c at_c in absurd (omega (arith, within, behind, made.objects_count, made.columns_count))
    columns_by number o c (inr (behind, same)) (inr (behind_too, same_too)) = subst (λ k. IsColumnOf at home workers workers o k) same_too (subst (λ k. IsColumnOf at home workers workers k column) same seated)

    nothing_by : (number : ℕ) (c : AnyColumn N) (worker : ℕ) → (slice_get all number ≡ Some c) ⊎ ((number ≡ length all) × (column ≡ c)) → owns_of (passes_in c) worker ≡ []
    nothing_by number c worker (inl found) = made.nothing number c worker found
    nothing_by number c worker (inr (behind, same)) = subst (λ k. owns_of (passes_in k) worker ≡ []) same (none worker)

  -- the same lists, by other names
  pub made_as : (n m : ℕ) (objects more : List (AnyObject N H)) (all columns : List (AnyColumn N)) → n ≡ m → objects ≡ more → all ≡ columns → AreMade at home workers plan n more columns → AreMade at home workers plan m objects all
  made_as n m objects more all columns count one other made =
      subst (λ k. AreMade at home workers plan k objects all) count
      (subst (λ (l : List (AnyObject N H)). AreMade at home workers plan n l all) (sym one)
      (subst (λ (l : List (AnyColumn N)). AreMade at home workers plan n more l) (sym other) made))

  module _ (objects : List (AnyObject N H)) (all : List (AnyColumn N)) (made : AreMade at home workers plan (object_count plan) objects all) where
    pub all_declared : workers ≡ plan.workers → AreDeclared at home plan objects
    all_declared same = record {
      count = made.objects_count;
      stops = λ object found. subst (λ n. IsStopOf at home n object) same (made.stops object found);
      each = made.declared;
      parts = made.parts;
      starts = made.starts;
    }

    pub all_columns : AreColumns at home workers workers objects all
    all_columns = record { sized = made.columns_count ∙ sym made.objects_count; each = made.columns }

    pub all_nothing : MadeNothingFrom 0 all
    all_nothing object worker low = by_case (slice_get_cases all object).1 where
      by_case : ((c : AnyColumn N) × (object < length all) × (slice_get all object ≡ Some c) × (get_or all object c ≡ c)) ⊎ ((length all ≤ object) × (slice_get all object ≡ None)) → made_on all object worker ≡ []
      by_case (inl (c, within, found, is)) = ap (λ (k : AnyColumn N). owns_of (passes_in k) worker) (get_or_from_slice_get all object c (columns.None 0) found) ∙ made.nothing object c worker found
      by_case (inr (past, none)) = ap (λ (k : AnyColumn N). owns_of (passes_in k) worker) (get_or_past all object (columns.None 0) past)
