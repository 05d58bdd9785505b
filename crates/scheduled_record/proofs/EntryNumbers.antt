-- The numbers of entries in their journals: they rise along each list, and are those that entries are told.
use Rattle.std.proofs.Common.{◌≡◌, ℕ, zero, suc, ◌+◌, ◌<◌, ◌==◌, Bool, true, false, cond, List, [], ◌∷◌, map, Some, slice_get, inl, inr, refl, sym, ap, ◌∙◌, subst, arith}
use Rattle.std.specs.List.{AllByRecursion}
use Rattle.std.proofs.lemmas.Bool.{eqb-true}
use Rattle.std.proofs.lemmas.Bool.Decides.{eqb_tells, leb_tells}
use Rattle.std.proofs.lemmas.Option.{none-some, same_Some}
use Rattle.sync_model.specs.Journal.{by, TimesRise}
use Rattle.run_record.specs.declared.made.Made.{Made}
use Rattle.run_record.specs.declared.made.Made.TheVariants.{Shared, Entered}
use Rattle.run_record.specs.Record.{ObjectEntry, entries_in}
use Rattle.record_clauses.specs.Journals.{numbered_from}
use Rattle.record_clauses.specs.Lists.{numbered, numbered_in}
use Rattle.kept_record.specs.Keeping.{Act, entries_on}
use Rattle.scheduled_record.specs.ToldItems.{ToldAct, number_of}
use Rattle.scheduled_record.specs.ToldLists.{told_item}
use Rattle.scheduled_record.proofs.ToldNumbers.{StandsIn}

module _ (journal : List ObjectEntry) (rise : TimesRise journal) where
  -- no entry stands at two places
  same_place : (n m : ℕ) (x : ObjectEntry) → slice_get journal n ≡ Some x → slice_get journal m ≡ Some x → n ≡ m
  same_place n m x at_n at_m = elim (eqb_tells n m) [
    | inl same ↦ same.1
    | inr apart ↦ elim (leb_tells n m) [
      | inl most ↦ (let less : n < m = omega (arith, most.1, apart.1) in absurd (omega (arith, rise n m x x less at_n at_m)))
      | inr more ↦ absurd (omega (arith, rise m n x x more.1 at_m at_n))
    ]
  ]

  -- a later entry has a greater number
  pub later_number : (x y : ObjectEntry) → slice_get journal x.knew ≡ Some x → slice_get journal y.knew ≡ Some y → x.time < y.time → x.knew < y.knew
  later_number x y at_x at_y before = elim (leb_tells y.knew x.knew) [
    | inr less ↦ less.1
    | inl most ↦ (elim (eqb_tells y.knew x.knew) [
      | inl same ↦ (let times : x.time ≡ y.time = ap (λ (e : ObjectEntry). e.time) (same_Some x y (sym at_x ∙ (ap (slice_get journal) (sym same.1) ∙ at_y))) in absurd (omega (arith, times, before)))
      | inr apart ↦ (let less : y.knew < x.knew = omega (arith, most.1, apart.1) in absurd (omega (arith, rise y.knew x.knew y x less at_y at_x, before)))
    ])
  ]

-- ---- of all entries of a journal

module _ (object : ℕ) (whole : List Act) where
  -- each stands at its number
  abbrev Found : List ObjectEntry → Type 0
  Found entries = (k : ℕ) (x : ObjectEntry) → slice_get entries k ≡ Some x → slice_get (entries_on object whole) x.knew ≡ Some x

  one_found : (made : Made) (acts : List Act) → StandsIn whole made → Found (entries_on object acts) → Found (entries_in object (made ∷ map (λ (a : Act). a.made) acts))
  one_found (Shared item) acts here later = later
  one_found (Entered other entry) acts here later = chosen (other == object) refl where
    own : other ≡ object → slice_get (entries_on object whole) entry.knew ≡ Some entry
    own same = ap (λ (o : ℕ). slice_get (entries_on o whole) entry.knew) (sym same) ∙ here

    chosen : (b : Bool) → (other == object) ≡ b → Found (cond b (entry ∷ entries_on object acts) (entries_on object acts))
    chosen true is zero x at = subst (λ (e : ObjectEntry). slice_get (entries_on object whole) e.knew ≡ Some e) (same_Some entry x at) (own (eqb-true other object is))
    chosen true is (suc k) x at = later k x at
    chosen false is k x at = later k x at

  all_found : (acts : List Act) → AllByRecursion (λ (act : Act). StandsIn whole act.made) acts → Found (entries_on object acts)
  all_found [] all k x at = absurd (none-some x at)
  all_found (act ∷ acts) all k x at = one_found act.made acts all.0 (all_found acts all.1) k x at

pub numbers_are : (object : ℕ) (acts : List Act) → AllByRecursion (λ (act : Act). StandsIn acts act.made) acts → TimesRise (entries_on object acts) → (k : ℕ) (x : ObjectEntry) → slice_get (entries_on object acts) k ≡ Some x → x.knew ≡ k
numbers_are object acts all rise k x at = same_place (entries_on object acts) rise x.knew k x (all_found object acts acts all k x at) at

-- ---- as they are told

abbrev pub with_number : ObjectEntry → ℕ × ObjectEntry
with_number x = (x.knew, x)

pub numbers_told : (object : ℕ) (told : List ToldAct) → numbered_in object (map told_item told) ≡ map with_number (entries_in object (map (λ (t : ToldAct). t.act.made) told))
numbers_told object [] = refl
numbers_told object (t ∷ told) = onward t.act.made (numbers_told object told) where
  onward : (made : Made) → numbered_in object (map told_item told) ≡ map with_number (entries_in object (map (λ (t : ToldAct). t.act.made) told))
      → numbered object (number_of made) made (numbered_in object (map told_item told)) ≡ map with_number (entries_in object (made ∷ map (λ (t : ToldAct). t.act.made) told))
  onward (Shared item) later = later
  onward (Entered other entry) later = chosen (other == object) where
    chosen : (b : Bool) → cond b ((entry.knew, entry) ∷ numbered_in object (map told_item told)) (numbered_in object (map told_item told))
        ≡ map with_number (cond b (entry ∷ entries_in object (map (λ (t : ToldAct). t.act.made) told)) (entries_in object (map (λ (t : ToldAct). t.act.made) told)))
    chosen true = ap (λ (l : List (ℕ × ObjectEntry)). (entry.knew, entry) ∷ l) later
    chosen false = later

pub numbers_counted : (worker n : ℕ) (journal : List ObjectEntry) → ((k : ℕ) (x : ObjectEntry) → slice_get journal k ≡ Some x → x.knew ≡ n + k) → map with_number (by worker journal) ≡ numbered_from n worker journal
numbers_counted worker n [] each = refl
numbers_counted worker n (x ∷ journal) each =
    chosen (x.caller == worker) (let none : n + 0 ≡ n = omega arith in each 0 x refl ∙ none) (numbers_counted worker (n + 1) journal (λ k y at. let next : n + suc k ≡ n + 1 + k = omega arith in each (suc k) y at ∙ next))
  where
    chosen : (b : Bool) → x.knew ≡ n → map with_number (by worker journal) ≡ numbered_from (n + 1) worker journal
        → map with_number (cond b (x ∷ by worker journal) (by worker journal)) ≡ cond b ((n, x) ∷ numbered_from (n + 1) worker journal) (numbered_from (n + 1) worker journal)
    chosen true first later = λ i. (first i, x) ∷ later i
    chosen false first later = later
