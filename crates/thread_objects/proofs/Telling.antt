-- The journals of the objects so far.
use Rattle.std.proofs.Common.{◌≡◌, ◌⊎◌, inl, inr, ℕ, ◌+◌, ◌<◌, ◌≤◌, true, List, [], ◌∷◌, ◌++◌, length, get_or, Option, Some, None, slice_get, refl, sym, ap, ◌∙◌, subst, arith, length-append}
use Rattle.std.proofs.lemmas.Bool.{cases_lt}
use Rattle.std.proofs.lemmas.List.{get_or_append_left}
use Rattle.std.proofs.Math.Seq.{get_or-append_seam}
use Rattle.std.proofs.lemmas.Option.{none-some, slice_get_cases, slice_get_past, slice_get_within}
use Rattle.sync_types.specs.declared.misuse.Misuse.{Misuse}
use Rattle.sync_model.specs.Journal.{by, halt_of, TimesRise}
use Rattle.workload.specs.declared.object.ObjectKind.TheVariants as kinds
use Rattle.workload.specs.declared.object.ObjectLine.{ObjectLine}
use Rattle.workload.specs.Plan.{Plan, has_dormant}
use Rattle.run_record.specs.Objects.{first_part, object_count, starts_number}
use Rattle.run_record.specs.Record.{ObjectEntry, stop, object_number}
use Rattle.thread_objects.specs.declared.column.AnyColumn.{AnyColumn}
use Rattle.thread_objects.specs.declared.column.AnyColumn.TheVariants as columns
use Rattle.thread_objects.specs.declared.object.AnyObject.{AnyObject}
use Rattle.thread_objects.specs.AsDeclared.{AreDeclared}
use Rattle.thread_objects.specs.ByKind.{passes_in}
use Rattle.thread_objects.specs.Columns.{AreParts, IsJournalAt}
use Rattle.thread_objects.specs.Rows.{AreJournals, made_on}
use Rattle.thread_objects.proofs.ColumnLemmas.{IsTold}
use Rattle.thread_objects.proofs.ColumnLists.{got, got_none, there_is}
use Rattle.thread_objects.proofs.DeclaredJournals.{of_declared, of_part, of_starts, of_stop}

module _ {N H : Type 0} (objects : List (AnyObject N H)) (all : List (AnyColumn N)) where
  -- the journals of the first objects, by the columns that were there at the start
  pub record ToldTo (stopped : Option Misuse) (i : ℕ) : Type 0 where
    pub journals : List (List ObjectEntry)
    pub count : length journals ≡ i
    pub stops : stopped ≡ halt_of (get_or journals stop [])
    pub each : (n : ℕ) (object : AnyObject N H) (column : AnyColumn N) → n < i → slice_get objects n ≡ Some object → slice_get all n ≡ Some column
        → IsJournalAt object (get_or journals n []) × AreParts (get_or journals n []) (passes_in column)
    pub times : (n : ℕ) → TimesRise (get_or journals n [])

  abbrev Told : ℕ → List ObjectEntry → Type 0
  Told n journal = (object : AnyObject N H) (column : AnyColumn N) → slice_get objects n ≡ Some object → slice_get all n ≡ Some column → IsJournalAt object journal × AreParts journal (passes_in column)

  -- the numbers of the journal's entries rise
  abbrev Times : List ObjectEntry → Type 0
  Times journal = TimesRise journal

  no_times : Times []
  no_times i j x y before first second = absurd (none-some x first)

  told_by : (n : ℕ) (known : AnyObject N H) (those : AnyColumn N) (journal : List ObjectEntry) → slice_get objects n ≡ Some known → slice_get all n ≡ Some those → IsJournalAt known journal → AreParts journal (passes_in those) → Told n journal
  told_by n known those journal at_object at_column is parts object column here there =
      let same_object : object ≡ known = sym (got objects n object object here) ∙ got objects n known object at_object in
      let same_column : column ≡ those = sym (got all n column column there) ∙ got all n those column at_column in
      (subst (λ (o : AnyObject N H). IsJournalAt o journal) (sym same_object) is, subst (λ (c : AnyColumn N). AreParts journal (passes_in c)) (sym same_column) parts)

  pub told_first : (result : Option Misuse) (known : AnyObject N H) (those : AnyColumn N) → slice_get objects 0 ≡ Some known → slice_get all 0 ≡ Some those → IsTold (IsJournalAt known) result (passes_in those) → ToldTo result 1
  told_first result known those at_object at_column history = record {
    journals = history.journal ∷ [];
    count = refl;
    stops = history.halted;
    times = λ n. by_case n (slice_get_cases (history.journal ∷ []) n).1;
    each = λ n object column before here there. let e : n ≡ 0 = omega (arith, before) in
        subst (λ (k : ℕ). IsJournalAt object (get_or (history.journal ∷ []) k []) × AreParts (get_or (history.journal ∷ []) k []) (passes_in column)) (sym e)
        (told_by 0 known those history.journal at_object at_column history.of history.parts object column (subst (λ (k : ℕ). slice_get objects k ≡ Some object) e here) (subst (λ (k : ℕ). slice_get all k ≡ Some column) e there));
  } where
    by_case : (n : ℕ) → ((x : List ObjectEntry) × (n < 1) × (slice_get (history.journal ∷ []) n ≡ Some x) × (get_or (history.journal ∷ []) n x ≡ x)) ⊎ ((1 ≤ n) × (slice_get (history.journal ∷ []) n ≡ None)) → Times (get_or (history.journal ∷ []) n [])
    by_case n (inl (x, within, at, is)) = let e : n ≡ 0 = omega (arith, within) in subst (λ (k : ℕ). Times (get_or (history.journal ∷ []) k [])) (sym e) history.times
    by_case n (inr (past, none)) = subst Times (sym (got_none (history.journal ∷ []) n [] none)) no_times

  module _ (stopped result : Option Misuse) (i : ℕ) (known : AnyObject N H) (those : AnyColumn N) (some : 0 < i) (told : ToldTo stopped i) (at_object : slice_get objects i ≡ Some known) (at_column : slice_get all i ≡ Some those) (history : IsTold (IsJournalAt known) result (passes_in those)) where
    abbrev more : List (List ObjectEntry)
    more = told.journals ++ history.journal ∷ []

    stays : (n : ℕ) → n < length told.journals → get_or more n [] ≡ get_or told.journals n []
    stays n within = get_or_append_left told.journals (history.journal ∷ []) [] n within

    last : get_or more i [] ≡ history.journal
    last = subst (λ (k : ℕ). get_or more k [] ≡ history.journal) told.count (get_or-append_seam told.journals history.journal [] [])

    abbrev At : (object : AnyObject N H) (column : AnyColumn N) → List ObjectEntry → Type 0
    At object column journal = IsJournalAt object journal × AreParts journal (passes_in column)

    by_case : (n : ℕ) (object : AnyObject N H) (column : AnyColumn N) → slice_get objects n ≡ Some object → slice_get all n ≡ Some column
        → ((x : List ObjectEntry) × (n < length told.journals) × (slice_get told.journals n ≡ Some x) × (get_or told.journals n x ≡ x)) ⊎ ((length told.journals ≤ n) × (slice_get told.journals n ≡ None)) → n < i + 1 → At object column (get_or more n [])
    by_case n object column here there (inl (x, within, at, is)) before = subst (At object column) (sym (stays n within)) (told.each n object column (omega (arith, within, told.count)) here there)
    by_case n object column here there (inr (past, none)) before =
        let e : n ≡ i = omega (arith, past, told.count, before) in
        subst (λ (k : ℕ). At object column (get_or more k [])) (sym e) (subst (At object column) (sym last)
        (told_by i known those history.journal at_object at_column history.of history.parts object column (subst (λ (k : ℕ). slice_get objects k ≡ Some object) e here) (subst (λ (k : ℕ). slice_get all k ≡ Some column) e there)))

    times_more : (n : ℕ) → ((x : List ObjectEntry) × (n < length told.journals) × (slice_get told.journals n ≡ Some x) × (get_or told.journals n x ≡ x)) ⊎ ((length told.journals ≤ n) × (slice_get told.journals n ≡ None)) → Times (get_or more n [])
    times_more n (inl (x, within, at, is)) = subst Times (sym (stays n within)) (told.times n)
    times_more n (inr (past, none)) = elim (cases_lt i n) [
      | inl beyond ↦ subst Times (sym (got_none more n [] (slice_get_past more n (omega (arith, beyond, told.count, length-append told.journals (history.journal ∷ [])))))) no_times
      | inr low ↦ let e : n ≡ i = omega (arith, past, told.count, low) in subst (λ (k : ℕ). Times (get_or more k [])) (sym e) (subst Times (sym last) history.times)
    ]

    -- and of one more
    pub told_more : ToldTo stopped (i + 1)
    told_more = record {
      journals = more;
      count = length-append told.journals (history.journal ∷ []) ∙ ap (λ n. n + 1) told.count;
      stops = told.stops ∙ ap (λ (j : List ObjectEntry). halt_of j) (sym (stays 0 (omega (arith, some, told.count))));
      times = λ n. times_more n (slice_get_cases told.journals n).1;
      each = λ n object column before here there. by_case n object column here there (slice_get_cases told.journals n).1 before;
    }

  -- the journals of all objects
  module _ (at : H → N → Type 0) (home : H) (plan : Plan) (stopped : Option Misuse) (declared : AreDeclared at home plan objects) (sized : length all ≡ length objects) (told : ToldTo stopped (length objects)) where
    pub are_journals : ((place part : ℕ) (line : ObjectLine) → slice_get plan.objects place ≡ Some line → line.kind ≡ kinds.Pool → part < plan.workers → first_part plan place + part < starts_number plan)
        → (has_dormant plan ≡ true → object_count plan ≡ starts_number plan + 1) → AreJournals plan told.journals
    are_journals rooms last = record {
      count = told.count ∙ declared.count;
      times = told.times;
      stops =
          let within : stop < length objects = omega (arith, declared.count) in
          let object = there_is objects stop within in
          let column = there_is all stop (omega (arith, sized, within)) in
          of_stop at home plan 0 (get_or told.journals stop []) plan.workers object.0 (declared.stops object.0 object.1) (told.each stop object.0 column.0 within object.1 column.1).0;
      each = λ place line here.
          let inside = slice_get_within plan.objects place line here in
          let within : object_number place < length objects = omega (arith, declared.count, inside) in
          let object = there_is objects (object_number place) within in
          let column = there_is all (object_number place) (omega (arith, sized, within)) in
          of_declared at home plan place (get_or told.journals (object_number place) []) line.kind object.0 (declared.each place line object.0 here object.1) (told.each (object_number place) object.0 column.0 within object.1 column.1).0;
      parts = λ place part line here pool below.
          let within : first_part plan place + part < length objects = omega (arith, declared.count, rooms place part line here pool below) in
          let object = there_is objects (first_part plan place + part) within in
          let column = there_is all (first_part plan place + part) (omega (arith, sized, within)) in
          of_part at home plan place (get_or told.journals (first_part plan place + part) []) object.0 (declared.parts place part line object.0 here pool below object.1) (told.each (first_part plan place + part) object.0 column.0 within object.1 column.1).0;
      starts = λ waits.
          let within : starts_number plan < length objects = omega (arith, declared.count, last waits) in
          let object = there_is objects (starts_number plan) within in
          let column = there_is all (starts_number plan) (omega (arith, sized, within)) in
          of_starts at home plan (get_or told.journals (starts_number plan) []) object.0 (declared.starts object.0 waits object.1) (told.each (starts_number plan) object.0 column.0 within object.1 column.1).0;
    }

    pub are_parts : (object worker : ℕ) → made_on all object worker ≡ by worker (get_or told.journals object [])
    are_parts n worker = by_case (slice_get_cases all n).1 where
      by_case : ((x : AnyColumn N) × (n < length all) × (slice_get all n ≡ Some x) × (get_or all n x ≡ x)) ⊎ ((length all ≤ n) × (slice_get all n ≡ None)) → made_on all n worker ≡ by worker (get_or told.journals n [])
      by_case (inl (column, within, some, is)) =
          let object = there_is objects n (omega (arith, sized, within)) in
          ap (λ (c : AnyColumn N). made_on (c ∷ []) 0 worker) (got all n column (columns.None 0) some) ∙ (told.each n object.0 column (omega (arith, sized, within)) object.1 some).1 worker
      by_case (inr (past, none)) =
          ap (λ (c : AnyColumn N). made_on (c ∷ []) 0 worker) (got_none all n (columns.None 0) none) ∙ sym (ap (λ (j : List ObjectEntry). by worker j) (got_none told.journals n [] (slice_get_past told.journals n (omega (arith, sized, past, told.count)))))
