-- Going along the columns of all objects, one after the other.
use Rattle.std.proofs.Common.{◌≡◌, ◌⊎◌, inl, inr, ℕ, ◌+◌, ◌<◌, ◌≤◌, List, [], ◌∷◌, ◌++◌, length, get_or, Some, slice_get, sym, ap, ◌∙◌, subst, arith}
use Rattle.std.specs.Prelude.{slice_set}
use Rattle.std.proofs.lemmas.Bool.{cases_lt}
use Rattle.std.proofs.lemmas.List.{length-set, get_or-set_same, get_or-set_other, get_or_append_left}
use Rattle.std.proofs.Math.Seq.{get_or-append_seam}
use Rattle.std.proofs.lemmas.Option.{slice_get_within}
use Rattle.thread_objects.specs.declared.column.AnyColumn.{AnyColumn}
use Rattle.thread_objects.specs.declared.column.AnyColumn.TheVariants as columns
use Rattle.thread_objects.specs.declared.object.AnyObject.{AnyObject}
use Rattle.thread_objects.specs.declared.pass.AnyPass.{AnyPass}
use Rattle.thread_objects.specs.declared.pass.AnyPass.TheVariants as passes
use Rattle.thread_objects.specs.ByKind.{passes_in}
use Rattle.thread_objects.specs.Columns.{IsColumnOf}
use Rattle.thread_objects.specs.Passes.{IsSeatAt}
use Rattle.thread_objects.specs.Rows.{AreColumns}
use Rattle.thread_objects.proofs.ColumnLists.{added_at, set_other, got}

module _ {N : Type 0} where
  abbrev pub column_at : List (AnyColumn N) → ℕ → AnyColumn N
  column_at all n = get_or all n (columns.None 0)

  abbrev pub pass_at : List (AnyPass N) → ℕ → AnyPass N
  pass_at row n = get_or row n passes.None

module _ {N H : Type 0} (at : H → N → Type 0) (home : H) (workers : ℕ) (objects : List (AnyObject N H)) (old : List (AnyColumn N)) where
  -- the columns of the first objects have the passes of so many workers now, and each is one pass from what it was; the others are as they were
  pub record WentTo (count : ℕ) (more less : List (AnyColumn N)) (all : List (AnyColumn N)) (row : List (AnyPass N)) (i : ℕ) : Type 0 where
    pub sized : length all ≡ length old
    pub rest : (n : ℕ) → i ≤ n → slice_get all n ≡ slice_get old n
    pub each : (n : ℕ) (object : AnyObject N H) → n < i → slice_get objects n ≡ Some object → IsColumnOf at home workers count object (column_at all n)
    pub dealt : (n : ℕ) → n < i → passes_in (column_at more n) ≡ passes_in (column_at less n) ++ pass_at row n ∷ []

  same_object : (n : ℕ) (a b : AnyObject N H) → slice_get objects n ≡ Some a → slice_get objects n ≡ Some b → a ≡ b
  same_object n a b at_a at_b = sym (got objects n a a at_a) ∙ got objects n b a at_b

  module _ (i : ℕ) (all : List (AnyColumn N)) (new : AnyColumn N) (inside : i < length all) where
    now_at : column_at (slice_set all i new) i ≡ new
    now_at = get_or-set_same all i new (columns.None 0) inside

    was_at : (n : ℕ) → n < i → column_at (slice_set all i new) n ≡ column_at all n
    was_at n before = get_or-set_other all i n new (columns.None 0) (λ e. omega (arith, e, before))

    each_more : (count : ℕ) (object : AnyObject N H) → slice_get objects i ≡ Some object → IsColumnOf at home workers count object new
        → ((n : ℕ) (other : AnyObject N H) → n < i → slice_get objects n ≡ Some other → IsColumnOf at home workers count other (column_at all n))
        → (n : ℕ) (other : AnyObject N H) → n < i + 1 → slice_get objects n ≡ Some other → IsColumnOf at home workers count other (column_at (slice_set all i new) n)
    each_more count object here is each n other before there = by_case (cases_lt n i) where
      by_case : (n < i) ⊎ (i ≤ n) → IsColumnOf at home workers count other (column_at (slice_set all i new) n)
      by_case (inl first) = subst (λ (c : AnyColumn N). IsColumnOf at home workers count other c) (sym (was_at n first)) (each n other first there)
      by_case (inr last) =
          let e : i ≡ n = omega (arith, before, last) in
          subst (λ (k : ℕ). IsColumnOf at home workers count other (column_at (slice_set all i new) k)) e
          (subst (λ (c : AnyColumn N). IsColumnOf at home workers count other c) (sym now_at)
          (subst (λ (o : AnyObject N H). IsColumnOf at home workers count o new) (same_object n object other (subst (λ (k : ℕ). slice_get objects k ≡ Some object) e here) there) is))

    rest_more : ((n : ℕ) → i ≤ n → slice_get all n ≡ slice_get old n) → (n : ℕ) → i + 1 ≤ n → slice_get (slice_set all i new) n ≡ slice_get old n
    rest_more rest n beyond = set_other all i n new (λ e. absurd (omega (arith, e, beyond))) ∙ rest n (omega (arith, beyond))

    -- a pass more was dealt
    pub dealt_more : (count : ℕ) (object : AnyObject N H) (was : AnyColumn N) (pass : AnyPass N) (row : List (AnyPass N)) → length row ≡ i → slice_get objects i ≡ Some object → slice_get all i ≡ Some was → IsColumnOf at home workers count object new → passes_in was ≡ passes_in new ++ pass ∷ []
        → WentTo count old all all row i → WentTo count old (slice_set all i new) (slice_set all i new) (row ++ pass ∷ []) (i + 1)
    dealt_more count object was pass row row_sized here there is parts went = record {
      sized = length-set all i new ∙ went.sized;
      rest = rest_more went.rest;
      each = each_more count object here is went.each;
      dealt = λ n before. by_case n before (cases_lt n i);
    } where
      by_case : (n : ℕ) → n < i + 1 → (n < i) ⊎ (i ≤ n) → passes_in (column_at old n) ≡ passes_in (column_at (slice_set all i new) n) ++ pass_at (row ++ pass ∷ []) n ∷ []
      by_case n before (inl first) =
          subst (λ (c : AnyColumn N). passes_in (column_at old n) ≡ passes_in c ++ pass_at (row ++ pass ∷ []) n ∷ []) (sym (was_at n first))
          (subst (λ (p : AnyPass N). passes_in (column_at old n) ≡ passes_in (column_at all n) ++ p ∷ []) (sym (get_or_append_left row (pass ∷ []) passes.None n (omega (arith, first, row_sized)))) (went.dealt n first))
      by_case n before (inr last) =
          let e : i ≡ n = omega (arith, before, last) in
          let added : pass_at (row ++ pass ∷ []) i ≡ pass = subst (λ (k : ℕ). pass_at (row ++ pass ∷ []) k ≡ pass) row_sized (get_or-append_seam row pass [] passes.None) in
          subst (λ (k : ℕ). passes_in (column_at old k) ≡ passes_in (column_at (slice_set all i new) k) ++ pass_at (row ++ pass ∷ []) k ∷ []) e
          (subst (λ (c : AnyColumn N). passes_in (column_at old i) ≡ passes_in c ++ pass_at (row ++ pass ∷ []) i ∷ []) (sym now_at)
          (subst (λ (p : AnyPass N). passes_in (column_at old i) ≡ passes_in new ++ p ∷ []) (sym added)
          (ap (λ (c : AnyColumn N). passes_in c) (got old i was (columns.None 0) (sym (went.rest i (omega arith)) ∙ there)) ∙ parts)))

    -- a pass more was put back
    pub put_more : (count : ℕ) (object : AnyObject N H) (was : AnyColumn N) (row : List (AnyPass N)) → slice_get objects i ≡ Some object → slice_get all i ≡ Some was → IsColumnOf at home workers count object new → passes_in new ≡ passes_in was ++ pass_at row i ∷ []
        → WentTo count all old all row i → WentTo count (slice_set all i new) old (slice_set all i new) row (i + 1)
    put_more count object was row here there is parts went = record {
      sized = length-set all i new ∙ went.sized;
      rest = rest_more went.rest;
      each = each_more count object here is went.each;
      dealt = λ n before. by_case n before (cases_lt n i);
    } where
      by_case : (n : ℕ) → n < i + 1 → (n < i) ⊎ (i ≤ n) → passes_in (column_at (slice_set all i new) n) ≡ passes_in (column_at old n) ++ pass_at row n ∷ []
      by_case n before (inl first) = ap (λ (c : AnyColumn N). passes_in c) (was_at n first) ∙ went.dealt n first
      by_case n before (inr last) =
          let e : i ≡ n = omega (arith, before, last) in
          let back : column_at old i ≡ was = got old i was (columns.None 0) (sym (went.rest i (omega arith)) ∙ there) in
          subst (λ (k : ℕ). passes_in (column_at (slice_set all i new) k) ≡ passes_in (column_at old k) ++ pass_at row k ∷ []) e
          (ap (λ (c : AnyColumn N). passes_in c) now_at ∙ (parts ∙ ap (λ (c : AnyColumn N). passes_in c ++ pass_at row i ∷ []) (sym back)))

  -- all of them
  pub columns_of : (count : ℕ) (more less : List (AnyColumn N)) (all : List (AnyColumn N)) (row : List (AnyPass N)) → length old ≡ length objects → WentTo count more less all row (length objects) → AreColumns at home workers count objects all
  columns_of count more less all row sized went = record {
    sized = went.sized ∙ sized;
    each = λ n object column here there. subst (λ (c : AnyColumn N). IsColumnOf at home workers count object c) (got all n column (columns.None 0) there) (went.each n object (slice_get_within objects n object here) here);
  }

-- the passes of one worker, so far
module _ {N H : Type 0} (at : H → N → Type 0) (home : H) (workers worker : ℕ) (objects : List (AnyObject N H)) where
  abbrev pub AreSo : List (AnyPass N) → Type 0
  AreSo row = (n : ℕ) (object : AnyObject N H) (pass : AnyPass N) → slice_get objects n ≡ Some object → slice_get row n ≡ Some pass → IsSeatAt at home workers worker object pass

  pub seats_more : (row : List (AnyPass N)) (object : AnyObject N H) (pass : AnyPass N) → slice_get objects (length row) ≡ Some object → IsSeatAt at home workers worker object pass → AreSo row → AreSo (row ++ pass ∷ [])
  seats_more row object pass here seat so n other p at_other at_pass = by_case (added_at row pass p n at_pass) where
    by_case : (slice_get row n ≡ Some p) ⊎ ((n ≡ length row) × (pass ≡ p)) → IsSeatAt at home workers worker other p
    by_case (inl before) = so n other p at_other before
    by_case (inr behind) =
        let there : slice_get objects (length row) ≡ Some other = subst (λ (k : ℕ). slice_get objects k ≡ Some other) behind.0 at_other in
        let same : object ≡ other = sym (got objects (length row) object object here) ∙ got objects (length row) other object there in
        subst (λ (x : AnyPass N). IsSeatAt at home workers worker other x) behind.1 (subst (λ (o : AnyObject N H). IsSeatAt at home workers worker o pass) same seat)
