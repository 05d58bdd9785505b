-- The entries of an object in a worker's list, and the same in the object's journal.
use Rattle.std.proofs.Common.{◌≡◌, ℕ, zero, suc, ◌<◌, ◌==◌, Bool, true, false, cond, List, [], ◌∷◌, ◌++◌, length, Some, slice_get, refl, sym, ap, ◌∙◌, subst, arith}
use Rattle.std.proofs.lemmas.Bool.{false≢true, eqb-true, eq-eqb}
use Rattle.std.proofs.lemmas.Option.{same_Some}
use Rattle.sync_model.specs.Journal.{by}
use Rattle.run_record.specs.declared.made.Made.{Made}
use Rattle.run_record.specs.declared.made.Made.TheVariants.{Shared, Entered}
use Rattle.run_record.specs.Record.{ObjectEntry, entries_in}

module _ (object : ℕ) where
  pub entries_both : (xs ys : List Made) → entries_in object (xs ++ ys) ≡ entries_in object xs ++ entries_in object ys
  entries_both [] ys = refl
  entries_both (Shared x ∷ xs) ys = entries_both xs ys
  entries_both (Entered other entry ∷ xs) ys = chosen (other == object) (entries_both xs ys) where
    chosen : (b : Bool) → entries_in object (xs ++ ys) ≡ entries_in object xs ++ entries_in object ys
        → cond b (entry ∷ entries_in object (xs ++ ys)) (entries_in object (xs ++ ys)) ≡ cond b (entry ∷ entries_in object xs) (entries_in object xs) ++ entries_in object ys
    chosen true is = ap (λ (es : List ObjectEntry). entry ∷ es) is
    chosen false is = is

  pub entries_first : (entry : ObjectEntry) (xs : List Made) → entries_in object (Entered object entry ∷ xs) ≡ entry ∷ entries_in object xs
  entries_first entry xs = ap (λ (b : Bool). cond b (entry ∷ entries_in object xs) (entries_in object xs)) (eq-eqb object object refl)

  -- the entries of a list that is cut at two of them
  pub entries_cut : (earlier between later : List Made) (first second : ObjectEntry)
      → entries_in object (earlier ++ Entered object first ∷ (between ++ Entered object second ∷ later)) ≡ entries_in object earlier ++ first ∷ (entries_in object between ++ second ∷ entries_in object later)
  entries_cut earlier between later first second =
      entries_both earlier (Entered object first ∷ (between ++ Entered object second ∷ later))
      ∙ ap (λ (es : List ObjectEntry). entries_in object earlier ++ es)
      (entries_first first (between ++ Entered object second ∷ later)
      ∙ ap (λ (es : List ObjectEntry). first ∷ es) (entries_both between (Entered object second ∷ later) ∙ ap (λ (es : List ObjectEntry). entries_in object between ++ es) (entries_first second later)))

module _ (worker : ℕ) where
  -- where an entry of the worker stands in a journal, and what of the worker's stands before and behind it
  pub record StandsIn (journal earlier : List ObjectEntry) (entry : ObjectEntry) (later : List ObjectEntry) : Type 0 where
    pub place : ℕ
    pub rest : List ObjectEntry
    pub at : slice_get journal place ≡ Some entry
    pub caller : entry.caller ≡ worker
    pub own : by worker rest ≡ later
    pub before : (i : ℕ) (x : ObjectEntry) → i < place → slice_get journal i ≡ Some x → x.caller ≡ worker → (k : ℕ) × (slice_get earlier k ≡ Some x)
    pub behind : (i : ℕ) (x : ObjectEntry) → slice_get rest i ≡ Some x → (n : ℕ) × (place < n) × (slice_get journal n ≡ Some x)

  heads : (x entry : ObjectEntry) (xs ys : List ObjectEntry) → x ∷ xs ≡ entry ∷ ys → (x ≡ entry) × (xs ≡ ys)
  heads x entry xs ys is = (ap head is, ap tail is) where
    head : List ObjectEntry → ObjectEntry
    head [] = x
    head (z ∷ zs) = z

    tail : List ObjectEntry → List ObjectEntry
    tail [] = []
    tail (z ∷ zs) = zs

  -- the same, where one more entry stands in front: another's, or the worker's own
  further : (x entry : ObjectEntry) (journal front earlier later : List ObjectEntry) → ((k : ℕ) (y : ObjectEntry) → slice_get front k ≡ Some y → (n : ℕ) × (slice_get earlier n ≡ Some y)) → (x.caller ≡ worker → (k : ℕ) × (slice_get earlier k ≡ Some x))
      → StandsIn journal front entry later → StandsIn (x ∷ journal) earlier entry later
  further x entry journal front earlier later deeper first is = record {
    place = suc is.place;
    rest = is.rest;
    at = is.at;
    caller = is.caller;
    own = is.own;
    before = before;
    behind = λ i y at. let found = is.behind i y at in let above = found.1 in (suc found.0, omega (arith, above), found.2);
  } where
    before : (i : ℕ) (y : ObjectEntry) → i < suc is.place → slice_get (x ∷ journal) i ≡ Some y → y.caller ≡ worker → (k : ℕ) × (slice_get earlier k ≡ Some y)
    before zero y below at mine =
        let same : x ≡ y = same_Some x y at in
        subst (λ (e : ObjectEntry). (k : ℕ) × (slice_get earlier k ≡ Some e)) same (first (ap (λ (e : ObjectEntry). e.caller) same ∙ mine))
    before (suc i) y below at mine = let found = is.before i y (omega (arith, below)) at mine in deeper found.0 y found.1

  pub stands : (journal earlier later : List ObjectEntry) (entry : ObjectEntry) → by worker journal ≡ earlier ++ entry ∷ later → StandsIn journal earlier entry later
  stands [] [] later entry is = absurd (omega (arith, ap (λ (es : List ObjectEntry). length es) is))
  stands [] (e ∷ earlier) later entry is = absurd (omega (arith, ap (λ (es : List ObjectEntry). length es) is))
  stands (x ∷ journal) earlier later entry is = by_caller (λ front own. stands journal front later entry own) (x.caller == worker) refl earlier is where
    by_caller : ((front : List ObjectEntry) → by worker journal ≡ front ++ entry ∷ later → StandsIn journal front entry later) → (b : Bool) → (x.caller == worker) ≡ b → (front : List ObjectEntry)
        → cond b (x ∷ by worker journal) (by worker journal) ≡ front ++ entry ∷ later → StandsIn (x ∷ journal) front entry later
    by_caller on false other front own = further x entry journal front front later (λ k y at. (k, at)) (λ mine. absurd (false≢true (sym other ∙ eq-eqb x.caller worker mine))) (on front own)
    by_caller on true mine (e ∷ front) own =
        let same = heads x e (by worker journal) (front ++ entry ∷ later) own in
        further x entry journal front (e ∷ front) later (λ k y at. (suc k, at)) (λ own_one. (0, ap (λ (y : ObjectEntry). Some y) (sym same.0))) (on front same.1)
    by_caller on true mine [] own =
        let same = heads x entry (by worker journal) later own in
        record {
          place = zero;
          rest = journal;
          at = ap (λ (e : ObjectEntry). Some e) same.0;
          caller = sym (ap (λ (e : ObjectEntry). e.caller) same.0) ∙ eqb-true x.caller worker mine;
          own = same.1;
          before = λ i y below at own_one. absurd (omega (arith, below));
          behind = λ i y at. (suc i, omega arith, at);
        }
