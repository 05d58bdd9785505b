-- Lists and journals, cut at one of their items.
use Rattle.std.proofs.Common.{◌≡◌, ◌⊎◌, inl, inr, ℕ, zero, suc, ◌+◌, ◌<◌, ◌==◌, Bool, true, false, cond, List, [], ◌∷◌, ◌++◌, map, length, Some, slice_get, refl, sym, ap, ◌∙◌, subst, arith}
use Rattle.std.proofs.lemmas.Bool.{eqb-true, eq-eqb}
use Rattle.sync_model.specs.declared.journal.Deed.{Deed}
use Rattle.sync_model.specs.declared.journal.Deed.TheVariants.{Event, Refused, Halt}
use Rattle.sync_model.specs.declared.journal.Entry.{Entry}
use Rattle.sync_model.specs.Journal.{by, logged, log_of}
use Rattle.sync_model.specs.Log as log
use Rattle.run_record.specs.declared.made.Made.{Made}
use Rattle.run_record.specs.declared.made.Made.TheVariants.{Shared, Entered}
use Rattle.run_record.specs.Record.{ObjectEntry, entries_in}
use Rattle.run_record.proofs.JournalParts.{get_left}
use Rattle.run_record.proofs.ListLemmas.{at_length}

module _ {A : Type 0} where
  heads : (x y : A) (xs ys : List A) → x ∷ xs ≡ y ∷ ys → (x ≡ y) × (xs ≡ ys)
  heads x y xs ys is = ((cc), (cc))

  -- an item of two lists together is one of the first, or of the second
  pub split_both : (xs ys front rest : List A) (z : A) → xs ++ ys ≡ front ++ z ∷ rest → ((more : List A) × (xs ≡ front ++ z ∷ more)) ⊎ ((less : List A) × (front ≡ xs ++ less) × (ys ≡ less ++ z ∷ rest))
  split_both [] ys front rest z is = inr (front, refl, is)
  split_both (x ∷ xs) ys [] rest z is = let same = heads x z (xs ++ ys) rest is in inl (xs, ap (λ (y : A). y ∷ xs) same.0)
  split_both (x ∷ xs) ys (y ∷ front) rest z is = let same = heads x y (xs ++ ys) (front ++ z ∷ rest) is in further same.0 (split_both xs ys front rest z same.1) where
    further : x ≡ y → ((more : List A) × (xs ≡ front ++ z ∷ more)) ⊎ ((less : List A) × (front ≡ xs ++ less) × (ys ≡ less ++ z ∷ rest))
        → ((more : List A) × (x ∷ xs ≡ y ∷ (front ++ z ∷ more))) ⊎ ((less : List A) × (y ∷ front ≡ x ∷ (xs ++ less)) × (ys ≡ less ++ z ∷ rest))
    further same (inl (more, parts)) = inl (more, ap (λ (h : A). h ∷ xs) same ∙ ap (λ (l : List A). y ∷ l) parts)
    further same (inr (less, parts, behind)) = inr (less, ap (λ (l : List A). y ∷ l) parts ∙ ap (λ (h : A). h ∷ (xs ++ less)) (sym same), behind)

  -- the last item of a list that has another one: it is that one, or stands behind it
  pub last_of : (xs front rest : List A) (x y : A) → xs ++ x ∷ [] ≡ front ++ y ∷ rest → ((x ≡ y) × (rest ≡ [])) ⊎ ((less : List A) × (rest ≡ less ++ x ∷ []))
  last_of [] [] rest x y is = let same = heads x y [] rest is in inl (same.0, sym same.1)
  last_of [] (z ∷ []) rest x y is = let same = heads x z [] (y ∷ rest) is in let none = same.1 in absurd cc
  last_of [] (z ∷ (w ∷ front)) rest x y is = let same = heads x z [] (w ∷ (front ++ y ∷ rest)) is in let none = same.1 in absurd cc
  last_of (z ∷ xs) [] rest x y is = let same = heads z y (xs ++ x ∷ []) rest is in inr (xs, sym same.1)
  last_of (z ∷ xs) (w ∷ front) rest x y is = last_of xs front rest x y (heads z w (xs ++ x ∷ []) (front ++ y ∷ rest) is).1

  -- what stands at a place behind one item and before another
  pub second_at : (front mid rest : List A) (x y : A) (n : ℕ) → n ≡ length front + suc (length mid) → slice_get (front ++ x ∷ (mid ++ y ∷ rest)) n ≡ Some y
  second_at [] mid rest x y zero is = absurd (omega (arith, is))
  second_at [] mid rest x y (suc n) is = subst (λ (m : ℕ). slice_get (mid ++ y ∷ rest) m ≡ Some y) (omega (arith, is)) (at_length mid rest y)
  second_at (z ∷ front) mid rest x y zero is = absurd (omega (arith, is))
  second_at (z ∷ front) mid rest x y (suc n) is = second_at front mid rest x y n (omega (arith, is))

  pub mid_at : (front mid rest : List A) (x y : A) (k : ℕ) (z : A) (n : ℕ) → n ≡ length front + suc k → slice_get mid k ≡ Some z → slice_get (front ++ x ∷ (mid ++ y ∷ rest)) n ≡ Some z
  mid_at [] mid rest x y k z zero is at = absurd (omega (arith, is))
  mid_at [] mid rest x y k z (suc n) is at = subst (λ (m : ℕ). slice_get (mid ++ y ∷ rest) m ≡ Some z) (omega (arith, is)) (get_left mid (y ∷ rest) k z at)
  mid_at (w ∷ front) mid rest x y k z zero is at = absurd (omega (arith, is))
  mid_at (w ∷ front) mid rest x y k z (suc n) is at = mid_at front mid rest x y k z n (omega (arith, is)) at

  pub at_mid : (front mid rest : List A) (x y : A) (i : ℕ) (z : A) → slice_get (front ++ x ∷ (mid ++ y ∷ rest)) i ≡ Some z → length front < i → i < length front + suc (length mid) → (k : ℕ) × (slice_get mid k ≡ Some z)
  at_mid [] mid rest x y zero z at after before = absurd (omega (arith, after))
  at_mid [] [] rest x y (suc i) z at after before = absurd (omega (arith, before))
  at_mid [] (w ∷ mid) rest x y (suc zero) z at after before = (0, at)
  at_mid [] (w ∷ mid) rest x y (suc (suc i)) z at after before = let there = at_mid [] mid rest x y (suc i) z at (omega arith) (omega (arith, before)) in (suc there.0, there.1)
  at_mid (w ∷ front) mid rest x y zero z at after before = absurd (omega (arith, after))
  at_mid (w ∷ front) mid rest x y (suc i) z at after before = at_mid front mid rest x y i z at (omega (arith, after)) (omega (arith, before))

module _ {A B : Type 0} (f : A → B) where
  -- the items of which a cut list is made
  pub record CutMap (xs : List A) (front : List B) (y : B) (rest : List B) : Type 0 where
    pub before : List A
    pub item : A
    pub behind : List A
    pub parts : xs ≡ before ++ item ∷ behind
    pub is : f item ≡ y
    pub front_is : map f before ≡ front
    pub rest_is : map f behind ≡ rest

  pub cut_map : (xs : List A) (front rest : List B) (y : B) → map f xs ≡ front ++ y ∷ rest → CutMap xs front y rest
  cut_map [] [] rest y is = absurd cc
  cut_map [] (z ∷ front) rest y is = absurd cc
  cut_map (x ∷ xs) [] rest y is = let same = heads (f x) y (map f xs) rest is in record { before = []; item = x; behind = xs; parts = refl; is = same.0; front_is = refl; rest_is = same.1 }
  cut_map (x ∷ xs) (z ∷ front) rest y is =
      let same = heads (f x) z (map f xs) (front ++ y ∷ rest) is in
      let c = cut_map xs front rest y same.1 in
      record {
        before = x ∷ c.before;
        item = c.item;
        behind = c.behind;
        parts = ap (λ (l : List A). x ∷ l) c.parts;
        is = c.is;
        front_is = ap (λ (h : B). h ∷ map f c.before) same.0 ∙ ap (λ (l : List B). z ∷ l) c.front_is;
        rest_is = c.rest_is;
      }

  pub map_both : (xs ys : List A) → map f (xs ++ ys) ≡ map f xs ++ map f ys
  map_both [] ys = refl
  map_both (x ∷ xs) ys = ap (λ (l : List B). f x ∷ l) (map_both xs ys)

module _ {E R : Type 0} (worker : ℕ) where
  pub by_both : (xs ys : List (Entry E R)) → by worker (xs ++ ys) ≡ by worker xs ++ by worker ys
  by_both [] ys = refl
  by_both (x ∷ xs) ys = chosen (x.caller == worker) (by_both xs ys) where
    chosen : (b : Bool) → by worker (xs ++ ys) ≡ by worker xs ++ by worker ys → cond b (x ∷ by worker (xs ++ ys)) (by worker (xs ++ ys)) ≡ cond b (x ∷ by worker xs) (by worker xs) ++ by worker ys
    chosen true is = ap (λ (l : List (Entry E R)). x ∷ l) is
    chosen false is = is

  pub by_first : (x : Entry E R) (xs : List (Entry E R)) → x.caller ≡ worker → by worker (x ∷ xs) ≡ x ∷ by worker xs
  by_first x xs own = ap (λ (b : Bool). cond b (x ∷ by worker xs) (by worker xs)) (eq-eqb x.caller worker own)

  -- a journal at an entry of the worker, with what of the worker's stands before and behind it
  pub record CutBy (journal earlier : List (Entry E R)) (x : Entry E R) (later : List (Entry E R)) : Type 0 where
    pub front : List (Entry E R)
    pub rest : List (Entry E R)
    pub parts : journal ≡ front ++ x ∷ rest
    pub mine : x.caller ≡ worker
    pub before : by worker front ≡ earlier
    pub behind : by worker rest ≡ later

  pub cut_by : (journal earlier later : List (Entry E R)) (x : Entry E R) → by worker journal ≡ earlier ++ x ∷ later → CutBy journal earlier x later
  cut_by [] [] later x is = absurd cc
  cut_by [] (y ∷ earlier) later x is = absurd cc
  cut_by (y ∷ journal) earlier later x is = by_caller (λ front own. cut_by journal front later x own) (y.caller == worker) refl earlier is where
    by_caller : ((front : List (Entry E R)) → by worker journal ≡ front ++ x ∷ later → CutBy journal front x later) → (b : Bool) → (y.caller == worker) ≡ b → (front : List (Entry E R))
        → cond b (y ∷ by worker journal) (by worker journal) ≡ front ++ x ∷ later → CutBy (y ∷ journal) front x later
    by_caller on false other front own = let c = on front own in record {
      front = y ∷ c.front;
      rest = c.rest;
      parts = ap (λ (l : List (Entry E R)). y ∷ l) c.parts;
      mine = c.mine;
      before = ap (λ (b : Bool). cond b (y ∷ by worker c.front) (by worker c.front)) other ∙ c.before;
      behind = c.behind;
    }
    by_caller on true own [] is =
        let same = heads y x (by worker journal) later is in
        record { front = []; rest = journal; parts = ap (λ (e : Entry E R). e ∷ journal) same.0; mine = ap (λ (e : Entry E R). e.caller) (sym same.0) ∙ eqb-true y.caller worker own; before = refl; behind = same.1 }
    by_caller on true own (z ∷ front) is =
        let same = heads y z (by worker journal) (front ++ x ∷ later) is in
        let c = on front same.1 in
        record {
          front = y ∷ c.front;
          rest = c.rest;
          parts = ap (λ (l : List (Entry E R)). y ∷ l) c.parts;
          mine = c.mine;
          before = ap (λ (b : Bool). cond b (y ∷ by worker c.front) (by worker c.front)) own ∙ (ap (λ (e : Entry E R). e ∷ by worker c.front) same.0 ∙ ap (λ (l : List (Entry E R)). z ∷ l) c.before);
          behind = c.behind;
        }

module _ (object : ℕ) where
  -- a list at an entry of the object, with what of the object's stands before and behind it
  pub record CutIn (list : List Made) (earlier : List ObjectEntry) (x : ObjectEntry) (later : List ObjectEntry) : Type 0 where
    pub front : List Made
    pub rest : List Made
    pub parts : list ≡ front ++ Entered object x ∷ rest
    pub before : entries_in object front ≡ earlier
    pub behind : entries_in object rest ≡ later

  pub cut_in : (list : List Made) (earlier later : List ObjectEntry) (x : ObjectEntry) → entries_in object list ≡ earlier ++ x ∷ later → CutIn list earlier x later
  cut_in [] [] later x is = absurd cc
  cut_in [] (y ∷ earlier) later x is = absurd cc
  cut_in (Shared y ∷ list) earlier later x is = let c = cut_in list earlier later x is in record { front = Shared y ∷ c.front; rest = c.rest; parts = ap (λ (l : List Made). Shared y ∷ l) c.parts; before = c.before; behind = c.behind }
  cut_in (Entered other y ∷ list) earlier later x is = by_object (λ front own. cut_in list front later x own) (other == object) refl earlier is where
    by_object : ((front : List ObjectEntry) → entries_in object list ≡ front ++ x ∷ later → CutIn list front x later) → (b : Bool) → (other == object) ≡ b → (front : List ObjectEntry)
        → cond b (y ∷ entries_in object list) (entries_in object list) ≡ front ++ x ∷ later → CutIn (Entered other y ∷ list) front x later
    by_object on false apart front own = let c = on front own in record {
      front = Entered other y ∷ c.front;
      rest = c.rest;
      parts = ap (λ (l : List Made). Entered other y ∷ l) c.parts;
      before = ap (λ (b : Bool). cond b (y ∷ entries_in object c.front) (entries_in object c.front)) apart ∙ c.before;
      behind = c.behind;
    }
    by_object on true own [] is =
        let same = heads y x (entries_in object list) later is in
        record { front = []; rest = list; parts = ap (λ (n : ℕ). Entered n y ∷ list) (eqb-true other object own) ∙ ap (λ (e : ObjectEntry). Entered object e ∷ list) same.0; before = refl; behind = same.1 }
    by_object on true own (z ∷ front) is =
        let same = heads y z (entries_in object list) (front ++ x ∷ later) is in
        let c = on front same.1 in
        record {
          front = Entered other y ∷ c.front;
          rest = c.rest;
          parts = ap (λ (l : List Made). Entered other y ∷ l) c.parts;
          before = ap (λ (b : Bool). cond b (y ∷ entries_in object c.front) (entries_in object c.front)) own ∙ (ap (λ (e : ObjectEntry). e ∷ entries_in object c.front) same.0 ∙ ap (λ (l : List ObjectEntry). z ∷ l) c.before);
          behind = c.behind;
        }

module _ {E R : Type 0} where
  -- a journal at an entry of its log
  pub record CutLog (journal : List (Entry E R)) (earlier : List (log.Entry E R)) (e : log.Entry E R) (later : List (log.Entry E R)) : Type 0 where
    pub front : List (Entry E R)
    pub entry : Entry E R
    pub rest : List (Entry E R)
    pub parts : journal ≡ front ++ entry ∷ rest
    pub caller : entry.caller ≡ e.caller
    pub deed : entry.deed ≡ Event e.event e.reply
    pub before : log_of front ≡ earlier
    pub behind : log_of rest ≡ later

  pub cut_log : (journal : List (Entry E R)) (earlier later : List (log.Entry E R)) (e : log.Entry E R) → log_of journal ≡ earlier ++ e ∷ later → CutLog journal earlier e later
  cut_log [] [] later e is = absurd cc
  cut_log [] (x ∷ earlier) later e is = absurd cc
  cut_log (x ∷ journal) earlier later e is = by_deed (λ front own. cut_log journal front later e own) x.deed refl earlier is where
    passed : (d : Deed E R) → x.deed ≡ d → ((l : List (log.Entry E R)) → logged x.caller d l ≡ l) → (front : List (log.Entry E R)) → CutLog journal front e later → CutLog (x ∷ journal) front e later
    passed d is none front c = record {
      front = x ∷ c.front;
      entry = c.entry;
      rest = c.rest;
      parts = ap (λ (l : List (Entry E R)). x ∷ l) c.parts;
      caller = c.caller;
      deed = c.deed;
      before = ap (λ (f : Deed E R). logged x.caller f (log_of c.front)) is ∙ (none (log_of c.front) ∙ c.before);
      behind = c.behind;
    }

    by_deed : ((front : List (log.Entry E R)) → log_of journal ≡ front ++ e ∷ later → CutLog journal front e later) → (d : Deed E R) → x.deed ≡ d → (front : List (log.Entry E R)) → logged x.caller d (log_of journal) ≡ front ++ e ∷ later → CutLog (x ∷ journal) front e later
    by_deed on (Refused made m) is front own = passed (Refused made m) is (λ l. refl) front (on front own)
    by_deed on (Halt m) is front own = passed (Halt m) is (λ l. refl) front (on front own)
    by_deed on (Event made r) is [] own =
        let same = heads (log.entry x.caller made r) e (log_of journal) later own in
        record {
          front = [];
          entry = x;
          rest = journal;
          parts = refl;
          caller = ap (λ (f : log.Entry E R). f.caller) same.0;
          deed = is ∙ ap (λ (f : log.Entry E R). Event f.event f.reply) same.0;
          before = refl;
          behind = same.1;
        }
    by_deed on (Event made r) is (f ∷ front) own =
        let same = heads (log.entry x.caller made r) f (log_of journal) (front ++ e ∷ later) own in
        let c = on front same.1 in
        record {
          front = x ∷ c.front;
          entry = c.entry;
          rest = c.rest;
          parts = ap (λ (l : List (Entry E R)). x ∷ l) c.parts;
          caller = c.caller;
          deed = c.deed;
          before = ap (λ (d : Deed E R). logged x.caller d (log_of c.front)) is ∙ (ap (λ (g : log.Entry E R). g ∷ log_of c.front) same.0 ∙ ap (λ (l : List (log.Entry E R)). f ∷ l) c.before);
          behind = c.behind;
        }
