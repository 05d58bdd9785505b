-- One worker's items, object by object.
use Rattle.std.proofs.Common.{◌≡◌, ◌≢◌, ◌⊎◌, inl, inr, ℕ, zero, suc, ◌+◌, ◌<◌, ◌≤◌, Bool, true, false, cond, List, [], ◌∷◌, ◌++◌, length, map, take, set, get_or, replicate, Some, slice_get, refl, sym, ap, ◌∙◌}
use Rattle.std.specs.Prelude.{◌==◌}
use Rattle.std.specs.Borrow.{Bor}
use Rattle.std.specs.List.{filter}
use Rattle.std.proofs.lemmas.Bool.Decides.{eqb_tells}
use Rattle.std.proofs.lemmas.List.{append-nil, map-append, get_or-set_same, get_or-set_other, length-set, length-replicate, take_all}
use Rattle.std.proofs.lemmas.List.Elements.{filter_more}
use Rattle.std.proofs.lemmas.Option.{none-some, same_Some, slice_get_within, get_or_from_slice_get}
use Rattle.std.proofs.Math.Nat.{suc-ne-zero}
use Rattle.object_checks.specs.declared.journals.item.JournalItem.{JournalItem}
use Rattle.object_checks.specs.JournalItems.{is_on}

pub all_one : {A : Type 0} (n i : ℕ) (x : A) → get_or (replicate n x) i x ≡ x
all_one zero i x = refl
all_one (suc n) zero x = refl
all_one (suc n) (suc i) x = all_one n i x

-- what a test is true of stays in the list
pub stays : {A : Type 0} (test : A → Bool) (xs : List A) (i : ℕ) (x : A) → slice_get xs i ≡ Some x → test x ≡ true → filter test xs ≡ [] → ⊥
stays test [] i x at is none = none-some x at
stays {A} test (y ∷ xs) zero x at is none = suc-ne-zero (length (filter test xs)) (ap length (sym (ap (λ b. cond b (y ∷ filter test xs) (filter test xs)) (ap test (same_Some y x at) ∙ is)) ∙ none))
stays {A} test (y ∷ xs) (suc i) x at is none = either (λ some. stays test xs i x at is some) (test y) none where
  either : (filter test xs ≡ [] → ⊥) → (b : Bool) → cond b (y ∷ filter test xs) (filter test xs) ≡ [] → ⊥
  either later true some = suc-ne-zero (length (filter test xs)) (ap length some)
  either later false some = later some

module _ (items : List JournalItem) where
  -- the rows have the first n items, object by object
  pub record AreRows (objects n : ℕ) (rows : List (List (Bor JournalItem))) : Type 0 where
    pub count : length rows ≡ objects
    pub sorted : (object : ℕ) → map (λ (item : Bor JournalItem). item.now) (get_or rows object []) ≡ filter (is_on object) (take n items)

  pub no_rows : (objects : ℕ) → AreRows objects 0 (replicate objects [])
  no_rows objects = record { count = length-replicate objects []; sorted = λ object. ap (map (λ (item : Bor JournalItem). item.now)) (all_one objects object []) }

  module _ (objects n : ℕ) (rows : List (List (Bor JournalItem))) (are : AreRows objects n rows) (item : Bor JournalItem) (at : slice_get items n ≡ Some item.now) (inside : item.now.object < length rows) where
    pub row_more : AreRows objects (n + 1) (set rows item.now.object (get_or rows item.now.object [] ++ item ∷ []))
    row_more = record { count = length-set rows item.now.object _ ∙ are.count; sorted = λ object. sorted object (eqb_tells item.now.object object) } where
      one_more : (object : ℕ) → filter (is_on object) (take (n + 1) items) ≡ filter (is_on object) (take n items) ++ cond (is_on object item.now) (item.now ∷ []) []
      one_more object = filter_more (is_on object) items n item.now (slice_get_within items n item.now at)
          ∙ ap (λ x. filter (is_on object) (take n items) ++ cond (is_on object x) (x ∷ []) []) (get_or_from_slice_get items n item.now item.now at)

      sorted : (object : ℕ) → (((item.now.object == object) ≡ true) × (item.now.object ≡ object)) ⊎ (((item.now.object == object) ≡ false) × (item.now.object ≢ object))
          → map (λ (i : Bor JournalItem). i.now) (get_or (set rows item.now.object (get_or rows item.now.object [] ++ item ∷ [])) object []) ≡ filter (is_on object) (take (n + 1) items)
      sorted object (inl (yes_, same)) =
          ap (λ o. map (λ (i : Bor JournalItem). i.now) (get_or (set rows item.now.object (get_or rows item.now.object [] ++ item ∷ [])) o [])) (sym same)
          ∙ ap (map (λ (i : Bor JournalItem). i.now)) (get_or-set_same rows item.now.object (get_or rows item.now.object [] ++ item ∷ []) [] inside)
          ∙ map-append (λ (i : Bor JournalItem). i.now) (get_or rows item.now.object []) (item ∷ [])
          ∙ ap (λ l. l ++ item.now ∷ []) (are.sorted item.now.object)
          ∙ ap (λ o. filter (is_on o) (take n items) ++ item.now ∷ []) same
          ∙ ap (λ b. filter (is_on object) (take n items) ++ cond b (item.now ∷ []) []) (sym yes_)
          ∙ sym (one_more object)
      sorted object (inr (no_, apart)) =
          ap (map (λ (i : Bor JournalItem). i.now)) (get_or-set_other rows item.now.object object (get_or rows item.now.object [] ++ item ∷ []) [] (λ same. apart (sym same)))
          ∙ are.sorted object
          ∙ sym (append-nil (filter (is_on object) (take n items)))
          ∙ ap (λ b. filter (is_on object) (take n items) ++ cond b (item.now ∷ []) []) (sym no_)
          ∙ sym (one_more object)

  pub rows_all : (objects n : ℕ) (rows : List (List (Bor JournalItem))) → length items ≤ n → AreRows objects n rows → (object : ℕ) → map (λ (item : Bor JournalItem). item.now) (get_or rows object []) ≡ filter (is_on object) items
  rows_all objects n rows all are object = are.sorted object ∙ ap (filter (is_on object)) (take_all n items all)
