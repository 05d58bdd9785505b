-- That a list has an item of some sort.
use Rattle.std.proofs.Common.{◌≡◌, ◌⊎◌, inl, inr, ℕ, zero, suc, ◌==◌, Bool, true, false, cond, List, [], ◌∷◌, ◌++◌, map, get_or, Option, Some, None, slice_get, refl, sym, ap, subst}
use Rattle.std.specs.Prelude.{unwrap_or}
use Rattle.std.proofs.lemmas.Bool.{eq-eqb}
use Rattle.std.proofs.lemmas.Option.{none-some}
use Rattle.sync_model.specs.Journal.{by}
use Rattle.sync_model.specs.declared.journal.Entry.{Entry}
use Rattle.run_record.specs.declared.made.Made.{Made}
use Rattle.run_record.specs.declared.made.Made.TheVariants.{Shared, Entered}
use Rattle.run_record.specs.Record.{ObjectEntry, entries_in}

-- some item is such
abbrev pub Has : {A : Type 0} → (A → Type 0) → List A → Type 0
Has P [] = ⊥
Has P (x ∷ xs) = P x ⊎ Has P xs

-- each item is such
abbrev pub Each : {A : Type 0} → (A → Type 0) → List A → Type 0
Each P [] = Unit {0}
Each P (x ∷ xs) = P x × Each P xs

-- the item is an entry, which is such
abbrev pub OfEntry : (ObjectEntry → Type 0) → Made → Type 0
OfEntry P (Shared x) = ⊥
OfEntry P (Entered object entry) = P entry

module _ {A : Type 0} (P : A → Type 0) where
  pub has_either : (xs ys : List A) → Has P (xs ++ ys) → Has P xs ⊎ Has P ys
  has_either [] ys has = inr has
  has_either (x ∷ xs) ys (inl is) = inl (inl is)
  has_either (x ∷ xs) ys (inr has) = later (has_either xs ys has) where
    later : Has P xs ⊎ Has P ys → Has P (x ∷ xs) ⊎ Has P ys
    later (inl a) = inl (inr a)
    later (inr b) = inr b

  pub has_left : (xs ys : List A) → Has P xs → Has P (xs ++ ys)
  has_left [] ys has = absurd has
  has_left (x ∷ xs) ys (inl is) = inl is
  has_left (x ∷ xs) ys (inr has) = inr (has_left xs ys has)

  pub has_right : (xs ys : List A) → Has P ys → Has P (xs ++ ys)
  has_right [] ys has = has
  has_right (x ∷ xs) ys has = inr (has_right xs ys has)

  pub each_both : (xs ys : List A) → Each P xs → Each P ys → Each P (xs ++ ys)
  each_both [] ys first second = second
  each_both (x ∷ xs) ys first second = (first.0, each_both xs ys first.1 second)

  pub each_left : (xs ys : List A) → Each P (xs ++ ys) → Each P xs
  each_left [] ys each = tt
  each_left (x ∷ xs) ys each = (each.0, each_left xs ys each.1)

  -- at a place
  pub each_at : (xs : List A) (i : ℕ) (x : A) → slice_get xs i ≡ Some x → Each P xs → P x
  each_at [] i x at each = absurd (none-some x at)
  each_at (y ∷ xs) zero x at each = subst P (ap (λ (o : Option A). unwrap_or o x) at) each.0
  each_at (y ∷ xs) (suc i) x at each = each_at xs i x at each.1

  pub has_at : (xs : List A) (i : ℕ) (x : A) → slice_get xs i ≡ Some x → P x → Has P xs
  has_at [] i x at is = absurd (none-some x at)
  has_at (y ∷ xs) zero x at is = inl (subst P (sym (ap (λ (o : Option A). unwrap_or o x) at)) is)
  has_at (y ∷ xs) (suc i) x at is = inr (has_at xs i x at is)

  pub place_of : (xs : List A) → Has P xs → (i : ℕ) × (x : A) × (slice_get xs i ≡ Some x) × P x
  place_of [] has = absurd has
  place_of (x ∷ xs) (inl is) = (zero, x, refl, is)
  place_of (x ∷ xs) (inr has) = let at = place_of xs has in (suc at.0, at.1, at.2, at.3)

  -- a list that is chosen
  pub has_chosen : (b : Bool) (x : A) (xs : List A) → Has P (cond b (x ∷ xs) xs) → Has P (x ∷ xs)
  has_chosen true x xs has = has
  has_chosen false x xs has = inr has

module _ {A B : Type 0} (f : A → B) (P : B → Type 0) where
  pub has_mapped : (xs : List A) → Has P (map f xs) → Has (λ x. P (f x)) xs
  has_mapped [] has = has
  has_mapped (x ∷ xs) (inl is) = inl is
  has_mapped (x ∷ xs) (inr has) = inr (has_mapped xs has)

-- an entry of a caller is one of the journal
module _ {E R : Type 0} (P : Entry E R → Type 0) where
  pub has_by : (c : ℕ) (xs : List (Entry E R)) → Has P (by c xs) → Has P xs
  has_by c [] has = has
  has_by c (x ∷ xs) has = later (λ rest. has_by c xs rest) (has_chosen P (x.caller == c) x (by c xs) has) where
    later : (Has P (by c xs) → Has P xs) → Has P (x ∷ by c xs) → Has P (x ∷ xs)
    later on (inl is) = inl is
    later on (inr rest) = inr (on rest)

  -- and each entry is one of its caller's
  pub by_has : (xs : List (Entry E R)) (i : ℕ) (x : Entry E R) → slice_get xs i ≡ Some x → P x → Has P (by x.caller xs)
  by_has [] i x at is = absurd (none-some x at)
  by_has (y ∷ xs) zero x at is = here (ap (λ (o : Option (Entry E R)). unwrap_or o x) at) where
    chosen : (b : Bool) → b ≡ true → P y → Has P (cond b (y ∷ by x.caller xs) (by x.caller xs))
    chosen b chose is = subst (λ (t : Bool). Has P (cond t (y ∷ by x.caller xs) (by x.caller xs))) (sym chose) (inl is)

    here : y ≡ x → Has P (by x.caller (y ∷ xs))
    here same = chosen (y.caller == x.caller) (eq-eqb y.caller x.caller (ap (λ (e : Entry E R). e.caller) same)) (subst P (sym same) is)
  by_has (y ∷ xs) (suc i) x at is = either (y.caller == x.caller) (by_has xs i x at is) where
    either : (b : Bool) → Has P (by x.caller xs) → Has P (cond b (y ∷ by x.caller xs) (by x.caller xs))
    either true has = inr has
    either false has = has

module _ (P : ObjectEntry → Type 0) where
  -- the entries of an object in a list, and those of all objects
  pub has_entered : (object : ℕ) (list : List Made) → Has P (entries_in object list) → Has (OfEntry P) list
  has_entered object [] has = has
  has_entered object (Shared x ∷ list) has = inr (has_entered object list has)
  has_entered object (Entered other entry ∷ list) has = later (λ rest. has_entered object list rest) (has_chosen P (other == object) entry (entries_in object list) has) where
    later : (Has P (entries_in object list) → Has (OfEntry P) list) → Has P (entry ∷ entries_in object list) → Has (OfEntry P) (Entered other entry ∷ list)
    later on (inl is) = inl is
    later on (inr rest) = inr (on rest)

  pub entered_in : (object : ℕ) (list : List Made) (i : ℕ) (entry : ObjectEntry) → slice_get list i ≡ Some (Entered object entry) → P entry → Has P (entries_in object list)
  entered_in object [] i entry at is = absurd (none-some (Entered object entry) at)
  entered_in object (Shared x ∷ list) zero entry at is = absurd (none-some entry (ap from_entered at)) where
    from_entered : Option Made → Option ObjectEntry
    from_entered None = None
    from_entered (Some (Shared y)) = None
    from_entered (Some (Entered o e)) = Some e
  entered_in object (Entered other first ∷ list) zero entry at is = here (ap from_entered at) where
    from_entered : Option Made → ℕ × ObjectEntry
    from_entered None = (other, first)
    from_entered (Some (Shared y)) = (other, first)
    from_entered (Some (Entered o e)) = (o, e)

    chosen : (b : Bool) → b ≡ true → P first → Has P (cond b (first ∷ entries_in object list) (entries_in object list))
    chosen b chose is = subst (λ (t : Bool). Has P (cond t (first ∷ entries_in object list) (entries_in object list))) (sym chose) (inl is)

    here : ◌≡◌ {A = ℕ × ObjectEntry} (other, first) (object, entry) → Has P (entries_in object (Entered other first ∷ list))
    here same = chosen (other == object) (eq-eqb other object (ap (λ (p : ℕ × ObjectEntry). p.0) same)) (subst P (sym (ap (λ (p : ℕ × ObjectEntry). p.1) same)) is)
  entered_in object (Shared x ∷ list) (suc i) entry at is = entered_in object list i entry at is
  entered_in object (Entered other first ∷ list) (suc i) entry at is = either (other == object) (entered_in object list i entry at is) where
    either : (b : Bool) → Has P (entries_in object list) → Has P (cond b (first ∷ entries_in object list) (entries_in object list))
    either true has = inr has
    either false has = has

  -- some object has it
  pub some_object : (list : List Made) → Has (OfEntry P) list → (object : ℕ) × Has P (entries_in object list)
  some_object list has = at_place (place_of (OfEntry P) list has) where
    at_item : (i : ℕ) (x : Made) → slice_get list i ≡ Some x → OfEntry P x → (object : ℕ) × Has P (entries_in object list)
    at_item i (Shared x) at is = absurd is
    at_item i (Entered object entry) at is = (object, entered_in object list i entry at is)

    at_place : (i : ℕ) × (x : Made) × (slice_get list i ≡ Some x) × OfEntry P x → (object : ℕ) × Has P (entries_in object list)
    at_place (i, x, at, is) = at_item i x at is

module _ {A B : Type 0} (f : A → B) (P : B → Type 0) where
  pub has_map : (xs : List A) → Has (λ x. P (f x)) xs → Has P (map f xs)
  has_map [] has = has
  has_map (x ∷ xs) (inl is) = inl is
  has_map (x ∷ xs) (inr has) = inr (has_map xs has)

  -- the item at a place of the lists that the items give
  pub has_in : (d : B) (xs : List A) (i : ℕ) → (P d → ⊥) → P (get_or (map f xs) i d) → (x : A) × (slice_get xs i ≡ Some x) × P (f x)
  has_in d [] i none has = absurd (none has)
  has_in d (x ∷ xs) zero none has = (x, refl, has)
  has_in d (x ∷ xs) (suc i) none has = has_in d xs i none has

module _ {A B : Type 0} (f : A → B) where
  pub get_at : (d : B) (xs : List A) (i : ℕ) (x : A) → slice_get xs i ≡ Some x → get_or (map f xs) i d ≡ f x
  get_at d [] i x at = absurd (none-some x at)
  get_at d (y ∷ xs) zero x at = ap f (ap (λ (o : Option A). unwrap_or o x) at)
  get_at d (y ∷ xs) (suc i) x at = get_at d xs i x at
