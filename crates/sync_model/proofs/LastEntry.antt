-- The last entry on a key before a place of a history.
use Rattle.std.proofs.Common.{◌≡◌, ◌⊎◌, inl, inr, ℕ, zero, suc, ◌<◌, ◌≤◌, Bool, true, false, ◌==◌, ◌&&◌, List, [], ◌∷◌, ◌++◌, length, take, drop, Some, slice_get, refl, sym, ap, ◌∙◌, subst, arith, append_assoc}
use Rattle.std.proofs.lemmas.Bool.{false≢true, eq-eqb}
use Rattle.std.proofs.lemmas.List.{take-append-drop, length-take-le}
use Rattle.std.proofs.lemmas.Option.{none-some, same_Some}
use Rattle.sync_types.specs.declared.map_object.MapCall.TheVariants.{Store}
use Rattle.sync_model.specs.declared.item.SharedCall.TheVariants.{Map}
use Rattle.sync_model.specs.declared.item.SharedEntry.{SharedEntry}
use Rattle.sync_model.specs.SharedLaws.{is_on_key, LeaveKey}

module _ {A : Type 0} where
  -- an item of a list's first part is an item of the list
  pub get_left : (xs ys : List A) (i : ℕ) (x : A) → slice_get xs i ≡ Some x → slice_get (xs ++ ys) i ≡ Some x
  get_left [] ys i x e = absurd (none-some x e)
  get_left (a ∷ xs) ys zero x e = e
  get_left (a ∷ xs) ys (suc i) x e = get_left xs ys i x e

  pub get_mid : (xs ys : List A) (z : A) → slice_get (xs ++ z ∷ ys) (length xs) ≡ Some z
  get_mid [] ys z = refl
  get_mid (a ∷ xs) ys z = get_mid xs ys z

  get_taken : (xs : List A) (n i : ℕ) (x : A) → i < n → slice_get xs i ≡ Some x → slice_get (take n xs) i ≡ Some x
  get_taken [] n i x below e = absurd (none-some x e)
  get_taken (a ∷ xs) zero i x below e = absurd (omega (arith, below))
  get_taken (a ∷ xs) (suc n) zero x below e = e
  get_taken (a ∷ xs) (suc n) (suc i) x below e = get_taken xs n i x (omega (arith, below)) e

pub store_on_key : (m key value : ℕ) → is_on_key m key (Map m (Store key value)) ≡ true
store_on_key m key value = ap (λ (b : Bool). b && (key == key)) (eq-eqb m m refl) ∙ eq-eqb key key refl

module _ (m key : ℕ) where
  -- the last entry of a list that is on the key
  pub record IsLast (xs : List SharedEntry) (earlier between : List SharedEntry) (last : SharedEntry) : Type 0 where
    pub parts : xs ≡ earlier ++ last ∷ between
    pub on_key : is_on_key m key last.call ≡ true
    pub leave : LeaveKey m key between

  abbrev HasLast : List SharedEntry → Type 0
  HasLast xs = (earlier : List SharedEntry) × (between : List SharedEntry) × (last : SharedEntry) × IsLast xs earlier between last

  -- a place of an entry on the key isn't behind the last one
  leaves_none : (xs : List SharedEntry) (i : ℕ) (e : SharedEntry) → LeaveKey m key xs → slice_get xs i ≡ Some e → is_on_key m key e.call ≡ true → ⊥
  leaves_none [] i e leave at on = none-some e at
  leaves_none (x ∷ xs) zero e leave at on =
      let is : x ≡ e = same_Some x e at in
      false≢true (sym (leave zero x (omega arith)) ∙ ap (λ (s : SharedEntry). is_on_key m key s.call) is ∙ on)
  leaves_none (x ∷ xs) (suc i) e leave at on = leaves_none xs i e (λ j d within. leave (suc j) d (omega (arith, within))) at on

  with_first : (x : SharedEntry) (xs : List SharedEntry) (b : Bool) → is_on_key m key x.call ≡ b → HasLast xs ⊎ LeaveKey m key xs → HasLast (x ∷ xs) ⊎ LeaveKey m key (x ∷ xs)
  with_first x xs b is (inl (earlier, between, last, was)) = inl (x ∷ earlier, between, last, record { parts = ap (λ ys. x ∷ ys) was.parts; on_key = was.on_key; leave = was.leave })
  with_first x xs true is (inr leave) = inl ([], xs, x, record { parts = refl; on_key = is; leave = leave })
  with_first x xs false is (inr leave) = inr all where
    all : LeaveKey m key (x ∷ xs)
    all zero d within = is
    all (suc j) d within = leave j d (omega (arith, within))

  last_of : (xs : List SharedEntry) → HasLast xs ⊎ LeaveKey m key xs
  last_of [] = inr none where
    none : LeaveKey m key []
    none j d within = absurd (omega (arith, within))
  last_of (x ∷ xs) = with_first x xs (is_on_key m key x.call) refl (last_of xs)

  at_most_last : (earlier between : List SharedEntry) (last : SharedEntry) (i : ℕ) (e : SharedEntry) → LeaveKey m key between → slice_get (earlier ++ last ∷ between) i ≡ Some e → is_on_key m key e.call ≡ true → i ≤ length earlier
  at_most_last [] between last zero e leave at on = omega arith
  at_most_last [] between last (suc i) e leave at on = absurd (leaves_none between i e leave at on)
  at_most_last (x ∷ earlier) between last zero e leave at on = omega arith
  at_most_last (x ∷ earlier) between last (suc i) e leave at on = let most = at_most_last earlier between last i e leave at on in omega (arith, most)

  -- before a place behind an entry on the key there is a last one, which doesn't stand before that entry
  pub record LastBefore (history : List SharedEntry) (place i : ℕ) (e : SharedEntry) : Type 0 where
    pub earlier : List SharedEntry
    pub last : SharedEntry
    pub between : List SharedEntry
    pub later : List SharedEntry
    pub parts : history ≡ earlier ++ last ∷ (between ++ later)
    pub before : place ≡ length (earlier ++ last ∷ between)
    pub on_key : is_on_key m key last.call ≡ true
    pub leave : LeaveKey m key between
    pub not_older : i ≤ length earlier
    pub same : i ≡ length earlier → last ≡ e

  pub last_before : (history : List SharedEntry) (place i : ℕ) (e : SharedEntry) → place ≤ length history → i < place → slice_get history i ≡ Some e → is_on_key m key e.call ≡ true → LastBefore history place i e
  last_before history place i e within below at on = by_last (last_of (take place history)) where
    there : slice_get (take place history) i ≡ Some e
    there = get_taken history place i e below at

    by_last : HasLast (take place history) ⊎ LeaveKey m key (take place history) → LastBefore history place i e
    by_last (inr leave) = absurd (leaves_none (take place history) i e leave there on)
    by_last (inl (earlier, between, last, is)) =
        let found : slice_get (earlier ++ last ∷ between) i ≡ Some e = subst (λ xs. slice_get xs i ≡ Some e) is.parts there in
        record {
          earlier = earlier;
          last = last;
          between = between;
          later = drop place history;
          parts = sym (take-append-drop place history) ∙ ap (λ xs. xs ++ drop place history) is.parts ∙ append_assoc earlier (last ∷ between) (drop place history);
          before = sym (length-take-le place history within) ∙ ap length is.parts;
          on_key = is.on_key;
          leave = is.leave;
          not_older = at_most_last earlier between last i e is.leave found on;
          same = λ equal. same_Some last e (sym (get_mid earlier between last) ∙ ap (λ n. slice_get (earlier ++ last ∷ between) n) (sym equal) ∙ found);
        }
