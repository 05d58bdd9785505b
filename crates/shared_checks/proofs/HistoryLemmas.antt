-- The history of the calls that are entries.
use Rattle.std.proofs.Common.{◌≡◌, ◌⊎◌, inl, inr, ℕ, ◌<◌, ◌≤◌, true, List, length, get_or, Some, None, slice_get, refl, sym, ap, ◌∙◌, subst, arith}
use Rattle.std.proofs.lemmas.Option.{same_Some, slice_get_within, slice_get_cases}
use Rattle.sync_model.specs.declared.item.SharedEntry.{SharedEntry}
use Rattle.sync_model.specs.declared.item.Item.{Item}
use Rattle.sync_model.specs.SharedHistory.{entry_of}
use Rattle.shared_checks.specs.declared.placed.Placed.{Placed}
use Rattle.shared_checks.specs.Calls.{calls_in}
use Rattle.shared_checks.specs.Parts.{AreEntries}
use Rattle.shared_checks.specs.Placing.{AreOwners, IsEntryOf}

module _ (lists : List (List Item)) (owners : List Placed) where
  -- the first n entries
  pub record EntriesTo (n : ℕ) (history : List SharedEntry) : Type 0 where
    pub count : length history ≡ n
    pub each : (k : ℕ) (entry : SharedEntry) → slice_get history k ≡ Some entry → (p : Placed) × (slice_get owners k ≡ Some p) × IsEntryOf lists p entry

module _ (lists : List (List Item)) (owners : List Placed) (are : AreOwners lists owners) where
  pub all_entries : (n : ℕ) (history : List SharedEntry) → n ≡ length owners → EntriesTo lists owners n history → AreEntries history (calls_in lists)
  all_entries n history all to = record { entered = entered; called = called; once = once } where
    place_of : ℕ → ℕ → Item → Placed
    place_of c j x = record { caller = c; index = j; place = x.place }

    owned : (c j : ℕ) (x : Item) → slice_get (calls_in lists c) j ≡ Some x → x.entry ≡ true → slice_get owners x.place ≡ Some (place_of c j x)
    owned c j x at entry = are.all (place_of c j x) (x, at, refl, entry)

    entered : (c j : ℕ) (x : Item) → slice_get (calls_in lists c) j ≡ Some x → x.entry ≡ true → slice_get history x.place ≡ Some (entry_of c x)
    entered c j x at entry = by (slice_get_cases history x.place).1 where
      inside : x.place < length owners
      inside = slice_get_within owners x.place (place_of c j x) (owned c j x at entry)

      by : ((e : SharedEntry) × (x.place < length history) × (slice_get history x.place ≡ Some e) × (get_or history x.place e ≡ e)) ⊎ ((length history ≤ x.place) × (slice_get history x.place ≡ None)) → slice_get history x.place ≡ Some (entry_of c x)
      by (inr (past, none)) = let count = to.count in absurd (omega (arith, past, inside, all, count))
      by (inl (e, within, there, read)) =
          let found = to.each x.place e there in
          let p : Placed = found.0 in
          let same : p ≡ place_of c j x = same_Some p (place_of c j x) (sym found.1 ∙ owned c j x at entry) in
          let Call : Placed → Type 0 = λ q. (slice_get (calls_in lists q.caller) q.index ≡ Some found.2.0) × (e ≡ entry_of q.caller found.2.0) in
          let is = subst Call same (found.2.1, found.2.2) in
          there ∙ ap Some (is.1 ∙ ap (entry_of c) (same_Some found.2.0 x (sym is.0 ∙ at)))

    called : (k : ℕ) (e : SharedEntry) → slice_get history k ≡ Some e → (j : ℕ) × (x : Item) × (slice_get (calls_in lists e.caller) j ≡ Some x) × (x.entry ≡ true) × (x.place ≡ k)
    called k e there =
        let found = to.each k e there in
        let p : Placed = found.0 in
        let is = are.marked k p found.1 in
        let caller : p.caller ≡ e.caller = ap (λ (f : SharedEntry). f.caller) (sym found.2.2) in
        (p.index, is.1.0, subst (λ c. slice_get (calls_in lists c) p.index ≡ Some is.1.0) caller is.1.1, is.1.3, is.1.2 ∙ is.0)

    once : (c i j : ℕ) (x y : Item) → slice_get (calls_in lists c) i ≡ Some x → slice_get (calls_in lists c) j ≡ Some y → x.entry ≡ true → y.entry ≡ true → x.place ≡ y.place → i ≡ j
    once c i j x y at_x at_y is_x is_y same =
        ap (λ (p : Placed). p.index) (same_Some (place_of c i x) (place_of c j y) (sym (owned c i x at_x is_x) ∙ ap (slice_get owners) same ∙ owned c j y at_y is_y))
