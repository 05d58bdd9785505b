-- The calls that are entries, by their places.
use Rattle.std.proofs.Common.{◌≡◌, ◌≢◌, ◌⊎◌, inl, inr, ℕ, ◌+◌, ◌<◌, ◌≤◌, true, false, List, [], ◌∷◌, ◌++◌, length, get_or, Some, None, slice_get, refl, sym, ap, ◌∙◌, subst, arith}
use Rattle.std.proofs.Math.Nat.{eq-or-lt_of_le}
use Rattle.std.proofs.Math.Dec.{leb}
use Rattle.std.specs.List.Sorted.{IsNonDecreasingBy}
use Rattle.std.proofs.lemmas.Bool.Decides.{leb_tells}
use Rattle.std.proofs.lemmas.Option.{none-some, same_Some, slice_get_within, slice_get_cases, slice_get_read, get_or_from_slice_get}
use Rattle.sync_model.specs.declared.item.SharedEntry.{SharedEntry}
use Rattle.sync_model.specs.declared.item.Item.{Item}
use Rattle.sync_model.specs.SharedHistory.{entry_of}
use Rattle.sync_model.proofs.Histories.{get_left, get_on, get_last}
use Rattle.shared_checks.specs.declared.placed.Placed.{Placed}
use Rattle.shared_checks.specs.Calls.{calls_in}
use Rattle.shared_checks.specs.Parts.{AreEntries}
use Rattle.shared_checks.specs.Placing.{AreAllOf, IsMarked, AreOwners, Takes, GoesOn}

module _ (lists : List (List Item)) (placed : List Placed) where
  -- of the first n calls the marked ones are these
  pub record OwnersTo (n : ℕ) (owners : List Placed) : Type 0 where
    pub marked : (k : ℕ) (p : Placed) → slice_get owners k ≡ Some p → (p.place ≡ k) × IsMarked lists p
    pub all : (i : ℕ) (p : Placed) → i < n → slice_get placed i ≡ Some p → IsMarked lists p → slice_get owners p.place ≡ Some p

  pub no_owners : OwnersTo 0 []
  no_owners = record { marked = λ k p at. absurd (none-some p at); all = λ i p below. absurd (omega (arith, below)) }

  module _ (n : ℕ) (q : Placed) (at : slice_get placed n ≡ Some q) (owners : List Placed) (so_far : OwnersTo n owners) where
    pub passed_over : (IsMarked lists q → ⊥) → OwnersTo (n + 1) owners
    passed_over unmarked = record { marked = so_far.marked; all = λ i p below there is. by i p there is (eq-or-lt_of_le {n = i} {m = n} (omega (arith, below))) } where
      by : (i : ℕ) (p : Placed) → slice_get placed i ≡ Some p → IsMarked lists p → (i ≡ n) ⊎ (i < n) → slice_get owners p.place ≡ Some p
      by i p there is (inr before) = so_far.all i p before there is
      by i p there is (inl same) = absurd (unmarked (subst (IsMarked lists) (same_Some p q (sym there ∙ ap (slice_get placed) same ∙ at)) is))

    pub taken_in : (new : List Placed) → IsMarked lists q → Takes q owners new → OwnersTo (n + 1) new
    taken_in new is_q (inr (same, stands)) = subst (OwnersTo (n + 1)) (sym same) (record { marked = so_far.marked; all = λ i p below there is. by i p there is (eq-or-lt_of_le {n = i} {m = n} (omega (arith, below))) }) where
      by : (i : ℕ) (p : Placed) → slice_get placed i ≡ Some p → IsMarked lists p → (i ≡ n) ⊎ (i < n) → slice_get owners p.place ≡ Some p
      by i p there is (inr before) = so_far.all i p before there is
      by i p there is (inl e) = subst (λ (r : Placed). slice_get owners r.place ≡ Some r) (same_Some q p (sym at ∙ ap (slice_get placed) (sym e) ∙ there)) stands
    taken_in new is_q (inl (same, last)) = subst (OwnersTo (n + 1)) (sym same) (record { marked = λ k p there. marked k p (get_on owners q p k there); all = λ i p below there is. by i p there is (eq-or-lt_of_le {n = i} {m = n} (omega (arith, below))) }) where
      marked : (k : ℕ) (p : Placed) → (slice_get owners k ≡ Some p) ⊎ ((k ≡ length owners) × (p ≡ q)) → (p.place ≡ k) × IsMarked lists p
      marked k p (inl there) = so_far.marked k p there
      marked k p (inr (number, is)) = (ap (λ (r : Placed). r.place) is ∙ last ∙ sym number, subst (IsMarked lists) (sym is) is_q)

      by : (i : ℕ) (p : Placed) → slice_get placed i ≡ Some p → IsMarked lists p → (i ≡ n) ⊎ (i < n) → slice_get (owners ++ q ∷ []) p.place ≡ Some p
      by i p there is (inr before) = get_left owners (q ∷ []) p.place p (so_far.all i p before there is)
      by i p there is (inl e) = subst (λ (r : Placed). slice_get (owners ++ q ∷ []) r.place ≡ Some r) (same_Some q p (sym at ∙ ap (slice_get placed) (sym e) ∙ there))
          (subst (λ k. slice_get (owners ++ q ∷ []) k ≡ Some q) (sym last) (get_last owners q))

    pub gone_on : (new : List Placed) → GoesOn lists q owners new → OwnersTo (n + 1) new
    gone_on new (inl (is_q, takes)) = taken_in new is_q takes
    gone_on new (inr (unmarked, same)) = subst (OwnersTo (n + 1)) (sym same) (passed_over unmarked)

  module _ (are : AreAllOf lists placed) where
    -- a marked call stands somewhere among all
    stands : (p : Placed) → IsMarked lists p → (i : ℕ) × (slice_get placed i ≡ Some p)
    stands p (x, there, place, entry) = let found = are.all p (x, there, sym place) in (found.0, slice_get_read placed (length placed) found.0 p refl found.1 (sym found.2))

    pub owners_all : (n : ℕ) (owners : List Placed) → length placed ≤ n → OwnersTo n owners → AreOwners lists owners
    owners_all n owners all so_far = record { marked = so_far.marked; all = λ p is. let found = stands p is in let inside = slice_get_within placed found.0 p found.1 in so_far.all found.0 p (omega (arith, inside, all)) found.1 is }

    module _ (rise : (i j : ℕ) (p q : Placed) → i ≤ j → slice_get placed i ≡ Some p → slice_get placed j ≡ Some q → p.place ≤ q.place)
        (n : ℕ) (q : Placed) (at : slice_get placed n ≡ Some q) (owners : List Placed) (so_far : OwnersTo n owners) (is_q : IsMarked lists q)
        (not_last : q.place ≢ length owners) (not_there : slice_get owners q.place ≢ Some q)
        (history : List SharedEntry) (entries : AreEntries history (calls_in lists)) where
      entered : (p : Placed) (is : IsMarked lists p) → slice_get history p.place ≡ Some (entry_of p.caller is.0)
      entered p (x, there, place, entry) = subst (λ k. slice_get history k ≡ Some (entry_of p.caller x)) place (entries.entered p.caller p.index x there entry)

      -- two marked calls at one place are one
      one_call : (p r : Placed) → IsMarked lists p → IsMarked lists r → p.place ≡ r.place → p ≡ r
      one_call p r is_p is_r same =
          let entry : entry_of p.caller is_p.0 ≡ entry_of r.caller is_r.0 = same_Some (entry_of p.caller is_p.0) (entry_of r.caller is_r.0) (sym (entered p is_p) ∙ ap (slice_get history) same ∙ entered r is_r) in
          let caller : p.caller ≡ r.caller = ap (λ (e : SharedEntry). e.caller) entry in
          let theirs : slice_get (calls_in lists p.caller) r.index ≡ Some is_r.0 = subst (λ c. slice_get (calls_in lists c) r.index ≡ Some is_r.0) (sym caller) is_r.1 in
          let index : p.index ≡ r.index = entries.once p.caller p.index r.index is_p.0 is_r.0 is_p.1 theirs is_p.3 is_r.3 (is_p.2 ∙ same ∙ sym is_r.2) in
          let Caller : ℕ → Placed = λ c. record { caller = c; index = p.index; place = p.place } in
          let Index : ℕ → Placed = λ k. record { caller = r.caller; index = k; place = p.place } in
          let Place : ℕ → Placed = λ k. record { caller = r.caller; index = r.index; place = k } in
          ap Caller caller ∙ ap Index index ∙ ap Place same

      pub no_history : ⊥
      no_history = by (slice_get_cases owners q.place).1 where
        open_place : length owners < q.place → ⊥
        open_place past = at_length (slice_get_cases history (length owners)).1 where
          inside : q.place < length history
          inside = slice_get_within history q.place (entry_of q.caller is_q.0) (entered q is_q)

          at_length : ((e : SharedEntry) × (length owners < length history) × (slice_get history (length owners) ≡ Some e) × (get_or history (length owners) e ≡ e)) ⊎ ((length history ≤ length owners) × (slice_get history (length owners) ≡ None)) → ⊥
          at_length (inr (none, e)) = omega (arith, none, past, inside)
          at_length (inl (e, within, there, read)) =
              let call = entries.called (length owners) e there in
              let p : Placed = record { caller = e.caller; index = call.0; place = length owners } in
              let is_p : IsMarked lists p = (call.1, call.2, call.4, call.3) in
              let found = stands p is_p in
              let order : (n ≤ found.0) → q.place ≤ length owners = λ late. rise n found.0 q p late at found.1 in
              by_order p is_p found.0 found.1 order (leb_tells n found.0) refl
            where
              by_order : (p : Placed) → IsMarked lists p → (i : ℕ) → slice_get placed i ≡ Some p → ((n ≤ i) → q.place ≤ length owners) → ((leb n i ≡ true) × (n ≤ i)) ⊎ ((leb n i ≡ false) × (i < n)) → p.place ≡ length owners → ⊥
              by_order p is i there order (inl (test, late)) place = let less = order late in omega (arith, less, past)
              by_order p is i there order (inr (test, before)) place = let stood = slice_get_within owners p.place p (so_far.all i p before there is) in omega (arith, stood, place)

        by : ((p : Placed) × (q.place < length owners) × (slice_get owners q.place ≡ Some p) × (get_or owners q.place p ≡ p)) ⊎ ((length owners ≤ q.place) × (slice_get owners q.place ≡ None)) → ⊥
        by (inl (p, below, there, read)) =
            let is = so_far.marked q.place p there in
            not_there (there ∙ ap Some (one_call p q is.1 is_q is.0))
        by (inr (past, none)) = by_past (eq-or-lt_of_le {n = length owners} {m = q.place} past)
          where
            by_past : (length owners ≡ q.place) ⊎ (length owners < q.place) → ⊥
            by_past (inl same) = not_last (sym same)
            by_past (inr more) = open_place more

-- places that rise along a list, by the calls that stand there
pub rise_at : (placed : List Placed) → IsNonDecreasingBy (λ (p : Placed). p.place) placed → (i j : ℕ) (p q : Placed) → i ≤ j → slice_get placed i ≡ Some p → slice_get placed j ≡ Some q → p.place ≤ q.place
rise_at placed rise i j p q order at_i at_j =
    let less = rise i j p order (slice_get_within placed j q at_j) in
    let first : (get_or placed i p).place ≡ p.place = ap (λ (r : Placed). r.place) (get_or_from_slice_get placed i p p at_i) in
    let second : (get_or placed j p).place ≡ q.place = ap (λ (r : Placed). r.place) (get_or_from_slice_get placed j q p at_j) in
    omega (arith, less, first, second)
