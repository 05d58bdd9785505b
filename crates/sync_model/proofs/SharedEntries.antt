-- Which call each entry of a history is, and which entry a call is.
use Rattle.std.proofs.Common.{◌≡◌, ℕ, zero, suc, ◌+◌, ◌<◌, Bool, true, false, ◌==◌, cond, List, [], ◌∷◌, Some, slice_get, ◌⊎◌, inl, inr, refl, sym, ap, ◌∙◌, subst, arith}
use Rattle.std.proofs.lemmas.Option.{none-some, same_Some}
use Rattle.std.proofs.lemmas.Bool.{cases_eq, cases_lt, eqb-true, eq-eqb}
use Rattle.sync_model.specs.declared.item.SharedCall.{SharedCall}
use Rattle.sync_model.specs.declared.item.SharedEntry.{SharedEntry}
use Rattle.sync_model.specs.declared.item.Item.{Item}
use Rattle.sync_model.specs.SharedHistory.{Contents, contents_at, is_entry, entries_from, entry_of, marked_in}
use Rattle.sync_model.specs.SharedCalls.{Lawful}
use Rattle.sync_model.proofs.SharedCallers.{own_before, bound_is}

module _ {A : Type 0} where
  -- an item stands in a list
  abbrev pub IsIn : A → List A → Type 0
  IsIn x xs = (i : ℕ) × (slice_get xs i ≡ Some x)

  -- an item that is kept, of those that a test keeps
  kept_first : (b : Bool) (x : A) (xs : List A) → b ≡ true → IsIn x (cond b (x ∷ xs) xs)
  kept_first true x xs e = (zero, refl)
  kept_first false x xs e = absurd cc

  kept_later : (b : Bool) (x y : A) (xs : List A) → IsIn x xs → IsIn x (cond b (y ∷ xs) xs)
  kept_later true x y xs at = (suc at.0, at.1)
  kept_later false x y xs at = at

  -- what stands there is the first one, where the test keeps it, or a later one
  kept_is : (b : Bool) (x y : A) (xs : List A) → IsIn x (cond b (y ∷ xs) xs) → ((b ≡ true) × (x ≡ y)) ⊎ IsIn x xs
  kept_is true x y xs (zero, e) = inl (refl, sym (same_Some y x e))
  kept_is true x y xs (suc i, e) = inr (i, e)
  kept_is false x y xs at = inr at

module _ (c : ℕ) where
  -- an entry of the history is one of its caller's, with its number
  pub entry_in : (k : ℕ) (history : List SharedEntry) (n : ℕ) (entry : SharedEntry) (p : ℕ × SharedEntry) → p ≡ (k + n, entry) → slice_get history n ≡ Some entry → entry.caller ≡ c → IsIn p (entries_from k c history)
  entry_in k [] n entry p is at mine = absurd (none-some entry at)
  entry_in k (first ∷ later) zero entry p is at mine =
      let same : first ≡ entry = same_Some first entry at in
      let number : k + 0 ≡ k = omega arith in
      let here : p ≡ (k, first) = is ∙ ap (λ n. (n, entry)) number ∙ ap (λ e. (k, e)) (sym same) in
      subst (λ q. IsIn q (entries_from k c (first ∷ later))) (sym here)
      (kept_first (first.caller == c) (k, first) (entries_from (k + 1) c later) (eq-eqb first.caller c (ap (λ (e : SharedEntry). e.caller) same ∙ mine)))
  entry_in k (first ∷ later) (suc n) entry p is at mine =
      let number : k + suc n ≡ (k + 1) + n = omega arith in
      kept_later (first.caller == c) p (k, first) (entries_from (k + 1) c later) (entry_in (k + 1) later n entry p (is ∙ ap (λ n. (n, entry)) number) at mine)

  -- and the other way round
  pub entry_is : (k : ℕ) (history : List SharedEntry) (p : ℕ × SharedEntry) → IsIn p (entries_from k c history) → (n : ℕ) × (slice_get history n ≡ Some p.1) × (p.0 ≡ k + n) × (p.1.caller ≡ c)
  entry_is k [] p at = absurd (none-some p at.1)
  entry_is k (first ∷ later) p at = by_cases (kept_is (first.caller == c) p (k, first) (entries_from (k + 1) c later) at) (entry_is (k + 1) later p)
    where
      by_cases : (((first.caller == c) ≡ true) × (p ≡ (k, first))) ⊎ IsIn p (entries_from (k + 1) c later)
          → (IsIn p (entries_from (k + 1) c later) → (n : ℕ) × (slice_get later n ≡ Some p.1) × (p.0 ≡ (k + 1) + n) × (p.1.caller ≡ c))
          → (n : ℕ) × (slice_get (first ∷ later) n ≡ Some p.1) × (p.0 ≡ k + n) × (p.1.caller ≡ c)
      by_cases (inl here) later_on =
          let entry : p.1 ≡ first = ap (λ (q : ℕ × SharedEntry). q.1) here.1 in
          let number : p.0 ≡ k = ap (λ (q : ℕ × SharedEntry). q.0) here.1 in
          (zero, ap Some (sym entry), omega arith, ap (λ (e : SharedEntry). e.caller) entry ∙ eqb-true first.caller c here.0)
      by_cases (inr there) later_on = let rest = later_on there in let number = rest.2 in (suc rest.0, rest.1, omega arith, rest.3)

  -- a call that is an entry is marked, with its place
  pub mark_in : (items : List Item) (j : ℕ) (x : Item) (p : ℕ × SharedEntry) → p ≡ (x.place, entry_of c x) → slice_get items j ≡ Some x → x.entry ≡ true → IsIn p (marked_in c items)
  mark_in [] j x p is at entry = absurd (none-some x at)
  mark_in (first ∷ later) zero x p is at entry =
      let same : first ≡ x = same_Some first x at in
      let here : p ≡ (first.place, entry_of c first) = is ∙ ap (λ (y : Item). (y.place, entry_of c y)) (sym same) in
      subst (λ q. IsIn q (marked_in c (first ∷ later))) (sym here)
      (kept_first first.entry (first.place, entry_of c first) (marked_in c later) (ap (λ (y : Item). y.entry) same ∙ entry))
  mark_in (first ∷ later) (suc j) x p is at entry = kept_later first.entry p (first.place, entry_of c first) (marked_in c later) (mark_in later j x p is at entry)

  pub mark_is : (items : List Item) (p : ℕ × SharedEntry) → IsIn p (marked_in c items) → (j : ℕ) × (x : Item) × (slice_get items j ≡ Some x) × (x.entry ≡ true) × (p ≡ (x.place, entry_of c x))
  mark_is [] p at = absurd (none-some p at.1)
  mark_is (first ∷ later) p at = by_cases (kept_is first.entry p (first.place, entry_of c first) (marked_in c later) at) (mark_is later p)
    where
      by_cases : ((first.entry ≡ true) × (p ≡ (first.place, entry_of c first))) ⊎ IsIn p (marked_in c later)
          → (IsIn p (marked_in c later) → (j : ℕ) × (x : Item) × (slice_get later j ≡ Some x) × (x.entry ≡ true) × (p ≡ (x.place, entry_of c x)))
          → (j : ℕ) × (x : Item) × (slice_get (first ∷ later) j ≡ Some x) × (x.entry ≡ true) × (p ≡ (x.place, entry_of c x))
      by_cases (inl here) later_on = (zero, first, refl, here.0, here.1)
      by_cases (inr there) later_on = let rest = later_on there in (suc rest.0, rest.1, rest.2, rest.3, rest.4)

module _ (start : Contents) (history : List SharedEntry) (calls : ℕ → List Item) (lawful : Lawful start history calls) where
  -- the call that an entry is
  pub call_of : (n : ℕ) (entry : SharedEntry) → slice_get history n ≡ Some entry
      → (j : ℕ) × (x : Item) × (slice_get (calls entry.caller) j ≡ Some x) × (x.entry ≡ true) × (x.place ≡ n) × (x.call ≡ entry.call) × (x.reply ≡ entry.reply)
  call_of n entry at =
      let p : ℕ × SharedEntry = (n, entry) in
      let number : n ≡ 0 + n = omega arith in
      let there = entry_in entry.caller 0 history n entry p (ap (λ k. (k, entry)) number) at refl in
      let found = mark_is entry.caller (calls entry.caller) p (subst (λ ps. IsIn p ps) (sym (lawful.marked entry.caller)) there) in
      let is : entry ≡ entry_of entry.caller found.1 = ap (λ (q : ℕ × SharedEntry). q.1) found.4 in
      (found.0, found.1, found.2, found.3, ap (λ (q : ℕ × SharedEntry). q.0) (sym found.4), ap (λ (e : SharedEntry). e.call) (sym is), ap (λ (e : SharedEntry). e.reply) (sym is))

  -- the entry that a call is
  pub entry_at : (c j : ℕ) (x : Item) → slice_get (calls c) j ≡ Some x → x.entry ≡ true → (entry : SharedEntry) × (slice_get history x.place ≡ Some entry) × (entry.caller ≡ c) × (entry.call ≡ x.call) × (entry.reply ≡ x.reply)
  entry_at c j x at entry =
      let p : ℕ × SharedEntry = (x.place, entry_of c x) in
      let there = mark_in c (calls c) j x p refl at entry in
      let found = entry_is c 0 history p (subst (λ ps. IsIn p ps) (lawful.marked c) there) in
      let number = found.2 in
      let place : found.0 ≡ x.place = omega arith in
      (entry_of c x, subst (λ n. slice_get history n ≡ Some (entry_of c x)) place found.1, refl, refl, refl)

  -- no entry is two calls
  pub entry_once : (c d i j : ℕ) (x y : Item) → slice_get (calls c) i ≡ Some x → slice_get (calls d) j ≡ Some y → x.entry ≡ true → y.entry ≡ true → x.place ≡ y.place → (c ≡ d) × (i ≡ j)
  entry_once c d i j x y at_x at_y is_x is_y same =
      let first = entry_at c i x at_x is_x in
      let second = entry_at d j y at_y is_y in
      let one : first.0 ≡ second.0 = same_Some first.0 second.0 (sym first.1 ∙ ap (slice_get history) same ∙ second.1) in
      let callers : c ≡ d = sym first.2 ∙ ap (λ (e : SharedEntry). e.caller) one ∙ second.2 in
      (callers, at_once (subst (λ k. slice_get (calls k) i ≡ Some x) callers at_x) (cases_eq i j))
    where
      before : (i j : ℕ) (x y : Item) → i < j → slice_get (calls d) i ≡ Some x → slice_get (calls d) j ≡ Some y → x.entry ≡ true → x.place < y.place
      before i j x y below at_i at_j is = let bounded = bound_is x is in let own = own_before start history calls lawful d i j x y below at_i at_j in omega arith

      at_once : slice_get (calls d) i ≡ Some x → (i ≡ j) ⊎ (i ≡ j → ⊥) → i ≡ j
      at_once at_i (inl e) = e
      at_once at_i (inr ne) = elim (cases_lt i j) [
        | inl below ↦ let order = before i j x y below at_i at_y is_x in absurd (omega arith)
        | inr above ↦ let order = before j i y x (omega arith) at_y at_i is_y in absurd (omega arith)
      ]

  -- whether a call is an entry, its kind says, whatever the contents
  pub entry_by_call : (c j : ℕ) (x : Item) (call : SharedCall) (b : Bool) → ((contents : Contents) → is_entry call contents ≡ b) → slice_get (calls c) j ≡ Some x → x.call ≡ call → x.entry ≡ b
  entry_by_call c j x call b always at is = (lawful.sound c j x at).entry ∙ ap (λ k. is_entry k (contents_at start history x.place)) is ∙ always (contents_at start history x.place)
