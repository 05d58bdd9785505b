-- What a key of a map has, length by length of a history.
use Rattle.std.proofs.Common.{◌≡◌, ◌⊎◌, inl, inr, ℕ, ◌+◌, ◌<◌, ◌≤◌, List, [], ◌∷◌, length, take, cond, Option, Some, slice_get, sym, ap, ◌∙◌, subst, arith}
use Rattle.std.proofs.Math.Nat.{eq-or-lt_of_le}
use Rattle.sync_model.specs.declared.item.SharedEntry.{SharedEntry}
use Rattle.sync_model.specs.SharedHistory.{Contents, value_at, contents_at}
use Rattle.sync_model.specs.SharedLaws.{is_on_key, value_left}
use Rattle.sync_model.proofs.Histories.{maps_long}
use Rattle.sync_model.proofs.SharedKeys.{value_played}
use Rattle.shared_checks.specs.Parts.{StoodBetween}
use Rattle.shared_checks.proofs.PlayedLemmas.{one_entry_more}

-- what a key has after one entry more
pub value_next : (start : Contents) (history : List SharedEntry) (m key n : ℕ) (entry : SharedEntry) → m < length start.maps → slice_get history n ≡ Some entry
    → value_at (contents_at start history (n + 1)) m key ≡ cond (is_on_key m key entry.call) (value_left entry.call (value_at (contents_at start history n) m key)) (value_at (contents_at start history n) m key)
value_next start history m key n entry there at =
    let here : m < length (contents_at start history n).maps = subst (λ k. m < k) (sym (maps_long start (take n history))) there in
    ap (λ (held : Contents). value_at held m key) (one_entry_more start history n entry at) ∙ value_played m key (contents_at start history n) (entry ∷ []) here

-- the key has this value after n entries, and hadn't the looked for one before, from a length on
pub record NotBefore (start : Contents) (history : List SharedEntry) (m key : ℕ) (value : Option ℕ) (from n : ℕ) (held : Option ℕ) : Type 0 where
  pub is : held ≡ value_at (contents_at start history n) m key
  pub none : (k : ℕ) → from ≤ k → k < n → value_at (contents_at start history k) m key ≡ value → ⊥

module _ (start : Contents) (history : List SharedEntry) (m key : ℕ) (value : Option ℕ) (from n : ℕ) (held : Option ℕ) (so_far : NotBefore start history m key value from n held) where
  pub stood : (to : ℕ) → from ≤ n → n ≤ to → held ≡ value → StoodBetween start history from to m key value
  stood to behind within same = (n, behind, within, sym so_far.is ∙ same)

  pub not_yet : (entry : SharedEntry) → m < length start.maps → slice_get history n ≡ Some entry → (from ≤ n → held ≡ value → ⊥)
      → (new : Option ℕ) → new ≡ cond (is_on_key m key entry.call) (value_left entry.call held) held → NotBefore start history m key value from (n + 1) new
  not_yet entry there at other new after = record {
    is = after ∙ ap (λ v. cond (is_on_key m key entry.call) (value_left entry.call v) v) so_far.is ∙ sym (value_next start history m key n entry there at);
    none = λ k behind below same. by k behind same (eq-or-lt_of_le {n = k} {m = n} (omega (arith, below)));
  } where
    by : (k : ℕ) → from ≤ k → value_at (contents_at start history k) m key ≡ value → (k ≡ n) ⊎ (k < n) → ⊥
    by k behind same (inl is) = other (subst (λ l. from ≤ l) is behind) (so_far.is ∙ ap (λ l. value_at (contents_at start history l) m key) (sym is) ∙ same)
    by k behind same (inr below) = so_far.none k behind below same

  pub never_stood : (to : ℕ) → to ≤ n → (from ≤ n → held ≡ value → ⊥) → StoodBetween start history from to m key value → ⊥
  never_stood to most other (k, behind, within, same) = by (eq-or-lt_of_le {n = k} {m = n} (omega (arith, within, most))) where
    by : (k ≡ n) ⊎ (k < n) → ⊥
    by (inl is) = other (subst (λ l. from ≤ l) is behind) (so_far.is ∙ ap (λ l. value_at (contents_at start history l) m key) (sym is) ∙ same)
    by (inr below) = so_far.none k behind below same

-- a key has what an entry leaves there whatever stood there
pub set_there : (start : Contents) (history : List SharedEntry) (m key n : ℕ) (entry : SharedEntry) → m < length start.maps → slice_get history n ≡ Some entry
    → (left : Option ℕ) → ((held : Option ℕ) → cond (is_on_key m key entry.call) (value_left entry.call held) held ≡ left) → left ≡ value_at (contents_at start history (n + 1)) m key
set_there start history m key n entry there at left sets = sym (value_next start history m key n entry there at ∙ sets (value_at (contents_at start history n) m key))

-- a key has after one entry more what the entry leaves
pub held_next : (start : Contents) (history : List SharedEntry) (m key n : ℕ) (entry : SharedEntry) (held : Option ℕ) → m < length start.maps → slice_get history n ≡ Some entry
    → held ≡ value_at (contents_at start history n) m key → (new : Option ℕ) → new ≡ cond (is_on_key m key entry.call) (value_left entry.call held) held → new ≡ value_at (contents_at start history (n + 1)) m key
held_next start history m key n entry held there at is new after = after ∙ ap (λ v. cond (is_on_key m key entry.call) (value_left entry.call v) v) is ∙ sym (value_next start history m key n entry there at)
