-- Calls whose keys are numbers of 32 bits leave maps such keys alone.
use Rattle.std.proofs.Common.{◌≡◌, ℕ, ◌<◌, ◌^◌, Bool, true, false, cond, List, Some, None, get_or, is_some, length, set, length-set, refl, sym, ap, ◌∙◌, subst, arith, inl, inr}
use Rattle.std.specs.Cmp.{nat_cmp_total}
use Rattle.std.specs.FinMap.{FinMap, empty, get, insert, remove, get-empty, get-insert, get-remove, nat_cmp-IsAntisymmetric}
use Rattle.std.specs.Ordering.{nat_cmp, eq_by_cmp, is_eq}
use Rattle.std.specs.declared.cmp.Ordering.{Ordering}
use Rattle.std.specs.declared.cmp.Ordering.TheVariants.{Less, Equal, Greater}
use Rattle.std.proofs.lemmas.Bool.{cases_eq, cases_lt}
use Rattle.std.proofs.lemmas.List.{get_or_past, get_or-set_same, get_or-set_other}
use Rattle.std.proofs.lemmas.Option.{none-some}
use Rattle.sync_model.specs.declared.item.Item.{Item}
use Rattle.sync_model.specs.declared.item.SharedCall.{SharedCall}
use Rattle.sync_model.specs.declared.item.SharedCall.TheVariants as calls
use Rattle.sync_model.specs.declared.item.SharedEntry.{SharedEntry}
use Rattle.sync_types.specs.declared.map_object.MapCall.{MapCall}
use Rattle.sync_types.specs.declared.map_object.MapCall.TheVariants.{Load, Store, LoadOrStore, LoadAndDelete, Delete, Swap, CompareAndSwap, CompareAndDelete, Clear}
use Rattle.sync_types.specs.SequentialMap.{has_value, map_key, map_after}
use Rattle.sync_model.specs.SharedHistory.{Contents, map_at, contents_after, shared_after, is_entry, history_with}
use Rattle.table_rule.specs.declared.begin.Begin.{Begin}
use Rattle.sync_model.specs.EndsOfHistory.{HasKeysBelow}
use Rattle.table_words.specs.Laws.{HistoryLaws}
use Rattle.table_rule.specs.Shape.{start_of}
use Rattle.table_words.proofs.Ledgers.{contents_on}

-- keys that differ don't tie
pub not_tied : (o : Ordering) (q k : ℕ) → nat_cmp q k ≡ o → (q ≡ k → ⊥) → is_eq o ≡ false
not_tied Less q k e ne = refl
not_tied Equal q k e ne = absurd (ne (nat_cmp-IsAntisymmetric q k e))
not_tied Greater q k e ne = refl

-- a call on a map has a key of 32 bits, or none
abbrev pub HasSmallKey : SharedCall → Type 0
HasSmallKey x = (m key : ℕ) (call : MapCall ℕ) → x ≡ calls.Map m call → map_key call ≡ Some key → key < 2 ^ 32

-- a map all of whose keys have 32 bits
abbrev Small : FinMap nat_cmp ℕ → Type 0
Small m = (key value : ℕ) → get m key ≡ Some value → key < 2 ^ 32

inserted : (m : FinMap nat_cmp ℕ) (key value : ℕ) → key < 2 ^ 32 → Small m → Small (insert m key value)
inserted m key value fits small q v at = elim (cases_eq q key) [
  | inl same ↦ subst (λ n. n < 2 ^ 32) (sym same) fits
  | inr ne ↦ small q v (sym (ap (λ (b : Bool). cond b (Some value) (get m q)) (not_tied (nat_cmp q key) q key refl ne)) ∙ sym (get-insert nat_cmp_total m key value q) ∙ at)
]

removed : (m : FinMap nat_cmp ℕ) (key : ℕ) → Small m → Small (remove m key)
removed m key small q v at = by_test (eq_by_cmp nat_cmp q key) (sym (get-remove nat_cmp_total m key q) ∙ at)
  where
    by_test : (b : Bool) → cond b None (get m q) ≡ Some v → q < 2 ^ 32
    by_test true is = absurd (none-some v is)
    by_test false is = small q v is

either : (b : Bool) (m n : FinMap nat_cmp ℕ) → Small m → Small n → Small (cond b m n)
either true m n first second = first
either false m n first second = second

emptied : Small empty
emptied key value at = absurd (none-some value (sym (get-empty nat_cmp key) ∙ at))

-- so is it after a call with such a key
map_stays_small : (call : MapCall ℕ) (m : FinMap nat_cmp ℕ) → ((key : ℕ) → map_key call ≡ Some key → key < 2 ^ 32) → Small m → Small (map_after call m)
map_stays_small (Load key) m fits small = small
map_stays_small (Store key value) m fits small = inserted m key value (fits key refl) small
map_stays_small (LoadOrStore key value) m fits small = either (is_some (get m key)) m (insert m key value) small (inserted m key value (fits key refl) small)
map_stays_small (LoadAndDelete key) m fits small = removed m key small
map_stays_small (Delete key) m fits small = removed m key small
map_stays_small (Swap key value) m fits small = inserted m key value (fits key refl) small
map_stays_small (CompareAndSwap key old new) m fits small = either (has_value old (get m key)) (insert m key new) m (inserted m key new (fits key refl) small) small
map_stays_small (CompareAndDelete key old) m fits small = either (has_value old (get m key)) (remove m key) m (removed m key small) small
map_stays_small Clear m fits small = emptied

-- one map of many is replaced
one_replaced : (maps : List (FinMap nat_cmp ℕ)) (m n : ℕ) (new : FinMap nat_cmp ℕ) → Small new → Small (get_or maps n empty) → Small (get_or (set maps m new) n empty)
one_replaced maps m n new fits small = elim (cases_eq n m) [
  | inl same ↦ elim (cases_lt m (length maps)) [
    | inl below ↦ subst Small (sym (ap (λ i. get_or (set maps m new) i empty) same ∙ get_or-set_same maps m new empty below)) fits
    | inr past ↦ subst Small (sym (get_or_past (set maps m new) n empty (let long = length-set maps m new in omega arith))) emptied
  ]
  | inr ne ↦ subst Small (sym (get_or-set_other maps m n new empty ne)) small
]

shared_stays_small : (call : SharedCall) (contents : Contents) → HasSmallKey call → HasKeysBelow (2 ^ 32) contents → HasKeysBelow (2 ^ 32) (shared_after call contents)
shared_stays_small (calls.Map m call) contents fits small = λ n. one_replaced contents.maps m n (map_after call (map_at contents m)) (map_stays_small call (map_at contents m) (λ key is. fits m key call refl is) (small m)) (small n)
shared_stays_small (calls.Begin m) contents fits small = small
shared_stays_small (calls.Next begin) contents fits small = small
shared_stays_small (calls.Atomic a call) contents fits small = small

-- after one more call whose key has 32 bits, all keys of the maps have
pub keys_on : HistoryLaws → (k : Begin) (log : List SharedEntry) (c : ℕ) (x : Item) → x.entry ≡ is_entry x.call (contents_after (start_of k) log) → HasSmallKey x.call → HasKeysBelow (2 ^ 32) (contents_after (start_of k) log)
    → HasKeysBelow (2 ^ 32) (contents_after (start_of k) (history_with log c x))
keys_on laws k log c x entry fits small = subst (HasKeysBelow (2 ^ 32)) (sym (contents_on laws k log c x entry)) (shared_stays_small x.call (contents_after (start_of k) log) fits small)
