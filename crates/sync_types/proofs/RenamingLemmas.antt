-- A map and the same with its keys renamed.
use Rattle.std.proofs.Common.{◌≡◌, ℕ, Bool, true, false, cond, Some, None, is_some, refl, sym, ap, ◌∙◌}
use Rattle.std.specs.Prelude.{◌≢◌}
use Rattle.std.specs.declared.cmp.Ordering.{Ordering}
use Rattle.std.specs.declared.cmp.Ordering.TheVariants.{Less, Equal, Greater}
use Rattle.std.specs.Ordering.{eq_by_cmp, is_eq}
use Rattle.std.specs.Cmp.{tied_itself}
use Rattle.std.specs.FinMap.{FinMap, empty, get, insert, remove, get-empty, get-insert, get-remove}
use Rattle.sync_types.specs.declared.map_object.MapCall.{MapCall}
use Rattle.sync_types.specs.declared.map_object.MapCall.TheVariants.{Load, Store, LoadOrStore, LoadAndDelete, Delete, Swap, CompareAndSwap, CompareAndDelete, Clear}
use Rattle.sync_types.specs.declared.map_object.MapReply.TheVariants.{Found, Compared}
use Rattle.sync_types.specs.SequentialMap.{has_value, settled, map_reply, map_after, is_map_entry}
use Rattle.sync_types.specs.MapLaws.{IsKeyOrder}
use Rattle.sync_types.specs.Renaming.{renamed_call, IsOneToOne, IsRenamed, is_call_at}
use Rattle.sync_types.proofs.MapLemmas.{tied, apart, inserted_apart, removed_apart}

module _ {K L : Type 0} {R : K → K → Ordering} {S : L → L → Ordering} (rename : K → L) (is_key : K → Bool) where
  pub none_renamed : (m : FinMap R ℕ) (n : FinMap S ℕ) → m ≡ empty → n ≡ empty → IsRenamed rename is_key m n
  none_renamed m n e f = record {
    same = λ key is. ap (λ (x : FinMap S ℕ). get x (rename key)) f ∙ get-empty S (rename key) ∙ sym (ap (λ (x : FinMap R ℕ). get x key) e ∙ get-empty R key);
    keys = λ key is. ap (λ (x : FinMap R ℕ). get x key) e ∙ get-empty R key;
    names = λ name is. ap (λ (x : FinMap S ℕ). get x name) f ∙ get-empty S name;
  }

  module _ (m : FinMap R ℕ) (n : FinMap S ℕ) (r : IsRenamed rename is_key m n) where
    pub same_reply : (call : MapCall K) → is_call_at is_key call ≡ true → map_reply (renamed_call rename call) n ≡ map_reply call m
    same_reply (Load key) is = ap Found (r.same key is)
    same_reply (Store key value) is = refl
    same_reply (LoadOrStore key value) is = ap (λ f. settled f value) (r.same key is)
    same_reply (LoadAndDelete key) is = ap Found (r.same key is)
    same_reply (Delete key) is = refl
    same_reply (Swap key value) is = ap Found (r.same key is)
    same_reply (CompareAndSwap key old new) is = ap (λ f. Compared (has_value old f)) (r.same key is)
    same_reply (CompareAndDelete key old) is = ap (λ f. Compared (has_value old f)) (r.same key is)
    same_reply Clear is = refl

    pub same_entry : (call : MapCall K) → is_call_at is_key call ≡ true → is_map_entry (renamed_call rename call) n ≡ is_map_entry call m
    same_entry (Load key) is = refl
    same_entry (Store key value) is = refl
    same_entry (LoadOrStore key value) is = ap (λ f. cond (is_some f) false true) (r.same key is)
    same_entry (LoadAndDelete key) is = ap is_some (r.same key is)
    same_entry (Delete key) is = ap is_some (r.same key is)
    same_entry (Swap key value) is = refl
    same_entry (CompareAndSwap key old new) is = ap (has_value old) (r.same key is)
    same_entry (CompareAndDelete key old) is = ap (has_value old) (r.same key is)
    same_entry Clear is = refl

    module _ (o : IsKeyOrder R) (p : IsKeyOrder S) (one : IsOneToOne rename is_key) where
      tie_found : (key at : K) (t : Ordering) → R key at ≡ t → is_key key ≡ true → is_key at ≡ true → eq_by_cmp S (rename key) (rename at) ≡ is_eq t
      tie_found key at Less e k a = apart p (rename key) (rename at) (λ same. absurd (let tied : R key key ≡ Less = ap (R key) (one key at k a same) ∙ e in let equal : R key key ≡ Equal = tied_itself o.0 key in cc))
      tie_found key at Equal e k a = ap (λ x. eq_by_cmp S (rename key) (rename x)) (sym (o.1 key at e)) ∙ tied p (rename key)
      tie_found key at Greater e k a = apart p (rename key) (rename at) (λ same. absurd (let tied : R key key ≡ Greater = ap (R key) (one key at k a same) ∙ e in let equal : R key key ≡ Equal = tied_itself o.0 key in cc))

      -- keys tie exactly where their names do
      tie : (key at : K) → is_key key ≡ true → is_key at ≡ true → eq_by_cmp S (rename key) (rename at) ≡ eq_by_cmp R key at
      tie key at k a = tie_found key at (R key at) refl k a

      other : (key at : K) → is_key key ≡ false → is_key at ≡ true → key ≢ at
      other key at k a e = let same : is_key key ≡ is_key at = ap is_key e in cc

      inserted : (at : K) (value : ℕ) → is_key at ≡ true → IsRenamed rename is_key (insert m at value) (insert n (rename at) value)
      inserted at value a = record {
        same = λ key k. get-insert p.0 n (rename at) value (rename key)
            ∙ ap (λ b. cond b (Some value) (get n (rename key))) (tie key at k a)
            ∙ ap (cond (eq_by_cmp R key at) (Some value)) (r.same key k)
            ∙ sym (get-insert o.0 m at value key);
        keys = λ key k. inserted_apart o m at value key (other key at k a) ∙ r.keys key k;
        names = λ name no. inserted_apart p n (rename at) value name (no at a) ∙ r.names name no;
      }

      removed : (at : K) → is_key at ≡ true → IsRenamed rename is_key (remove m at) (remove n (rename at))
      removed at a = record {
        same = λ key k. get-remove p.0 n (rename at) (rename key)
            ∙ ap (λ b. cond b None (get n (rename key))) (tie key at k a)
            ∙ ap (cond (eq_by_cmp R key at) None) (r.same key k)
            ∙ sym (get-remove o.0 m at key);
        keys = λ key k. removed_apart o m at key (other key at k a) ∙ r.keys key k;
        names = λ name no. removed_apart p n (rename at) name (no at a) ∙ r.names name no;
      }

      either : (b c : Bool) (m₁ m₂ : FinMap R ℕ) (n₁ n₂ : FinMap S ℕ) → c ≡ b → IsRenamed rename is_key m₁ n₁ → IsRenamed rename is_key m₂ n₂ →
          IsRenamed rename is_key (cond b m₁ m₂) (cond c n₁ n₂)
      either true true m₁ m₂ n₁ n₂ e x y = x
      either false false m₁ m₂ n₁ n₂ e x y = y
      either true false m₁ m₂ n₁ n₂ e x y = absurd cc
      either false true m₁ m₂ n₁ n₂ e x y = absurd cc

      pub renamed_after : (call : MapCall K) → is_call_at is_key call ≡ true → IsRenamed rename is_key (map_after call m) (map_after (renamed_call rename call) n)
      renamed_after (Load key) is = r
      renamed_after (Store key value) is = inserted key value is
      renamed_after (LoadOrStore key value) is = either (is_some (get m key)) (is_some (get n (rename key))) m (insert m key value) n (insert n (rename key) value) (ap is_some (r.same key is)) r (inserted key value is)
      renamed_after (LoadAndDelete key) is = removed key is
      renamed_after (Delete key) is = removed key is
      renamed_after (Swap key value) is = inserted key value is
      renamed_after (CompareAndSwap key old new) is = either (has_value old (get m key)) (has_value old (get n (rename key))) (insert m key new) m (insert n (rename key) new) n (ap (has_value old) (r.same key is)) (inserted key new is) r
      renamed_after (CompareAndDelete key old) is = either (has_value old (get m key)) (has_value old (get n (rename key))) (remove m key) m (remove n (rename key)) n (ap (has_value old) (r.same key is)) (removed key is) r
      renamed_after Clear is = none_renamed empty empty refl refl
