-- What the calls of a map do.
use Rattle.std.proofs.Common.{◌≡◌, ℕ, Bool, true, false, cond, Option, Some, None, is_some, refl, sym, ap, subst, ◌∙◌}
use Rattle.std.specs.Prelude.{◌≢◌}
use Rattle.std.specs.declared.cmp.Ordering.{Ordering}
use Rattle.std.specs.declared.cmp.Ordering.TheVariants.{Less, Equal, Greater}
use Rattle.std.specs.Ordering.{eq_by_cmp, is_eq}
use Rattle.std.specs.Cmp.{tied_itself}
use Rattle.std.specs.FinMap.{FinMap, get, insert, remove, get-empty, get-insert, get-remove, same_map}
use Rattle.std.proofs.lemmas.Bool.{eq-eqb}
use Rattle.sync_types.specs.declared.map_object.MapCall.{MapCall}
use Rattle.sync_types.specs.declared.map_object.MapCall.TheVariants.{Load, Store, LoadOrStore, LoadAndDelete, Delete, Swap, CompareAndSwap, CompareAndDelete, Clear}
use Rattle.sync_types.specs.declared.map_object.MapReply.TheVariants.{Found, Settled, Compared}
use Rattle.sync_types.specs.SequentialMap.{has_value, settled, map_reply, map_after, map_key, is_map_entry}
use Rattle.sync_types.specs.MapLaws.{IsKeyOrder, Finds}
use Rattle.sync_types.specs.KeyCalls.{key_reply, is_key_entry, key_after}

found_is : (a b : Option ℕ) → Found a ≡ Found b → a ≡ b
found_is a b e = cc

compared_is : (a b : Bool) → Compared a ≡ Compared b → a ≡ b
compared_is a b e = cc

some_is : {X : Type 0} (x y : X) → Some x ≡ Some y → x ≡ y
some_is x y e = cc

has_value-same : (old : ℕ) → has_value old (Some old) ≡ true
has_value-same old = eq-eqb old old refl

module _ {K : Type 0} {R : K → K → Ordering} where
  pub value_there : (m : FinMap R ℕ) (key : K) (old : ℕ) → Finds m key (Some old) → has_value old (get m key) ≡ true
  value_there m key old finds = ap (has_value old) (found_is (get m key) (Some old) finds) ∙ has_value-same old

  module _ (o : IsKeyOrder R) where
    pub tied : (key : K) → eq_by_cmp R key key ≡ true
    tied key = ap is_eq (tied_itself o.0 key)

    pub apart : (other key : K) → other ≢ key → eq_by_cmp R other key ≡ false
    apart other key ne =
        elim (R other key) as (λ r. R other key ≡ r → is_eq r ≡ false) [
          | Less ↦ λ e. refl
          | Equal ↦ λ e. absurd (ne (o.1 other key e))
          | Greater ↦ λ e. refl
        ] refl

    pub get_inserted : (m : FinMap R ℕ) (key : K) (value : ℕ) → get (insert m key value) key ≡ Some value
    get_inserted m key value = get-insert o.0 m key value key ∙ ap (λ b. cond b (Some value) (get m key)) (tied key)

    pub get_removed : (m : FinMap R ℕ) (key : K) → get (remove m key) key ≡ None
    get_removed m key = get-remove o.0 m key key ∙ ap (λ b. cond b None (get m key)) (tied key)

    pub inserted_apart : (m : FinMap R ℕ) (key : K) (value : ℕ) (other : K) → other ≢ key → get (insert m key value) other ≡ get m other
    inserted_apart m key value other ne = get-insert o.0 m key value other ∙ ap (λ b. cond b (Some value) (get m other)) (apart other key ne)

    pub removed_apart : (m : FinMap R ℕ) (key other : K) → other ≢ key → get (remove m key) other ≡ get m other
    removed_apart m key other ne = get-remove o.0 m key other ∙ ap (λ b. cond b None (get m other)) (apart other key ne)

    pub found_inserted : (m : FinMap R ℕ) (key : K) (value : ℕ) → Finds (insert m key value) key (Some value)
    found_inserted m key value = ap Found (get_inserted m key value)

    pub found_removed : (m : FinMap R ℕ) (key : K) → Finds (remove m key) key None
    found_removed m key = ap Found (get_removed m key)

    pub swap_made : (m : FinMap R ℕ) (key : K) (old new : ℕ) → has_value old (get m key) ≡ true →
        Finds (map_after (CompareAndSwap key old new) m) key (Some new)
    swap_made m key old new e = ap (λ b. map_reply (Load key) (cond b (insert m key new) m)) e ∙ found_inserted m key new

    pub found_compared : (m : FinMap R ℕ) (key : K) (old new : ℕ) → map_reply (CompareAndSwap key old new) m ≡ Compared true →
        Finds (map_after (CompareAndSwap key old new) m) key (Some new)
    found_compared m key old new e = swap_made m key old new (compared_is (has_value old (get m key)) true e)

    pub delete_made : (m : FinMap R ℕ) (key : K) (old : ℕ) → has_value old (get m key) ≡ true →
        Finds (map_after (CompareAndDelete key old) m) key None
    delete_made m key old e = ap (λ b. map_reply (Load key) (cond b (remove m key) m)) e ∙ found_removed m key

    settled_by : (m : FinMap R ℕ) (key : K) (value there : ℕ) (loaded : Bool) (f : Option ℕ) → get m key ≡ f → settled f value ≡ Settled there loaded →
        Finds (cond (is_some f) m (insert m key value)) key (Some there)
    settled_by m key value there loaded None is e = found_inserted m key value ∙ (let same : value ≡ there = cc in ap (λ v. Found (Some v)) same)
    settled_by m key value there loaded (Some held) is e = ap Found is ∙ (let same : held ≡ there = cc in ap (λ v. Found (Some v)) same)

    pub found_settled : (m : FinMap R ℕ) (key : K) (value there : ℕ) (loaded : Bool) → map_reply (LoadOrStore key value) m ≡ Settled there loaded →
        Finds (map_after (LoadOrStore key value) m) key (Some there)
    found_settled m key value there loaded e = settled_by m key value there loaded (get m key) refl e

    either_apart : (b : Bool) (m n l : FinMap R ℕ) (other : K) → get m other ≡ get l other → get n other ≡ get l other → get (cond b m n) other ≡ get l other
    either_apart true m n l other p q = p
    either_apart false m n l other p q = q

    keyed : (m : FinMap R ℕ) (at key other : K) → Some at ≡ Some key → other ≢ key → other ≢ at
    keyed m at key other e ne is = ne (is ∙ some_is at key e)

    pub get_apart : (m : FinMap R ℕ) (call : MapCall K) (key other : K) → map_key call ≡ Some key → other ≢ key → get (map_after call m) other ≡ get m other
    get_apart m (Load at) key other e ne = refl
    get_apart m (Store at value) key other e ne = inserted_apart m at value other (keyed m at key other e ne)
    get_apart m (LoadOrStore at value) key other e ne = either_apart (is_some (get m at)) m (insert m at value) m other refl (inserted_apart m at value other (keyed m at key other e ne))
    get_apart m (LoadAndDelete at) key other e ne = removed_apart m at other (keyed m at key other e ne)
    get_apart m (Delete at) key other e ne = removed_apart m at other (keyed m at key other e ne)
    get_apart m (Swap at value) key other e ne = inserted_apart m at value other (keyed m at key other e ne)
    get_apart m (CompareAndSwap at old new) key other e ne = either_apart (has_value old (get m at)) (insert m at new) m m other (inserted_apart m at new other (keyed m at key other e ne)) refl
    get_apart m (CompareAndDelete at old) key other e ne = either_apart (has_value old (get m at)) (remove m at) m m other (removed_apart m at other (keyed m at key other e ne)) refl
    get_apart m Clear key other e ne = absurd cc

    pub found_apart : (m : FinMap R ℕ) (call : MapCall K) (key other : K) → map_key call ≡ Some key → other ≢ key →
        map_reply (Load other) (map_after call m) ≡ map_reply (Load other) m
    found_apart m call key other e ne = ap Found (get_apart m call key other e ne)

    none_is : (f : Option ℕ) → is_some f ≡ false → f ≡ None
    none_is None e = refl
    none_is (Some x) e = absurd cc

    removed_at : (m : FinMap R ℕ) (key q : K) (r : Ordering) → R q key ≡ r → get m key ≡ None → cond (is_eq r) None (get m q) ≡ get m q
    removed_at m key q Less is absent = refl
    removed_at m key q Equal is absent = sym (ap (get m) (o.1 q key is) ∙ absent)
    removed_at m key q Greater is absent = refl

    -- to remove an absent key changes nothing
    remove_absent : (m : FinMap R ℕ) (key : K) → is_some (get m key) ≡ false → remove m key ≡ m
    remove_absent m key absent =
        same_map o.0 o.1 (remove m key) m (λ q. get-remove o.0 m key q ∙ removed_at m key q (R q key) refl (none_is (get m key) absent))

    pub unchanged : (m : FinMap R ℕ) (call : MapCall K) → is_map_entry call m ≡ false → map_after call m ≡ m
    unchanged m (Load key) e = refl
    unchanged m (Store key value) e = absurd cc
    unchanged m (LoadOrStore key value) e = stored (is_some (get m key)) e
      where
        stored : (b : Bool) → cond b false true ≡ false → cond b m (insert m key value) ≡ m
        stored true e = refl
        stored false e = absurd cc
    unchanged m (LoadAndDelete key) e = remove_absent m key e
    unchanged m (Delete key) e = remove_absent m key e
    unchanged m (Swap key value) e = absurd cc
    unchanged m (CompareAndSwap key old new) e = ap (λ b. cond b (insert m key new) m) e
    unchanged m (CompareAndDelete key old) e = ap (λ b. cond b (remove m key) m) e
    unchanged m Clear e = absurd cc

    on_choice : (b : Bool) (m n : FinMap R ℕ) (key : K) (x y : Option ℕ) → get m key ≡ x → get n key ≡ y → get (cond b m n) key ≡ cond b x y
    on_choice true m n key x y e g = e
    on_choice false m n key x y e g = g

    -- what a call leaves at its key
    left_at : (m : FinMap R ℕ) (call : MapCall K) (key : K) → map_key call ≡ Some key → get (map_after call m) key ≡ key_after call (get m key)
    left_at m (Load at) key on = refl
    left_at m (Store at value) key on = subst (λ q. get (insert m q value) key ≡ Some value) (sym (some_is at key on)) (get_inserted m key value)
    left_at m (LoadOrStore at value) key on = subst (λ q. get (cond (is_some (get m q)) m (insert m q value)) key ≡ cond (is_some (get m key)) (get m key) (Some value)) (sym (some_is at key on))
        (on_choice (is_some (get m key)) m (insert m key value) key (get m key) (Some value) refl (get_inserted m key value))
    left_at m (LoadAndDelete at) key on = subst (λ q. get (remove m q) key ≡ None) (sym (some_is at key on)) (get_removed m key)
    left_at m (Delete at) key on = subst (λ q. get (remove m q) key ≡ None) (sym (some_is at key on)) (get_removed m key)
    left_at m (Swap at value) key on = subst (λ q. get (insert m q value) key ≡ Some value) (sym (some_is at key on)) (get_inserted m key value)
    left_at m (CompareAndSwap at old new) key on = subst (λ q. get (cond (has_value old (get m q)) (insert m q new) m) key ≡ cond (has_value old (get m key)) (Some new) (get m key)) (sym (some_is at key on))
        (on_choice (has_value old (get m key)) (insert m key new) m key (Some new) (get m key) (get_inserted m key new) refl)
    left_at m (CompareAndDelete at old) key on = subst (λ q. get (cond (has_value old (get m q)) (remove m q) m) key ≡ cond (has_value old (get m key)) None (get m key)) (sym (some_is at key on))
        (on_choice (has_value old (get m key)) (remove m key) m key None (get m key) (get_removed m key) refl)
    left_at m Clear key on = absurd cc

    pub found_after : (m : FinMap R ℕ) (call : MapCall K) (key : K) (held : Option ℕ) → map_key call ≡ Some key → Finds m key held → Finds (map_after call m) key (key_after call held)
    found_after m call key held on finds = ap Found (left_at m call key on ∙ ap (key_after call) (found_is (get m key) held finds))

  -- what a call answers, by what its key has
  answered_at : (m : FinMap R ℕ) (call : MapCall K) (key : K) → map_key call ≡ Some key → map_reply call m ≡ key_reply call (get m key)
  answered_at m (Load at) key on = subst (λ q. map_reply (Load at) m ≡ key_reply (Load at) (get m q)) (some_is at key on) refl
  answered_at m (Store at value) key on = refl
  answered_at m (LoadOrStore at value) key on = subst (λ q. map_reply (LoadOrStore at value) m ≡ key_reply (LoadOrStore at value) (get m q)) (some_is at key on) refl
  answered_at m (LoadAndDelete at) key on = subst (λ q. map_reply (LoadAndDelete at) m ≡ key_reply (LoadAndDelete at) (get m q)) (some_is at key on) refl
  answered_at m (Delete at) key on = refl
  answered_at m (Swap at value) key on = subst (λ q. map_reply (Swap at value) m ≡ key_reply (Swap at value) (get m q)) (some_is at key on) refl
  answered_at m (CompareAndSwap at old new) key on = subst (λ q. map_reply (CompareAndSwap at old new) m ≡ key_reply (CompareAndSwap at old new) (get m q)) (some_is at key on) refl
  answered_at m (CompareAndDelete at old) key on = subst (λ q. map_reply (CompareAndDelete at old) m ≡ key_reply (CompareAndDelete at old) (get m q)) (some_is at key on) refl
  answered_at m Clear key on = absurd cc

  -- whether it is an entry
  entered_at : (m : FinMap R ℕ) (call : MapCall K) (key : K) → map_key call ≡ Some key → is_map_entry call m ≡ is_key_entry call (get m key)
  entered_at m (Load at) key on = refl
  entered_at m (Store at value) key on = refl
  entered_at m (LoadOrStore at value) key on = subst (λ q. is_map_entry (LoadOrStore at value) m ≡ is_key_entry (LoadOrStore at value) (get m q)) (some_is at key on) refl
  entered_at m (LoadAndDelete at) key on = subst (λ q. is_map_entry (LoadAndDelete at) m ≡ is_key_entry (LoadAndDelete at) (get m q)) (some_is at key on) refl
  entered_at m (Delete at) key on = subst (λ q. is_map_entry (Delete at) m ≡ is_key_entry (Delete at) (get m q)) (some_is at key on) refl
  entered_at m (Swap at value) key on = refl
  entered_at m (CompareAndSwap at old new) key on = subst (λ q. is_map_entry (CompareAndSwap at old new) m ≡ is_key_entry (CompareAndSwap at old new) (get m q)) (some_is at key on) refl
  entered_at m (CompareAndDelete at old) key on = subst (λ q. is_map_entry (CompareAndDelete at old) m ≡ is_key_entry (CompareAndDelete at old) (get m q)) (some_is at key on) refl
  entered_at m Clear key on = absurd cc

  pub reply_at : (m : FinMap R ℕ) (call : MapCall K) (key : K) (held : Option ℕ) → map_key call ≡ Some key → Finds m key held → map_reply call m ≡ key_reply call held
  reply_at m call key held on finds = answered_at m call key on ∙ ap (key_reply call) (found_is (get m key) held finds)

  pub entry_at : (m : FinMap R ℕ) (call : MapCall K) (key : K) (held : Option ℕ) → map_key call ≡ Some key → Finds m key held → is_map_entry call m ≡ is_key_entry call held
  entry_at m call key held on finds = entered_at m call key on ∙ ap (is_key_entry call) (found_is (get m key) held finds)

  -- a clear is on every key
  pub cleared_at : (m : FinMap R ℕ) (call : MapCall K) (key : K) (held : Option ℕ) → map_key call ≡ None → (map_reply call m ≡ key_reply call held) × (is_map_entry call m ≡ is_key_entry call held) × Finds (map_after call m) key (key_after call held)
  cleared_at m Clear key held none = (refl, refl, ap Found (get-empty R key))
  cleared_at m (Load at) key held none = absurd cc
  cleared_at m (Store at value) key held none = absurd cc
  cleared_at m (LoadOrStore at value) key held none = absurd cc
  cleared_at m (LoadAndDelete at) key held none = absurd cc
  cleared_at m (Delete at) key held none = absurd cc
  cleared_at m (Swap at value) key held none = absurd cc
  cleared_at m (CompareAndSwap at old new) key held none = absurd cc
  cleared_at m (CompareAndDelete at old) key held none = absurd cc
