-- A sorted table of vectors of bytes is the finite map of its entries.
use Rattle.std.proofs.Common.{◌≡◌, ℕ, Bool, true, false, ◌&&◌, cond, List, [], ◌∷◌, map, length, Some, None, refl, sym, ap, ◌∙◌}
use Rattle.std.specs.Global.{Vec}
use Rattle.std.specs.Ordering.{nat_cmp, eq_by_cmp, is_eq, match_ordering}
use Rattle.std.specs.declared.cmp.Ordering.{Ordering}
use Rattle.std.specs.declared.cmp.Ordering.TheVariants.{Less, Equal, Greater}
use Rattle.std.specs.Cmp.Lexicographic.{slice_cmp, nat_list_cmp_total}
use Rattle.std.specs.Map.{lookup, keys_of, remove_entry}
use Rattle.std.specs.List.{AllByRecursion}
use Rattle.std.specs.List.Sorted.{IsStrictlySortedBy}
use Rattle.std.proofs.lemmas.Map.Keys.{sorted_head, sorted_tail}
use Rattle.std.proofs.lemmas.List.{length-map, nil_from_length}
use Rattle.std.specs.BTreeMap.{is_at, insert_entry}
use Rattle.std.specs.FinMap.{get, insert, remove, from_entries, find, put, same_map, len, len-entries, entries, entries-insert, empty, len-empty, get-insert, get-remove, get-from_entries, slice_cmp-IsAntisymmetric, nat_cmp-IsAntisymmetric}
use Rattle.std.specs.FinMap.Entries.{find-put, by_order}
use Rattle.sync_types.specs.Name.{is_name}
use Rattle.sync_types.specs.ByName.{by_bytes, all_names}

and_left : (a b : Bool) → (a && b) ≡ true → a ≡ true
and_left true b e = refl
and_left false b e = e

and_right : (a b : Bool) → (a && b) ≡ true → b ≡ true
and_right true b e = e
and_right false b e = absurd cc

equal_of : (r : Ordering) → is_eq r ≡ true → r ≡ Equal
equal_of Less e = absurd cc
equal_of Equal e = refl
equal_of Greater e = absurd cc

-- the order of vectors of bytes, by their items
abbrev pub vec_cmp : Vec ℕ → Vec ℕ → Ordering
vec_cmp a b = slice_cmp nat_cmp a.items b.items

module _ {X : Type 0} where
  abbrev pub pairs : List (Vec ℕ × X) → List (List ℕ × X)
  pairs entries = map (λ e. (e.0.items, e.1)) entries

  find_bytes : (es : List (Vec ℕ × X)) (q : List ℕ) → find (slice_cmp nat_cmp) q (pairs es) ≡ lookup (is_at (λ k. slice_cmp nat_cmp q k.items)) es
  find_bytes [] q = refl
  find_bytes (e ∷ es) q = ap (cond (eq_by_cmp (slice_cmp nat_cmp) q e.0.items) (Some e.1)) (find_bytes es q)

  -- what the finite map has at a name is what the look-up finds
  pub get-by_bytes : (es : List (Vec ℕ × X)) (q : List ℕ) → get (by_bytes es) q ≡ lookup (is_at (λ k. slice_cmp nat_cmp q k.items)) es
  get-by_bytes es q = get-from_entries nat_list_cmp_total (pairs es) q ∙ find_bytes es q

  pairs_of_match : (r : Ordering) (k : Vec ℕ) (v : X) (e : Vec ℕ × X) (es inserted : List (Vec ℕ × X)) (rest : List (List ℕ × X)) → pairs inserted ≡ rest →
      pairs (match_ordering r ((k, v) ∷ e ∷ es) ((e.0, v) ∷ es) (e ∷ inserted)) ≡ by_order r ((k.items, v) ∷ pairs (e ∷ es)) ((e.0.items, v) ∷ pairs es) ((e.0.items, e.1) ∷ rest)
  pairs_of_match Less k v e es inserted rest h = refl
  pairs_of_match Equal k v e es inserted rest h = refl
  pairs_of_match Greater k v e es inserted rest h = ap (λ (x : List (List ℕ × X)). (e.0.items, e.1) ∷ x) h

  pairs-insert_entry : (es : List (Vec ℕ × X)) (k : Vec ℕ) (v : X) → pairs (insert_entry vec_cmp es k v) ≡ put (slice_cmp nat_cmp) k.items v (pairs es)
  pairs-insert_entry [] k v = refl
  pairs-insert_entry (e ∷ es) k v = pairs_of_match (vec_cmp k e.0) k v e es (insert_entry vec_cmp es k v) (put (slice_cmp nat_cmp) k.items v (pairs es)) (pairs-insert_entry es k v)

  -- to insert an entry is to insert it into the finite map
  pub by_bytes-insert_entry : (es : List (Vec ℕ × X)) (k : Vec ℕ) (v : X) → by_bytes (insert_entry vec_cmp es k v) ≡ insert (by_bytes es) k.items v
  by_bytes-insert_entry es k v =
      same_map nat_list_cmp_total (slice_cmp-IsAntisymmetric nat_cmp-IsAntisymmetric) _ _ (λ q.
      ap (λ (x : List (List ℕ × X)). get (from_entries {R = slice_cmp nat_cmp} x) q) (pairs-insert_entry es k v)
      ∙ get-from_entries nat_list_cmp_total (put (slice_cmp nat_cmp) k.items v (pairs es)) q
      ∙ find-put (slice_cmp nat_cmp) nat_list_cmp_total q k.items v (pairs es)
      ∙ sym (get-insert nat_list_cmp_total (by_bytes es) k.items v q
      ∙ ap (cond (eq_by_cmp (slice_cmp nat_cmp) q k.items) (Some v)) (get-from_entries nat_list_cmp_total (pairs es) q)))

  -- to remove an entry leaves what the finite map has at the other names
  find-remove_entry : (es : List (Vec ℕ × X)) (key q : List ℕ) → eq_by_cmp (slice_cmp nat_cmp) q key ≡ false → find (slice_cmp nat_cmp) q (pairs (remove_entry (is_at (λ k. slice_cmp nat_cmp key k.items)) es)) ≡ find (slice_cmp nat_cmp) q (pairs es)
  find-remove_entry [] key q apart = refl
  find-remove_entry (e ∷ es) key q apart =
      elim (slice_cmp nat_cmp key e.0.items) as (λ r. slice_cmp nat_cmp key e.0.items ≡ r → find (slice_cmp nat_cmp) q (pairs (cond (is_eq r) es (e ∷ remove_entry (is_at (λ k. slice_cmp nat_cmp key k.items)) es))) ≡ find (slice_cmp nat_cmp) q (pairs (e ∷ es))) [
        | Equal ↦ λ is.
            let same : key ≡ e.0.items = slice_cmp-IsAntisymmetric nat_cmp-IsAntisymmetric key e.0.items is in
            let other : eq_by_cmp (slice_cmp nat_cmp) q e.0.items ≡ false = ap (eq_by_cmp (slice_cmp nat_cmp) q) (sym same) ∙ apart in
            rw other refl
        | Less ↦ λ is. ap (cond (eq_by_cmp (slice_cmp nat_cmp) q e.0.items) (Some e.1)) (find-remove_entry es key q apart)
        | Greater ↦ λ is. ap (cond (eq_by_cmp (slice_cmp nat_cmp) q e.0.items) (Some e.1)) (find-remove_entry es key q apart)
      ] refl

  -- to remove an entry, so that none is left at its name, is to remove the name from the finite map
  pub by_bytes-remove_entry : (es rest : List (Vec ℕ × X)) (key : List ℕ) → rest ≡ remove_entry (is_at (λ k. slice_cmp nat_cmp key k.items)) es → lookup (is_at (λ k. slice_cmp nat_cmp key k.items)) rest ≡ None → by_bytes rest ≡ remove (by_bytes es) key
  by_bytes-remove_entry es rest key is none =
      same_map nat_list_cmp_total (slice_cmp-IsAntisymmetric nat_cmp-IsAntisymmetric) _ _ (λ q.
      elim (eq_by_cmp (slice_cmp nat_cmp) q key) as (λ b. eq_by_cmp (slice_cmp nat_cmp) q key ≡ b → get (by_bytes rest) q ≡ cond b None (get (by_bytes es) q)) [
        | true ↦ λ same.
            let name : q ≡ key = slice_cmp-IsAntisymmetric nat_cmp-IsAntisymmetric q key (equal_of (slice_cmp nat_cmp q key) same) in
            ap (get (by_bytes rest)) name ∙ get-by_bytes rest key ∙ none
        | false ↦ λ apart.
            get-from_entries nat_list_cmp_total (pairs rest) q
            ∙ ap (λ (x : List (Vec ℕ × X)). find (slice_cmp nat_cmp) q (pairs x)) is
            ∙ find-remove_entry es key q apart
            ∙ sym (get-from_entries nat_list_cmp_total (pairs es) q)
      ] refl
      ∙ sym (get-remove nat_list_cmp_total (by_bytes es) key q))

  -- the names that are left
  pub all_names-remove_entry : (test : Vec ℕ → Bool) (es : List (Vec ℕ × X)) → all_names es ≡ true → all_names (remove_entry test es) ≡ true
  all_names-remove_entry test [] h = refl
  all_names-remove_entry test (e ∷ es) h =
      elim (test e.0) as (λ b. all_names (cond b es (e ∷ remove_entry test es)) ≡ true) [
        | true ↦ and_right (is_name e.0.items) (all_names es) h
        | false ↦ rw (and_left (is_name e.0.items) (all_names es) h) (all_names-remove_entry test es (and_right (is_name e.0.items) (all_names es) h))
      ]

  names_of_match : (r : Ordering) (k : Vec ℕ) (v : X) (e : Vec ℕ × X) (es inserted : List (Vec ℕ × X)) → all_names (e ∷ es) ≡ true → is_name k.items ≡ true → all_names inserted ≡ true →
      all_names (match_ordering r ((k, v) ∷ e ∷ es) ((e.0, v) ∷ es) (e ∷ inserted)) ≡ true
  names_of_match Less k v e es inserted h named hi = rw named h
  names_of_match Equal k v e es inserted h named hi = h
  names_of_match Greater k v e es inserted h named hi = rw (and_left (is_name e.0.items) (all_names es) h) hi

  -- one more name
  pub all_names-insert_entry : (es : List (Vec ℕ × X)) (k : Vec ℕ) (v : X) → all_names es ≡ true → is_name k.items ≡ true → all_names (insert_entry vec_cmp es k v) ≡ true
  all_names-insert_entry [] k v h named = rw named refl
  all_names-insert_entry (e ∷ es) k v h named =
      names_of_match (vec_cmp k e.0) k v e es (insert_entry vec_cmp es k v) h named (all_names-insert_entry es k v (and_right (is_name e.0.items) (all_names es) h) named)

  put_first : (k : Vec ℕ) (v : X) (es : List (Vec ℕ × X)) → AllByRecursion (λ y. vec_cmp k y ≡ Less) (keys_of es) → put (slice_cmp nat_cmp) k.items v (pairs es) ≡ (k.items, v) ∷ pairs es
  put_first k v [] h = refl
  put_first k v (e ∷ es) h = ap (λ (r : Ordering). by_order r ((k.items, v) ∷ pairs (e ∷ es)) ((e.0.items, v) ∷ pairs es) ((e.0.items, e.1) ∷ put (slice_cmp nat_cmp) k.items v (pairs es))) h.0

  -- the entries of a sorted table are those of the finite map, in the same order
  pub entries-by_bytes : (es : List (Vec ℕ × X)) → IsStrictlySortedBy vec_cmp (keys_of es) → entries (by_bytes es) ≡ pairs es
  entries-by_bytes [] h = nil_from_length (entries (empty {X = X} {R = slice_cmp nat_cmp})) (sym (len-entries (empty {X = X} {R = slice_cmp nat_cmp})) ∙ len-empty (slice_cmp nat_cmp) X)
  entries-by_bytes (e ∷ es) h =
      entries-insert nat_list_cmp_total (by_bytes es) e.0.items e.1
      ∙ ap (put (slice_cmp nat_cmp) e.0.items e.1) (entries-by_bytes es (sorted_tail vec_cmp e.0 (keys_of es) h))
      ∙ put_first e.0 e.1 es (sorted_head vec_cmp e.0 (keys_of es) h)

  pub len-by_bytes : (es : List (Vec ℕ × X)) → IsStrictlySortedBy vec_cmp (keys_of es) → len (by_bytes es) ≡ length es
  len-by_bytes es h = len-entries (by_bytes es) ∙ ap length (entries-by_bytes es h) ∙ length-map es (λ (e : Vec ℕ × X). (e.0.items, e.1))
