-- A table of vectors of bytes, in any order, is the finite map of its entries.
use Rattle.std.proofs.Common.{◌≡◌, ◌+◌, ℕ, Bool, true, false, cond, List, [], ◌∷◌, map, length, Some, None, refl, sym, ap, ◌∙◌}
use Rattle.std.specs.Global.{Vec}
use native.Mathlib.Numerals.{add-one}
use Rattle.std.specs.Prelude.{nat_eq, is_some}
use Rattle.std.specs.Ordering.{nat_cmp, is_eq}
use Rattle.std.specs.declared.cmp.Ordering.{Ordering}
use Rattle.std.specs.declared.cmp.Ordering.TheVariants.{Less, Equal, Greater}
use Rattle.std.specs.Cmp.Lexicographic.{slice_cmp, pointwise, texts_ties, nat_list_cmp_total}
use Rattle.std.proofs.lemmas.Cmp.{nat_list_eq_equiv}
use Rattle.std.specs.Map.{lookup, keys_of, KeepsOthers}
use Rattle.std.specs.List.{AllByRecursion, IsDistinct}
use Rattle.std.specs.FinMap.{get, insert, find, same_map, len, len-empty, len-insert, get-insert, get-from_entries, slice_cmp-IsAntisymmetric, nat_cmp-IsAntisymmetric}
use Rattle.sync_types.specs.ByName.{by_bytes}

equal_of : (r : Ordering) → is_eq r ≡ true → r ≡ Equal
equal_of Less e = absurd cc
equal_of Equal e = refl
equal_of Greater e = absurd cc

same_name : (a b : List ℕ) → pointwise nat_eq a b ≡ true → a ≡ b
same_name a b h = slice_cmp-IsAntisymmetric nat_cmp-IsAntisymmetric a b (equal_of (slice_cmp nat_cmp a b) (sym (texts_ties a b) ∙ h))

-- whether a vector has these bytes
abbrev pub is_at_name : List ℕ → Vec ℕ → Bool
is_at_name q k = pointwise nat_eq q k.items

-- whether two vectors have the same bytes
abbrev pub same_bytes : Vec ℕ → Vec ℕ → Bool
same_bytes a b = pointwise nat_eq a.items b.items

module _ {X : Type 0} where
  abbrev pairs : List (Vec ℕ × X) → List (List ℕ × X)
  pairs entries = map (λ e. (e.0.items, e.1)) entries

  find_name : (es : List (Vec ℕ × X)) (q : List ℕ) → find (slice_cmp nat_cmp) q (pairs es) ≡ lookup (is_at_name q) es
  find_name [] q = refl
  find_name (e ∷ es) q =
      ap (λ (b : Bool). cond b (Some e.1) (find (slice_cmp nat_cmp) q (pairs es))) (sym (texts_ties q e.0.items))
      ∙ ap (cond (is_at_name q e.0) (Some e.1)) (find_name es q)

  -- what the finite map has at a name is what the look-up finds
  pub get-by_name : (es : List (Vec ℕ × X)) (q : List ℕ) → get (by_bytes es) q ≡ lookup (is_at_name q) es
  get-by_name es q = get-from_entries nat_list_cmp_total (pairs es) q ∙ find_name es q

  -- where a value was put at a name, and the others keep theirs, it was inserted into the finite map
  pub by_bytes-put : (es ns : List (Vec ℕ × X)) (k : Vec ℕ) (v : X) → lookup (is_at_name k.items) ns ≡ Some v → KeepsOthers same_bytes (is_at_name k.items) es ns → by_bytes ns ≡ insert (by_bytes es) k.items v
  unfolding KeepsOthers
  by_bytes-put es ns k v gave others =
      same_map nat_list_cmp_total (slice_cmp-IsAntisymmetric nat_cmp-IsAntisymmetric) _ _ (λ q.
      get-by_name ns q
      ∙ elim (pointwise nat_eq q k.items) as (λ b. pointwise nat_eq q k.items ≡ b → lookup (is_at_name q) ns ≡ cond b (Some v) (get (by_bytes es) q)) [
        | true ↦ λ same. ap (λ (n : List ℕ). lookup (is_at_name n) ns) (same_name q k.items same) ∙ gave
        | false ↦ λ apart.
            others (is_at_name q) (λ x y h. nat_list_eq_equiv.congr q x.items y.items h) (λ z h. ap (pointwise nat_eq q) (sym (same_name k.items z.items h)) ∙ apart)
            ∙ sym (get-by_name es q)
      ] refl
      ∙ ap (λ (b : Bool). cond b (Some v) (get (by_bytes es) q)) (texts_ties q k.items)
      ∙ sym (get-insert nat_list_cmp_total (by_bytes es) k.items v q))

  none_found : (k : Vec ℕ) (es : List (Vec ℕ × X)) → AllByRecursion (λ y. same_bytes k y ≡ false) (keys_of es) → lookup (is_at_name k.items) es ≡ None
  none_found k [] h = refl
  none_found k (e ∷ es) h = ap (λ (b : Bool). cond b (Some e.1) (lookup (is_at_name k.items) es)) h.0 ∙ none_found k es h.1

  -- the finite map has as many names as the table, where no two are the same
  pub len-by_name : (es : List (Vec ℕ × X)) → IsDistinct same_bytes (keys_of es) → len (by_bytes es) ≡ length es
  unfolding IsDistinct
  len-by_name [] h = len-empty (slice_cmp nat_cmp) X
  len-by_name (e ∷ es) h =
      len-insert nat_list_cmp_total (by_bytes es) e.0.items e.1
      ∙ ap (λ found. cond (is_some found) (len (by_bytes es)) (len (by_bytes es) + 1)) (get-by_name es e.0.items ∙ none_found e.0 es h.0)
      ∙ ap (λ n. n + 1) (len-by_name es h.1)
      ∙ add-one (length es)
