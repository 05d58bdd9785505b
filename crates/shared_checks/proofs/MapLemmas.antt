-- A sorted table of numbers is the finite map of its entries.
use Rattle.std.proofs.Common.{◌≡◌, ℕ, true, false, cond, List, [], ◌∷◌, Some, None, refl, sym, ap, ◌∙◌}
use Rattle.std.specs.Ordering.{nat_cmp, eq_by_cmp, is_eq, match_ordering}
use Rattle.std.specs.declared.cmp.Ordering.{Ordering}
use Rattle.std.specs.declared.cmp.Ordering.TheVariants.{Less, Equal, Greater}
use Rattle.std.specs.Map.{lookup, remove_entry}
use Rattle.std.specs.BTreeMap.{is_at, insert_entry}
use Rattle.std.specs.FinMap.{FinMap, get, insert, remove, from_entries, find, put, same_map, get-insert, get-remove, get-from_entries, nat_cmp-IsAntisymmetric}
use Rattle.std.specs.FinMap.Entries.{find-put, by_order}
use Rattle.std.proofs.lemmas.Cmp.{nat_cmp_total}

abbrev pub Entries : Type 0
Entries = List (ℕ × ℕ)

abbrev pub map_of : Entries → FinMap nat_cmp ℕ
map_of es = from_entries es

equal_of : (r : Ordering) → is_eq r ≡ true → r ≡ Equal
equal_of Less e = absurd cc
equal_of Equal e = refl
equal_of Greater e = absurd cc

find_lookup : (es : Entries) (q : ℕ) → find nat_cmp q es ≡ lookup (is_at (nat_cmp q)) es
find_lookup [] q = refl
find_lookup (e ∷ es) q = ap (cond (eq_by_cmp nat_cmp q e.0) (Some e.1)) (find_lookup es q)

pub get_of : (es : Entries) (q : ℕ) → get (map_of es) q ≡ lookup (is_at (nat_cmp q)) es
get_of es q = get-from_entries nat_cmp_total es q ∙ find_lookup es q

by_match : (r : Ordering) (k v : ℕ) (e : ℕ × ℕ) (es inserted rest : Entries) → inserted ≡ rest → match_ordering r ((k, v) ∷ e ∷ es) ((e.0, v) ∷ es) (e ∷ inserted) ≡ by_order r ((k, v) ∷ e ∷ es) ((e.0, v) ∷ es) (e ∷ rest)
by_match Less k v e es inserted rest h = refl
by_match Equal k v e es inserted rest h = refl
by_match Greater k v e es inserted rest h = ap (λ (x : Entries). e ∷ x) h

inserted_is : (es : Entries) (k v : ℕ) → insert_entry nat_cmp es k v ≡ put nat_cmp k v es
inserted_is [] k v = refl
inserted_is (e ∷ es) k v = by_match (nat_cmp k e.0) k v e es (insert_entry nat_cmp es k v) (put nat_cmp k v es) (inserted_is es k v)

pub insert_of : (es : Entries) (k v : ℕ) → map_of (insert_entry nat_cmp es k v) ≡ insert (map_of es) k v
insert_of es k v =
    same_map nat_cmp_total nat_cmp-IsAntisymmetric _ _ (λ q.
    ap (λ (x : Entries). get (map_of x) q) (inserted_is es k v)
    ∙ get-from_entries nat_cmp_total (put nat_cmp k v es) q
    ∙ find-put nat_cmp nat_cmp_total q k v es
    ∙ sym (get-insert nat_cmp_total (map_of es) k v q
    ∙ ap (cond (eq_by_cmp nat_cmp q k) (Some v)) (get-from_entries nat_cmp_total es q)))

find_others : (es : Entries) (key q : ℕ) → eq_by_cmp nat_cmp q key ≡ false → find nat_cmp q (remove_entry (is_at (nat_cmp key)) es) ≡ find nat_cmp q es
find_others [] key q apart = refl
find_others (e ∷ es) key q apart =
    elim (nat_cmp key e.0) as (λ r. nat_cmp key e.0 ≡ r → find nat_cmp q (cond (is_eq r) es (e ∷ remove_entry (is_at (nat_cmp key)) es)) ≡ find nat_cmp q (e ∷ es)) [
      | Equal ↦ λ is.
          let same : key ≡ e.0 = nat_cmp-IsAntisymmetric key e.0 is in
          let other : eq_by_cmp nat_cmp q e.0 ≡ false = ap (eq_by_cmp nat_cmp q) (sym same) ∙ apart in
          rw other refl
      | Less ↦ λ is. ap (cond (eq_by_cmp nat_cmp q e.0) (Some e.1)) (find_others es key q apart)
      | Greater ↦ λ is. ap (cond (eq_by_cmp nat_cmp q e.0) (Some e.1)) (find_others es key q apart)
    ] refl

pub remove_of : (es rest : Entries) (key : ℕ) → rest ≡ remove_entry (is_at (nat_cmp key)) es → lookup (is_at (nat_cmp key)) rest ≡ None → map_of rest ≡ remove (map_of es) key
remove_of es rest key is none =
    same_map nat_cmp_total nat_cmp-IsAntisymmetric _ _ (λ q.
    elim (eq_by_cmp nat_cmp q key) as (λ b. eq_by_cmp nat_cmp q key ≡ b → get (map_of rest) q ≡ cond b None (get (map_of es) q)) [
      | true ↦ λ same.
          let name : q ≡ key = nat_cmp-IsAntisymmetric q key (equal_of (nat_cmp q key) same) in
          ap (get (map_of rest)) name ∙ get_of rest key ∙ none
      | false ↦ λ apart.
          get-from_entries nat_cmp_total rest q
          ∙ ap (λ (x : Entries). find nat_cmp q x) is
          ∙ find_others es key q apart
          ∙ sym (get-from_entries nat_cmp_total es q)
    ] refl
    ∙ sym (get-remove nat_cmp_total (map_of es) key q))
