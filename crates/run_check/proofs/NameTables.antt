-- The places of names, by name.
use Rattle.std.proofs.Common.{◌≡◌, ℕ, ◌+◌, ◌<◌, Bool, true, false, cond, List, Some, slice_get, refl, sym, ap, ◌∙◌, arith, inl, inr}
use Rattle.std.specs.Ordering.{nat_cmp, eq_by_cmp}
use Rattle.std.specs.Cmp.Lexicographic.{slice_cmp, nat_list_cmp_total}
use Rattle.std.specs.FinMap.{FinMap, empty, get, insert, get-insert, get-empty}
use Rattle.std.proofs.lemmas.Bool.{cases_lt}
use Rattle.std.proofs.lemmas.Map.Text.{is_eq-slice_cmp}
use Rattle.std.proofs.lemmas.Option.{none-some, same_Some}
use Rattle.std.proofs.lemmas.Slice.Eq.{bytes_eq-Decides}

abbrev Table : Type 0
Table = FinMap (slice_cmp nat_cmp) ℕ

-- the table has the first of these names, each with its place, and no others
pub record HasPlaces (names : List (List ℕ)) (n : ℕ) (table : Table) : Type 0 where
  pub inside : (name : List ℕ) (place : ℕ) → get table name ≡ Some place → (place < n) × (slice_get names place ≡ Some name)
  pub all : (name : List ℕ) (place : ℕ) → place < n → slice_get names place ≡ Some name → get table name ≡ Some place

pub none_yet : (names : List (List ℕ)) → HasPlaces names 0 empty
none_yet names = record {
  inside = λ name place is. absurd (none-some place (sym (get-empty (slice_cmp nat_cmp) name) ∙ is));
  all = λ name place below at. absurd (omega (arith, below));
}

is_same : (q name : List ℕ) → eq_by_cmp (slice_cmp nat_cmp) q name ≡ true → q ≡ name
is_same q name e = (bytes_eq-Decides q name).0 (sym (is_eq-slice_cmp q name) ∙ e)

is_self : (q name : List ℕ) → q ≡ name → eq_by_cmp (slice_cmp nat_cmp) q name ≡ true
is_self q name e = is_eq-slice_cmp q name ∙ (bytes_eq-Decides q name).1 e

module _ (names : List (List ℕ)) (apart : (i j : ℕ) (name : List ℕ) → slice_get names i ≡ Some name → slice_get names j ≡ Some name → i ≡ j) (i : ℕ) (here : List ℕ) (at : slice_get names i ≡ Some here) (table : Table) (has : HasPlaces names i table) where
  inside_next : (name : List ℕ) (place : ℕ) → get (insert table here i) name ≡ Some place → (place < i + 1) × (slice_get names place ≡ Some name)
  inside_next name place is =
      elim (eq_by_cmp (slice_cmp nat_cmp) name here) as (λ b. eq_by_cmp (slice_cmp nat_cmp) name here ≡ b → cond b (Some i) (get table name) ≡ Some place → (place < i + 1) × (slice_get names place ≡ Some name)) [
        | true ↦ λ e found. let last : i ≡ place = same_Some i place found in
            (omega (arith, last), ap (λ (k : ℕ). slice_get names k) (sym last) ∙ at ∙ ap (λ (word : List ℕ). Some word) (sym (is_same name here e)))
        | false ↦ λ e found. let before = has.inside name place found in (omega (arith, before.0), before.1)
      ] refl (sym (get-insert nat_list_cmp_total table here i name) ∙ is)

  all_next : (name : List ℕ) (place : ℕ) → place < i + 1 → slice_get names place ≡ Some name → get (insert table here i) name ≡ Some place
  all_next name place below found =
      get-insert nat_list_cmp_total table here i name
      ∙ elim (cases_lt place i) as (λ side. cond (eq_by_cmp (slice_cmp nat_cmp) name here) (Some i) (get table name) ≡ Some place) [
        | inl before ↦ elim (eq_by_cmp (slice_cmp nat_cmp) name here) as (λ b. eq_by_cmp (slice_cmp nat_cmp) name here ≡ b → cond b (Some i) (get table name) ≡ Some place) [
          | true ↦ λ e. ap (λ (k : ℕ). Some k) (apart i place here at (found ∙ ap (λ (word : List ℕ). Some word) (is_same name here e)))
          | false ↦ λ e. has.all name place before found
        ] refl
        | inr behind ↦
            let last : place ≡ i = omega (arith, behind, below) in
            let same : name ≡ here = same_Some name here (sym found ∙ ap (λ (k : ℕ). slice_get names k) last ∙ at) in
            ap (λ (b : Bool). cond b (Some i) (get table name)) (is_self name here same) ∙ ap (λ (k : ℕ). Some k) (sym last)
      ]

  -- with one name more
  pub one_more : HasPlaces names (i + 1) (insert table here i)
  one_more = record { inside = inside_next; all = all_next }
