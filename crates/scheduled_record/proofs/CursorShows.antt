-- The entries of a map whose keys are renamed one to one are just the pairs of the renamed map, each once.
use Rattle.std.proofs.Common.{◌≡◌, ℕ, zero, suc, Bool, true, false, cond, List, [], ◌∷◌, map, Option, Some, None, option_map, slice_get, inl, inr, refl, sym, ap, ◌∙◌, subst}
use Rattle.std.specs.Prelude.{T, ◌&&◌}
use Rattle.std.specs.Ordering.{nat_cmp, is_eq, is_lt, eq_by_cmp, ordering_reverse}
use Rattle.std.specs.Cmp.{tied_itself}
use Rattle.std.specs.Cmp.Lexicographic.{slice_cmp, nat_list_cmp_total}
use Rattle.std.specs.declared.cmp.Ordering.{Ordering}
use Rattle.std.specs.declared.cmp.Ordering.TheVariants.{Less, Equal, Greater}
use Rattle.std.specs.FinMap.{FinMap, get, get-entries, entries, entries_sorted, find, is_sorted}
use Rattle.std.specs.FinMap.Entries.{below_all}
use Rattle.std.proofs.lemmas.Bool.Decides.{eqb_tells}
use Rattle.std.proofs.lemmas.Map.Text.{is_eq-slice_cmp}
use Rattle.std.proofs.lemmas.Option.{none-some, same_Some, slice_get-map}
use Rattle.std.proofs.lemmas.Slice.Eq.{bytes_eq-Decides}
use Rattle.sync_types.specs.Renaming.{IsRenamed}
use Rattle.scheduled_record.proofs.Cursors.{Shows}

abbrev by_bytes : List ℕ → List ℕ → Ordering
by_bytes = slice_cmp nat_cmp

-- ---- the entries of a map

strictly : (r : Ordering) → T (is_lt r) → r ≡ Less
strictly Less is = refl
strictly Equal is = absurd is
strictly Greater is = absurd is

first_of : (a b : Bool) → T (a && b) → T a
first_of true b is = tt
first_of false b is = absurd is

second_of : (a b : Bool) → T (a && b) → T b
second_of true b is = is
second_of false b is = absurd is

below_at : (x : List ℕ) (es : List (List ℕ × ℕ)) (i : ℕ) (e : List ℕ × ℕ) → T (below_all by_bytes x es) → slice_get es i ≡ Some e → by_bytes x e.0 ≡ Less
below_at x [] i e below at = absurd (none-some e at)
below_at x (y ∷ es) zero e below at = subst (λ (z : List ℕ × ℕ). by_bytes x z.0 ≡ Less) (same_Some y e at) (strictly (by_bytes x y.0) (first_of _ _ below))
below_at x (y ∷ es) (suc i) e below at = below_at x es i e (second_of _ _ below) at

found_at : (es : List (List ℕ × ℕ)) (i : ℕ) (e : List ℕ × ℕ) → T (is_sorted by_bytes es) → slice_get es i ≡ Some e → find by_bytes e.0 es ≡ Some e.1
found_at [] i e sorted at = absurd (none-some e at)
found_at (x ∷ es) zero e sorted at =
    let same = same_Some x e at in
    ap (λ (b : Bool). cond b (Some x.1) (find by_bytes e.0 es)) (ap (λ (y : List ℕ × ℕ). eq_by_cmp by_bytes y.0 x.0) (sym same) ∙ ap is_eq (tied_itself nat_list_cmp_total x.0)) ∙ ap (λ (y : List ℕ × ℕ). Some y.1) same
found_at (x ∷ es) (suc i) e sorted at =
    let less = below_at x.0 es i e (first_of _ _ sorted) at in
    ap (λ (b : Bool). cond b (Some x.1) (find by_bytes e.0 es)) (ap is_eq (nat_list_cmp_total.antisymm e.0 x.0 ∙ ap ordering_reverse less)) ∙ found_at es i e (second_of _ _ sorted) at

has_entry : (es : List (List ℕ × ℕ)) (word : List ℕ) (value : ℕ) → find by_bytes word es ≡ Some value → (i : ℕ) × (slice_get es i ≡ Some (word, value))
has_entry [] word value found = absurd (none-some value found)
has_entry (e ∷ es) word value found = by_tie (eq_by_cmp by_bytes word e.0) refl found (has_entry es word value)
  where
    by_tie : (b : Bool) → eq_by_cmp by_bytes word e.0 ≡ b → cond b (Some e.1) (find by_bytes word es) ≡ Some value → (find by_bytes word es ≡ Some value → (i : ℕ) × (slice_get es i ≡ Some (word, value))) → (i : ℕ) × (slice_get (e ∷ es) i ≡ Some (word, value))
    by_tie true tie is rest =
        let name : word ≡ e.0 = (bytes_eq-Decides word e.0).0 (sym (is_eq-slice_cmp word e.0) ∙ tie) in
        (zero, λ i. Some (sym name i, same_Some e.1 value is i))
    by_tie false apart is rest = let later = rest is in (suc later.0, later.1)

not_less : (x y : List ℕ) → x ≡ y → by_bytes x y ≡ Less → ⊥
not_less x y same less = differ (sym (tied_itself nat_list_cmp_total x) ∙ (ap (by_bytes x) same ∙ less)) where
  differ : Equal ≡ Less → ⊥
  differ e = cc

-- no key stands twice
one_place : (es : List (List ℕ × ℕ)) (i j : ℕ) (e f : List ℕ × ℕ) → T (is_sorted by_bytes es) → slice_get es i ≡ Some e → slice_get es j ≡ Some f → e.0 ≡ f.0 → i ≡ j
one_place [] i j e f sorted at also same = absurd (none-some e at)
one_place (x ∷ es) zero zero e f sorted at also same = refl
one_place (x ∷ es) zero (suc j) e f sorted at also same = absurd (not_less x.0 f.0 (ap (λ (z : List ℕ × ℕ). z.0) (same_Some x e at) ∙ same) (below_at x.0 es j f (first_of _ _ sorted) also))
one_place (x ∷ es) (suc i) zero e f sorted at also same = absurd (not_less x.0 e.0 (ap (λ (z : List ℕ × ℕ). z.0) (same_Some x f also) ∙ sym same) (below_at x.0 es i e (first_of _ _ sorted) at))
one_place (x ∷ es) (suc i) (suc j) e f sorted at also same = ap suc (one_place es i j e f (second_of _ _ sorted) at also same)

-- ---- renamed

module _ (name : ℕ → List ℕ) (number : List ℕ → ℕ) (is_key : List ℕ → Bool) (named : (word : List ℕ) → is_key word ≡ true → name (number word) ≡ word) (m : FinMap (slice_cmp nat_cmp) ℕ) (n : FinMap nat_cmp ℕ) (renamed : IsRenamed number is_key m n) where
  abbrev pair_of : List ℕ × ℕ → ℕ × ℕ
  pair_of pair = (number pair.0, pair.1)

  abbrev shown : List (ℕ × ℕ)
  shown = map pair_of (entries m)

  record Of (i key v : ℕ) : Type 0 where
    word : List ℕ
    at : slice_get (entries m) i ≡ Some (word, v)
    is : number word ≡ key
    has : get m word ≡ Some v
    known : is_key word ≡ true

  key_of : (word : List ℕ) (v : ℕ) → get m word ≡ Some v → is_key word ≡ true
  key_of word v has = chosen (is_key word) refl where
    chosen : (b : Bool) → is_key word ≡ b → is_key word ≡ true
    chosen true is = is
    chosen false is = absurd (none-some v (sym (renamed.keys word is) ∙ has))

  entry_of : (i key v : ℕ) → slice_get shown i ≡ Some (key, v) → Of i key v
  entry_of i key v at = chosen (slice_get (entries m) i) refl where
    mapped : option_map pair_of (slice_get (entries m) i) ≡ Some (key, v)
    mapped = sym (slice_get-map pair_of (entries m) i) ∙ at

    chosen : (o : Option (List ℕ × ℕ)) → slice_get (entries m) i ≡ o → Of i key v
    chosen None none = absurd (none-some (key, v) (ap (option_map pair_of) (sym none) ∙ mapped))
    chosen (Some (word, value)) there = record { word = word; at = there ∙ ap (λ (x : ℕ). Some (word, x)) (ap (λ (p : ℕ × ℕ). p.1) same); is = ap (λ (p : ℕ × ℕ). p.0) same; has = has; known = key_of word v has } where
      same : ◌≡◌ {A = ℕ × ℕ} (number word, value) (key, v)
      same = same_Some (number word, value) (key, v) (ap (option_map pair_of) (sym there) ∙ mapped)

      has : get m word ≡ Some v
      has = get-entries m word ∙ (found_at (entries m) i (word, value) (entries_sorted m) there ∙ ap (λ (p : ℕ × ℕ). Some p.1) same)

  -- a key that is there is the number of its name
  word_of : (key v : ℕ) → get n key ≡ Some v → (word : List ℕ) × (number word ≡ key) × (is_key word ≡ true)
  word_of key v has = elim (eqb_tells (number (name key)) key) [
    | inl same ↦ (name key, same.1, known (is_key (name key)) refl)
    | inr apart ↦ absurd (none-some v (sym (renamed.names key (λ word is same. apart.1 (ap (λ (k : ℕ). number (name k)) same ∙ (ap number (named word is) ∙ sym same)))) ∙ has))
  ] where
    differ : false ≡ true → ⊥
    differ e = cc

    known : (b : Bool) → is_key (name key) ≡ b → is_key (name key) ≡ true
    known true is = is
    known false unlike = absurd (none-some v (sym (renamed.names key (λ word is same. differ (sym unlike ∙ (ap is_key (ap name same ∙ named word is) ∙ is)))) ∙ has))

  pub shows_all : Shows n shown
  shows_all = record {
    once = λ i j key v w at also. let first = entry_of i key v at in let second = entry_of j key w also in
        one_place (entries m) i j (first.word, v) (second.word, w) (entries_sorted m) first.at second.at
        (sym (named first.word first.known) ∙ (ap name (first.is ∙ sym second.is) ∙ named second.word second.known));
    holds = λ i key v at. let it = entry_of i key v at in subst (λ (k : ℕ). get n k ≡ Some v) it.is (renamed.same it.word it.known ∙ it.has);
    whole = λ key v has.
        let it = word_of key v has in
        let entry = has_entry (entries m) it.0 v (sym (get-entries m it.0) ∙ (sym (renamed.same it.0 it.2) ∙ (ap (get n) it.1 ∙ has))) in
        (entry.0, slice_get-map pair_of (entries m) entry.0 ∙ (ap (option_map pair_of) entry.1 ∙ ap (λ (k : ℕ). Some (k, v)) it.1));
  }
