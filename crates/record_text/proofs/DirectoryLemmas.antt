-- The numbers of objects by the words that name them.
use Rattle.std.proofs.Common.{◌≡◌, ℕ, zero, suc, ◌+◌, Bool, true, false, cond, List, [], ◌∷◌, ◌++◌, map, append_assoc, length, slice_get, Option, Some, None, refl, sym, ap, ◌∙◌, arith}
use Rattle.std.specs.Str.{bytes_eq}
use Rattle.std.specs.List.{position_from, range_with_len}
use Rattle.workload.specs.declared.object.ObjectLine.{ObjectLine}
use Rattle.record_text.specs.declared.event.JournalKind.{JournalKind}
use Rattle.std.proofs.lemmas.Slice.Eq.{bytes_eq-Decides}
use Rattle.record_text.specs.declared.directory.Named.{Named}
use Rattle.record_text.specs.Journals.{kind_in, named_part, number_named}

eq_self : (key : List ℕ) → bytes_eq key key ≡ true
eq_self key = (bytes_eq-Decides key key).1 refl

abbrev is : List ℕ → Named → Bool
is word named = bytes_eq word named.word

-- with one object more at the end
position_push : (p : Named → Bool) (n : ℕ) (names : List Named) (named : Named) (m : ℕ) → m ≡ n + length names
    → position_from p n (names ++ named ∷ []) ≡ elim (position_from p n names) as (λ o. Option ℕ) [ Some found ↦ Some found | None ↦ cond (p named) (Some m) None ]
position_push p n [] named m at = ap (λ (k : ℕ). cond (p named) (Some k) None) (let e : n ≡ m = omega (arith, at) in e)
position_push p n (first ∷ names) named m at =
    elim (p first) as (λ b. cond b (Some n) (position_from p (n + 1) (names ++ named ∷ []))
    ≡ elim (cond b (Some n) (position_from p (n + 1) names)) as (λ o. Option ℕ) [ Some found ↦ Some found | None ↦ cond (p named) (Some m) None ]) [
      | true ↦ refl
      | false ↦ position_push p (n + 1) names named m (omega (arith, at))
    ]

-- a word that named none
pub push_new : (names : List Named) (named : Named) (word : List ℕ) → number_named names named.word ≡ None
    → cond (bytes_eq word named.word) (Some (length names)) (number_named names word) ≡ number_named (names ++ named ∷ []) word
push_new names named word none =
    elim (bytes_eq word named.word) as (λ b. bytes_eq word named.word ≡ b → cond b (Some (length names)) (number_named names word) ≡ elim (number_named names word) as (λ o. Option ℕ) [ Some found ↦ Some found | None ↦ cond b (Some (length names)) None ]) [
      | true ↦ λ same.
          let nothing : number_named names word ≡ None = ap (number_named names) ((bytes_eq-Decides word named.word).0 same) ∙ none in
          sym (ap (λ (o : Option ℕ). elim o as (λ o. Option ℕ) [ Some found ↦ Some found | None ↦ Some (length names) ]) nothing)
      | false ↦ λ other. keeps (number_named names word)
    ] refl ∙ sym (position_push (is word) 0 names named (length names) (omega arith))
  where
    keeps : (o : Option ℕ) → o ≡ elim o as (λ o. Option ℕ) [ Some found ↦ Some found | None ↦ None ]
    keeps None = refl
    keeps (Some found) = refl

-- a word that named one still names it
pub push_old : (names : List Named) (named : Named) (word : List ℕ) → (number_named names named.word ≡ None → ⊥) → number_named names word ≡ number_named (names ++ named ∷ []) word
push_old names named word there =
    elim (bytes_eq word named.word) as (λ b. bytes_eq word named.word ≡ b → number_named names word ≡ elim (number_named names word) as (λ o. Option ℕ) [ Some found ↦ Some found | None ↦ cond b (Some (length names)) None ]) [
      | true ↦ λ same. held (number_named names word) (λ none. there (ap (number_named names) (sym ((bytes_eq-Decides word named.word).0 same)) ∙ none))
      | false ↦ λ other. keeps (number_named names word)
    ] refl ∙ sym (position_push (is word) 0 names named (length names) (omega arith))
  where
    keeps : (o : Option ℕ) → o ≡ elim o as (λ o. Option ℕ) [ Some found ↦ Some found | None ↦ None ]
    keeps None = refl
    keeps (Some found) = refl

    held : (o : Option ℕ) → (o ≡ None → ⊥) → o ≡ elim o as (λ o. Option ℕ) [ Some found ↦ Some found | None ↦ Some (length names) ]
    held None some = absurd (some refl)
    held (Some found) some = refl

-- what a word names has it
pub named_at : (word : List ℕ) (n : ℕ) (names : List Named) (found : ℕ) → position_from (is word) n names ≡ Some found → (i : ℕ) × (found ≡ n + i) × ((named : Named) × (slice_get names i ≡ Some named) × (named.word ≡ word))
named_at word n [] found at = absurd cc
named_at word n (named ∷ names) found at =
    elim (bytes_eq word named.word) as (λ b. bytes_eq word named.word ≡ b → cond b (Some n) (position_from (is word) (n + 1) names) ≡ Some found → (i : ℕ) × (found ≡ n + i) × ((x : Named) × (slice_get (named ∷ names) i ≡ Some x) × (x.word ≡ word))) [
      | true ↦ λ same is_n. (0, (let e : n ≡ found = cc in omega (arith, e)), (named, refl, sym ((bytes_eq-Decides word named.word).0 same)))
      | false ↦ λ other later. let (i, where_is, at_i) = named_at word (n + 1) names found later in (suc i, omega (arith, where_is), at_i)
    ] refl at

zero-plus : (n i : ℕ) → n ≡ 0 + i → i ≡ n
zero-plus n i e = omega (arith, e)

same_some : {X : Type 0} (x y : X) → Some x ≡ Some y → x ≡ y
same_some x y e = cc

kind_there : (named : Option Named) (kind : JournalKind) → Some kind ≡ kind_in named → (x : Named) × (named ≡ Some x) × (x.kind ≡ kind)
kind_there None kind e = absurd cc
kind_there (Some x) kind e = (x, refl, (let same : kind ≡ x.kind = cc in sym same))

-- what is found by its word has it
pub found : (names : List Named) (word : List ℕ) (number : ℕ) (kind : JournalKind) → Some number ≡ number_named names word → Some kind ≡ kind_in (slice_get names number)
    → (number_named names word ≡ Some number) × ((x : Named) × (slice_get names number ≡ Some x) × (x.word ≡ word) × (x.kind ≡ kind))
found names word number kind known at =
    let (i, where_is, (x, at_x, word_is)) = named_at word 0 names number (sym known) in
    let this : slice_get names number ≡ Some x = sym (ap (slice_get names) (zero-plus number i where_is)) ∙ at_x in
    let (y, at_y, kind_is) = kind_there (slice_get names number) kind at in
    (sym known, (x, this, word_is, ap (λ (n : Named). n.kind) (same_some x y (sym this ∙ at_y)) ∙ kind_is))

none_some : {X : Type 0} (x : X) → None ≡ Some x → ⊥
none_some x e = absurd cc

none_there : (named : Option Named) → None ≡ kind_in named → named ≡ None
none_there None e = refl
none_there (Some x) e = absurd cc

-- and so it is there
pub not_found : (names : List Named) (word : List ℕ) (number : ℕ) → Some number ≡ number_named names word → None ≡ kind_in (slice_get names number) → ⊥
not_found names word number known none =
    let (i, where_is, (x, at_x, word_is)) = named_at word 0 names number (sym known) in
    none_some x (sym (none_there (slice_get names number) none) ∙ sym (ap (slice_get names) (zero-plus number i where_is)) ∙ at_x)

-- ---- the parts of a pool

range_more : (n a : ℕ) → range_with_len a (suc n) ≡ range_with_len a n ++ (a + n) ∷ []
range_more zero a = let e : a ≡ a + 0 = omega arith in ap (λ x. x ∷ []) e
range_more (suc n) a = let e : a + 1 + n ≡ a + suc n = omega arith in ap (λ l. a ∷ l) (range_more n (a + 1) ∙ ap (λ x. range_with_len (a + 1) n ++ x ∷ []) e)

map_more : (object : ObjectLine) (parts : List ℕ) (n : ℕ) → map (named_part object) (parts ++ n ∷ []) ≡ map (named_part object) parts ++ named_part object n ∷ []
map_more object [] n = refl
map_more object (part ∷ parts) n = ap (λ l. named_part object part ∷ l) (map_more object parts n)

pub parts_more : (start : List Named) (object : ObjectLine) (n : ℕ) → start ++ map (named_part object) (range_with_len 0 n) ++ named_part object n ∷ [] ≡ start ++ map (named_part object) (range_with_len 0 (n + 1))
parts_more start object n =
    let last : 0 + n ≡ n = omega arith in
    let next : n + 1 ≡ suc n = omega arith in
    append_assoc start (map (named_part object) (range_with_len 0 n)) (named_part object n ∷ [])
    ∙ ap (λ l. start ++ l) (sym (map_more object (range_with_len 0 n) n) ∙ ap (map (named_part object)) (sym (ap (range_with_len 0) next ∙ range_more n 0 ∙ ap (λ k. range_with_len 0 n ++ k ∷ []) last)))
