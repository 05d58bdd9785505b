-- A key and a value, around the last `=` of a word.
use Rattle.std.proofs.Common.{◌≡◌, ℕ, zero, suc, ◌<◌, Bool, true, ◌&&◌, nat_le, List, [], ◌∷◌, ◌++◌, length, slice_get, take, drop, codes, Some, None, refl, sym, ap, ◌∙◌, subst, arith}
use Rattle.std.specs.Prelude.{nat_lt, ◌↔◌}
use Rattle.std.specs.Str.{all_ascii_digits}
use Rattle.std.specs.Fmt.{decimal}
use Rattle.std.proofs.lemmas.Bool.{eqb-true, false≢true, leb-true, ltb-true, lt-ltb}
use Rattle.workload.specs.Keys.{key_name, number_in}
use Rattle.workload_text.specs.ReportLines.{pair_text}
use Rattle.record_text.specs.Cuts.{is_equals, NoneBehind, IsLastSplit}
use Rattle.record_text.specs.Numbers.{has_64_bits}
use Rattle.record_text.specs.Reading.{IsNone}
use Rattle.record_text.proofs.Decimals.{both, pair, digits, small}

abbrev pub is_pair : List (List ℕ) → ℕ × ℕ → Bool
is_pair keys pair = nat_lt pair.0 (length keys) && has_64_bits pair.1

-- the words of a pair, by the key's name and the value's digits
abbrev pub with_equals : List ℕ → List ℕ → List ℕ
with_equals name ds = name ++ codes "=" ++ ds

pub mark_at : (name ds : List ℕ) → is_equals (with_equals name ds) (length name) ≡ true
mark_at [] ds = refl
mark_at (x ∷ xs) ds = mark_at xs ds

pub mark_within : (name ds : List ℕ) → length name < length (with_equals name ds)
mark_within [] ds = omega arith
mark_within (x ∷ xs) ds = omega (arith, mark_within xs ds)

pub no_mark : (ds : List ℕ) (k : ℕ) → all_ascii_digits ds ≡ true → is_equals ds k ≡ true → ⊥
no_mark [] k h is = false≢true is
no_mark (d ∷ ds) zero h is =
    let digit = both (nat_le 48 d && nat_le d 57) (all_ascii_digits ds) h in
    let high = leb-true d 57 (both (nat_le 48 d) (nat_le d 57) digit.0).1 in
    let same = eqb-true d 61 is in
    omega (arith, high, same)
no_mark (d ∷ ds) (suc k) h is = no_mark ds k (both (nat_le 48 d && nat_le d 57) (all_ascii_digits ds) h).1 is

-- digits have none, so the last one is that behind the name
pub last_is : (name ds : List ℕ) (end : ℕ) → all_ascii_digits ds ≡ true → is_equals (with_equals name ds) end ≡ true → NoneBehind (with_equals name ds) end → end ≡ length name
last_is [] ds zero h is none = refl
last_is [] ds (suc end) h is none = absurd (no_mark ds end h is)
last_is (x ∷ xs) ds zero h is none = absurd (none (suc (length xs)) (omega arith) (let within = mark_within xs ds in omega (arith, within)) (mark_at xs ds))
last_is (x ∷ xs) ds (suc end) h is none = ap suc (last_is xs ds end h is (λ k behind within mark. none (suc k) (omega (arith, behind)) (omega (arith, within)) mark))

pub take_name : (name ds : List ℕ) → take (length name) (with_equals name ds) ≡ name
take_name [] ds = refl
take_name (x ∷ xs) ds = ap (λ ys. x ∷ ys) (take_name xs ds)

pub drop_name : (name ds : List ℕ) → drop (suc (length name)) (with_equals name ds) ≡ ds
drop_name [] ds = refl
drop_name (x ∷ xs) ds = drop_name xs ds

rejoin : (word : List ℕ) (end : ℕ) → end < length word → is_equals word end ≡ true → with_equals (take end word) (drop (suc end) word) ≡ word
rejoin [] end within is = absurd (omega (arith, within))
rejoin (byte ∷ bytes) zero within is = ap (λ (b : ℕ). b ∷ bytes) (sym (eqb-true byte 61 is))
rejoin (byte ∷ bytes) (suc end) within is = ap (λ bs. byte ∷ bs) (rejoin bytes end (omega (arith, within)) is)

-- the keys are numbered: each name has the number of its place
abbrev pub AreNumbered : List (List ℕ) → Type 0
AreNumbered keys = (name : List ℕ) (number : ℕ) → number_in keys name ≡ Some number ↔ slice_get keys number ≡ Some name

pub at : (keys : List (List ℕ)) (k : ℕ) → k < length keys → slice_get keys k ≡ Some (key_name keys k)
at [] k within = absurd (omega (arith, within))
at (key ∷ keys) zero within = refl
at (key ∷ keys) (suc k) within = at keys k (omega (arith, within))

within_of : (keys : List (List ℕ)) (k : ℕ) (name : List ℕ) → slice_get keys k ≡ Some name → (k < length keys) × (key_name keys k ≡ name)
within_of [] k name is = absurd cc
within_of (key ∷ keys) zero name is = (omega arith, (let same : key ≡ name = cc in same))
within_of (key ∷ keys) (suc k) name is = let rest = within_of keys k name is in (let below = rest.0 in omega (arith, below), rest.1)

none_some : {X : Type 0} (x : X) → None ≡ Some x → ⊥
none_some x e = absurd cc

pub parts_of : (keys : List (List ℕ)) (p : ℕ × ℕ) → is_pair keys p ≡ true → (p.0 < length keys) × (has_64_bits p.1 ≡ true)
parts_of keys p h = let parts = both (nat_lt p.0 (length keys)) (has_64_bits p.1) h in (ltb-true p.0 (length keys) parts.0, parts.1)

-- a word without a `=`
pub no_equals : (keys : List (List ℕ)) (word : List ℕ) → ((k : ℕ) → k < length word → is_equals word k ≡ true → ⊥) → IsNone (is_pair keys) (pair_text keys) word
no_equals keys word none p fits is =
    let name = key_name keys p.0 in
    none (length name) (subst (λ (w : List ℕ). length name < length w) is (mark_within name (decimal p.1))) (subst (λ (w : List ℕ). is_equals w (length name) ≡ true) is (mark_at name (decimal p.1)))

-- where the last one stands in the word of a pair
end_is : (keys : List (List ℕ)) (word : List ℕ) (end : ℕ) (p : ℕ × ℕ) → is_equals word end ≡ true → NoneBehind word end → is_pair keys p ≡ true → pair_text keys p ≡ word → end ≡ length (key_name keys p.0)
end_is keys word end p mark none fits is =
    last_is (key_name keys p.0) (decimal p.1) end (digits p.1 (small p.1 (parts_of keys p fits).1)) (subst (λ (w : List ℕ). is_equals w end ≡ true) (sym is) mark) (subst (λ (w : List ℕ). NoneBehind w end) (sym is) none)

name_is : (keys : List (List ℕ)) (word : List ℕ) (end : ℕ) (p : ℕ × ℕ) → end ≡ length (key_name keys p.0) → pair_text keys p ≡ word → take end word ≡ key_name keys p.0
name_is keys word end p e is = ap (λ (n : ℕ). take n word) e ∙ ap (take (length (key_name keys p.0))) (sym is) ∙ take_name (key_name keys p.0) (decimal p.1)

value_is : (keys : List (List ℕ)) (word : List ℕ) (end : ℕ) (p : ℕ × ℕ) → end ≡ length (key_name keys p.0) → pair_text keys p ≡ word → drop (suc end) word ≡ decimal p.1
value_is keys word end p e is = ap (λ (n : ℕ). drop (suc n) word) e ∙ ap (drop (suc (length (key_name keys p.0)))) (sym is) ∙ drop_name (key_name keys p.0) (decimal p.1)

pub no_key : (keys : List (List ℕ)) (word name rest : List ℕ) → AreNumbered keys → IsLastSplit word name rest → number_in keys name ≡ None → IsNone (is_pair keys) (pair_text keys) word
no_key keys word name rest numbered split unknown p fits is =
    let here = name_is keys word split.end p (end_is keys word split.end p split.mark split.none fits is) is in
    none_some p.0 (sym unknown ∙ ap (number_in keys) (split.name_is ∙ here) ∙ (numbered (key_name keys p.0) p.0).1 (at keys p.0 (parts_of keys p fits).0))

pub no_number : (keys : List (List ℕ)) (word name rest : List ℕ) → IsLastSplit word name rest → IsNone has_64_bits decimal rest → IsNone (is_pair keys) (pair_text keys) word
no_number keys word name rest split bad p fits is =
    bad p.1 (parts_of keys p fits).1 (sym (split.rest_is ∙ value_is keys word split.end p (end_is keys word split.end p split.mark split.none fits is) is))

pub a_pair : (keys : List (List ℕ)) (word name rest : List ℕ) (key value : ℕ) → AreNumbered keys → IsLastSplit word name rest → number_in keys name ≡ Some key → has_64_bits value ≡ true → decimal value ≡ rest
    → (is_pair keys (key, value) ≡ true) × (pair_text keys (key, value) ≡ word)
a_pair keys word name rest key value numbered split known fits is =
    let found = within_of keys key name ((numbered name key).0 known) in (
      pair (nat_lt key (length keys)) (has_64_bits value) (lt-ltb key (length keys) found.0) fits,
      ap (λ text. with_equals text (decimal value)) (found.1 ∙ split.name_is) ∙ ap (with_equals (take split.end word)) (is ∙ split.rest_is) ∙ rejoin word split.end split.within split.mark,
    )
