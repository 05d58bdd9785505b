-- Numbers joined by commas, and cut at them again.
use Rattle.std.proofs.Common.{◌≡◌, ℕ, ◌<◌, Bool, true, false, ◌&&◌, eqb, nat_le, List, [], ◌∷◌, ◌++◌, map, length, refl, sym, ap, ◌∙◌, arith}
use Rattle.std.specs.Prelude.{Option}
use Rattle.std.specs.Borrow.{Bor}
use Rattle.std.specs.List.{slice_split, list_all, join_with_byte, onto_first}
use Rattle.std.specs.Str.{all_ascii_digits}
use Rattle.std.specs.Fmt.{decimal}
use Rattle.std.proofs.lemmas.Bool.{eqb-true, eq-eqb, ne_eqb, leb-true}
use Rattle.std.proofs.lemmas.List.Splits.{slice_split-cons_yes, slice_split-cons_no, join_with_byte-slice_split}
use Rattle.std.proofs.lemmas.List.{length-map}
use Rattle.record_text.specs.Cuts.{parts_in}
use Rattle.record_text.specs.Numbers.{front_word, has_64_bits, is_front}
use Rattle.record_text.specs.Reading.{IsNone}
use Rattle.record_text.proofs.Decimals.{both, pair, digits, small}

comma : ℕ → Bool
comma byte = eqb byte 44

no_comma : (d : ℕ) → (nat_le 48 d && nat_le d 57) ≡ true → comma d ≡ false
unfolding comma
no_comma d h = ne_eqb d 44 (λ same. absurd (let low = leb-true 48 d (both (nat_le 48 d) (nat_le d 57) h).0 in omega (arith, low, same)))

split_word : (ds rest : List ℕ) → all_ascii_digits ds ≡ true → slice_split comma (ds ++ 44 ∷ rest) ≡ ds ∷ slice_split comma rest
unfolding comma
split_word [] rest h = slice_split-cons_yes comma 44 rest refl
split_word (d ∷ ds) rest h =
    let parts = both (nat_le 48 d && nat_le d 57) (all_ascii_digits ds) h in
    slice_split-cons_no comma d (ds ++ 44 ∷ rest) (no_comma d parts.0) ∙ ap (onto_first d) (split_word ds rest parts.1)

split_last : (ds : List ℕ) → all_ascii_digits ds ≡ true → slice_split comma ds ≡ ds ∷ []
split_last [] h = refl
split_last (d ∷ ds) h =
    let parts = both (nat_le 48 d && nat_le d 57) (all_ascii_digits ds) h in
    slice_split-cons_no comma d ds (no_comma d parts.0) ∙ ap (onto_first d) (split_last ds parts.1)

-- a front's parts are the words of its numbers
front_parts : (n : ℕ) (front : List ℕ) → list_all has_64_bits (n ∷ front) ≡ true → slice_split comma (front_word (n ∷ front)) ≡ map decimal (n ∷ front)
front_parts n [] h = split_last (decimal n) (digits n (small n (both (has_64_bits n) true h).0))
front_parts n (m ∷ front) h =
    let parts = both (has_64_bits n) (list_all has_64_bits (m ∷ front)) h in
    split_word (decimal n) (front_word (m ∷ front)) (digits n (small n parts.0)) ∙ ap (λ (ws : List (List ℕ)). decimal n ∷ ws) (front_parts m front parts.1)

abbrev pub commas : List ℕ → List (List ℕ)
commas word = slice_split (λ byte. eqb byte 44) word

pub parts_are : (workers : ℕ) (word front : List ℕ) → 0 < workers → is_front workers front ≡ true → front_word front ≡ word → commas word ≡ map decimal front
unfolding comma
parts_are workers word [] some fits is = absurd (let e = eqb-true 0 workers (both (eqb 0 workers) true fits).0 in omega (arith, e, some))
parts_are workers word (n ∷ front) some fits is = ap commas (sym is) ∙ front_parts n front (both (eqb (length (n ∷ front)) workers) (list_all has_64_bits (n ∷ front)) fits).1

-- numbers were read, and these parts are left
pub record Reads (word : List ℕ) (front : List ℕ) (rest : Option (Bor (List ℕ))) : Type 0 where
  pub fit : list_all has_64_bits front ≡ true
  pub parts : map decimal front ++ parts_in 44 rest ≡ commas word

tail : (x y : List ℕ) (xs ys : List (List ℕ)) → x ∷ xs ≡ y ∷ ys → xs ≡ ys
tail x y xs ys e = cc

head : (x y : List ℕ) (xs ys : List (List ℕ)) → x ∷ xs ≡ y ∷ ys → x ≡ y
head x y xs ys e = cc

-- a part behind numbers is a number of any front
no_part : (read : List ℕ) (part : List ℕ) (rest : List (List ℕ)) (front : List ℕ) → IsNone has_64_bits decimal part → list_all has_64_bits front ≡ true → map decimal read ++ part ∷ rest ≡ map decimal front → ⊥
no_part [] part rest [] none fits e = absurd cc
no_part [] part rest (n ∷ front) none fits e = none n (both (has_64_bits n) (list_all has_64_bits front) fits).0 (sym (head part (decimal n) rest (map decimal front) e))
no_part (m ∷ read) part rest [] none fits e = absurd cc
no_part (m ∷ read) part rest (n ∷ front) none fits e = no_part read part rest front none (both (has_64_bits n) (list_all has_64_bits front) fits).1 (tail (decimal m) (decimal n) _ _ e)

-- a part that is no number is none of a front's
pub no_front : (workers : ℕ) (word part : List ℕ) (read : List ℕ) (rest : List (List ℕ)) → 0 < workers → map decimal read ++ part ∷ rest ≡ commas word → IsNone has_64_bits decimal part → IsNone (is_front workers) front_word word
no_front workers word part read rest some parts none front fits is =
    no_part read part rest front none (both (eqb (length front) workers) (list_all has_64_bits front) fits).1 (parts ∙ parts_are workers word front some fits is)

append_nil : (xs : List (List ℕ)) → xs ++ [] ≡ xs
append_nil [] = refl
append_nil (x ∷ xs) = ap (λ ys. x ∷ ys) (append_nil xs)

all_parts : (word front : List ℕ) (rest : List (List ℕ)) → map decimal front ++ rest ≡ commas word → rest ≡ [] → map decimal front ≡ commas word
all_parts word front rest parts none = sym (append_nil (map decimal front)) ∙ ap (λ ws. map decimal front ++ ws) (sym none) ∙ parts

-- as many as there are workers, or another number of them
pub other_front : (workers : ℕ) (word read : List ℕ) (rest : List (List ℕ)) → 0 < workers → map decimal read ++ rest ≡ commas word → rest ≡ [] → (length read ≡ workers → ⊥) → IsNone (is_front workers) front_word word
other_front workers word read rest some parts none other front fits is =
    let same = ap length (all_parts word read rest parts none ∙ parts_are workers word front some fits is) in
    let here = length-map read decimal in
    let there = length-map front decimal in
    let all = eqb-true (length front) workers (both (eqb (length front) workers) (list_all has_64_bits front) fits).0 in
    other (omega (arith, same, here, there, all))

pub a_front : (workers : ℕ) (word read : List ℕ) (rest : List (List ℕ)) → list_all has_64_bits read ≡ true → map decimal read ++ rest ≡ commas word → rest ≡ [] → length read ≡ workers → (is_front workers read ≡ true) × (front_word read ≡ word)
a_front workers word read rest fit parts none all = (
  pair (eqb (length read) workers) (list_all has_64_bits read) (eq-eqb (length read) workers all) fit,
  ap (join_with_byte 44) (all_parts word read rest parts none) ∙ join_with_byte-slice_split 44 word,
)

all_more : (front : List ℕ) (n : ℕ) → list_all has_64_bits front ≡ true → has_64_bits n ≡ true → list_all has_64_bits (front ++ n ∷ []) ≡ true
all_more [] n h k = pair (has_64_bits n) true k refl
all_more (m ∷ front) n h k = let parts = both (has_64_bits m) (list_all has_64_bits front) h in pair (has_64_bits m) (list_all has_64_bits (front ++ n ∷ [])) parts.0 (all_more front n parts.1 k)

map_more : (front : List ℕ) (n : ℕ) (rest : List (List ℕ)) → map decimal (front ++ n ∷ []) ++ rest ≡ map decimal front ++ decimal n ∷ rest
map_more [] n rest = refl
map_more (m ∷ front) n rest = ap (λ ws. decimal m ∷ ws) (map_more front n rest)

-- one more number
pub more_read : (word part : List ℕ) (front : List ℕ) (n : ℕ) (rest behind : Option (Bor (List ℕ))) → Reads word front rest → parts_in 44 rest ≡ part ∷ parts_in 44 behind → has_64_bits n ≡ true → decimal n ≡ part → Reads word (front ++ n ∷ []) behind
more_read word part front n rest behind reads cut fits is = record {
  fit = all_more front n reads.fit fits;
  parts = map_more front n (parts_in 44 behind) ∙ ap (λ ws. map decimal front ++ ws) (ap (λ w. w ∷ parts_in 44 behind) is ∙ sym cut) ∙ reads.parts;
}
