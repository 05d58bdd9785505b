-- The lines of a text, one after the other.
use Rattle.std.proofs.Common.{◌≡◌, ◌≢◌, ℕ, zero, suc, ◌+◌, ◌-◌, ◌<◌, ◌≤◌, true, false, ◌&&◌, cond, List, [], ◌∷◌, ◌++◌, length, get_or, take, drop, refl, sym, ap, ◌∙◌, arith, nat_eq, length-append, append_assoc}
use Rattle.std.specs.Prelude.{not, ◌⊎◌}
use Rattle.std.proofs.Common.{inl, inr}
use Rattle.std.specs.List.{onto_first}
use Rattle.std.proofs.lemmas.Bool.{eqb-true}
use Rattle.std.proofs.lemmas.Slice.Eq.{bytes_eq-Decides}
use Rattle.workload.specs.Lines.{lines_of}
use Rattle.record_text.proofs.Decimals.{both, pair}
use Rattle.record_text.specs.RecordLines.{IsFound}
use Rattle.record_text.specs.Told.{are_before, is_record_line, joined, record_line}

pub ten : (byte : ℕ) (bytes : List ℕ) → byte ≡ 10 → lines_of (byte ∷ bytes) ≡ [] ∷ lines_of bytes
ten byte bytes e = ap (λ b. lines_of (b ∷ bytes)) e

pub other : (byte : ℕ) (bytes : List ℕ) → byte ≢ 10 → lines_of (byte ∷ bytes) ≡ onto_first byte (lines_of bytes)
other byte bytes e =
    elim (nat_eq byte 10) as (λ b. nat_eq byte 10 ≡ b → cond b ([] ∷ lines_of bytes) (onto_first byte (lines_of bytes)) ≡ onto_first byte (lines_of bytes)) [
      | true ↦ λ t. absurd (e (eqb-true byte 10 t))
      | false ↦ λ f. refl
    ] refl

-- the line ends at the first line feed, or with the text
pub first_line : (text : List ℕ) (n : ℕ) → 0 < length text → n ≤ length text → ((k : ℕ) → k < n → get_or text k 0 ≢ 10) → (n < length text → get_or text n 0 ≡ 10) → lines_of text ≡ take n text ∷ lines_of (drop (suc n) text)
first_line [] n some within before found = absurd (omega (arith, some))
first_line (byte ∷ bytes) zero some within before found = ten byte bytes (found (omega arith))
first_line (byte ∷ []) (suc zero) some within before found = other byte [] (before 0 (omega arith))
first_line (byte ∷ []) (suc (suc n)) some within before found = absurd (omega (arith, within))
first_line (byte ∷ b ∷ bytes) (suc n) some within before found =
    other byte (b ∷ bytes) (before 0 (omega arith))
    ∙ ap (onto_first byte) (first_line (b ∷ bytes) n (omega arith) (omega (arith, within)) (λ k lt. before (suc k) (omega (arith, lt))) (λ lt. found (omega (arith, lt))))

-- and then it is the line, the line feed and the rest
pub whole_line : (text : List ℕ) (n : ℕ) → n < length text → get_or text n 0 ≡ 10 → text ≡ take n text ++ 10 ∷ drop (suc n) text
whole_line [] n within found = absurd (omega (arith, within))
whole_line (byte ∷ bytes) zero within found = ap (λ (b : ℕ). b ∷ bytes) found
whole_line (byte ∷ bytes) (suc n) within found = ap (λ bs. byte ∷ bs) (whole_line bytes n (omega (arith, within)) found)

-- ---- up to a line `record`

-- lines were passed: what is left stands behind `start` bytes
pub record Passed (bytes : List ℕ) (start next : ℕ) : Type 0 where
  pub lines : List (List ℕ)
  pub are : lines_of bytes ≡ lines ++ lines_of (drop start bytes)
  pub first : are_before lines ≡ true
  pub joins : start < length bytes → take start bytes ≡ joined lines
  pub number : next ≡ length lines + 2
  pub within : start ≤ length bytes
  pub few : next ≤ start + 2

pub none_passed : (bytes : List ℕ) → Passed bytes 0 2
none_passed bytes = record { lines = []; are = refl; first = refl; joins = λ some. refl; number = refl; within = omega arith; few = omega arith }

all_more : (lines : List (List ℕ)) (line : List ℕ) → are_before lines ≡ true → is_record_line line ≡ false → are_before (lines ++ line ∷ []) ≡ true
all_more [] line h k = ap (λ b. not b && true) k
all_more (first ∷ lines) line h k =
    let parts = both (not (is_record_line first)) (are_before lines) h in
    pair (not (is_record_line first)) (are_before (lines ++ line ∷ [])) parts.0 (all_more lines line parts.1 k)

more : (lines : List (List ℕ)) (line : List ℕ) → joined (lines ++ line ∷ []) ≡ joined lines ++ (line ++ 10 ∷ [])
more [] line = nil (line ++ 10 ∷ []) where
  nil : (xs : List ℕ) → xs ++ [] ≡ xs
  nil [] = refl
  nil (x ∷ xs) = ap (λ ys. x ∷ ys) (nil xs)
more (first ∷ lines) line = ap (λ bs. (first ++ 10 ∷ []) ++ bs) (more lines line) ∙ sym (append_assoc (first ++ 10 ∷ []) (joined lines) (line ++ 10 ∷ []))

split_back : (lines : List (List ℕ)) (line : List ℕ) (rest : List (List ℕ)) → lines ++ line ∷ rest ≡ (lines ++ line ∷ []) ++ rest
split_back [] line rest = refl
split_back (first ∷ lines) line rest = ap (λ ls. first ∷ ls) (split_back lines line rest)

-- one line more, with its line feed, or the last one
drop_rest : (bytes line behind : List ℕ) (start : ℕ) → start ≤ length bytes → drop start bytes ≡ line ++ 10 ∷ behind → (drop (length bytes - length behind) bytes ≡ behind) × (take (length bytes - length behind) bytes ≡ take start bytes ++ (line ++ 10 ∷ []))
drop_rest bytes line behind zero within is =
    let long : length bytes ≡ length line + suc (length behind) = ap length is ∙ length-append line (10 ∷ behind) in
    let n : length bytes - length behind ≡ suc (length line) = omega (arith, long) in
    (ap (λ k. drop k bytes) n ∙ ap (drop (suc (length line))) is ∙ dropped line behind, ap (λ k. take k bytes) n ∙ ap (take (suc (length line))) is ∙ taken line behind)
  where
    dropped : (line behind : List ℕ) → drop (suc (length line)) (line ++ 10 ∷ behind) ≡ behind
    dropped [] behind = refl
    dropped (x ∷ line) behind = dropped line behind

    taken : (line behind : List ℕ) → take (suc (length line)) (line ++ 10 ∷ behind) ≡ line ++ 10 ∷ []
    taken [] behind = refl
    taken (x ∷ line) behind = ap (λ bs. x ∷ bs) (taken line behind)
drop_rest [] line behind (suc start) within is = absurd (omega (arith, within))
drop_rest (byte ∷ bytes) line behind (suc start) within is =
    let rest = drop_rest bytes line behind start (omega (arith, within)) is in
    let long : length (drop start bytes) ≡ length line + suc (length behind) = ap length is ∙ length-append line (10 ∷ behind) in
    let fits : length (drop start bytes) ≤ length bytes = shorter start bytes in
    let n : length (byte ∷ bytes) - length behind ≡ suc (length bytes - length behind) = omega (arith, long, fits) in
    (ap (λ k. drop k (byte ∷ bytes)) n ∙ rest.0, ap (λ k. take k (byte ∷ bytes)) n ∙ ap (λ bs. byte ∷ bs) rest.1)
  where
    shorter : (k : ℕ) (bs : List ℕ) → length (drop k bs) ≤ length bs
    shorter zero bs = omega arith
    shorter (suc k) [] = omega arith
    shorter (suc k) (b ∷ bs) = omega (arith, shorter k bs)

drop_all : (bytes : List ℕ) → drop (length bytes) bytes ≡ []
drop_all [] = refl
drop_all (byte ∷ bytes) = drop_all bytes

-- the first line of what is left is passed
pub pass_on : (bytes line behind : List ℕ) (start next : ℕ) → Passed bytes start next → start < length bytes → lines_of (drop start bytes) ≡ line ∷ lines_of behind → ((drop start bytes ≡ line ++ 10 ∷ behind) ⊎ (behind ≡ [])) → length behind < length (drop start bytes)
    → is_record_line line ≡ false → Passed bytes (length bytes - length behind) (next + 1)
pass_on bytes line behind start next passed some cut (inl feed) less plain =
    let rest = drop_rest bytes line behind start passed.within feed in
    let long : length (drop start bytes) ≡ length line + suc (length behind) = ap length feed ∙ length-append line (10 ∷ behind) in
    let all : length (drop start bytes) + start ≡ length bytes = dropped start bytes passed.within in
    let count : length (passed.lines ++ line ∷ []) ≡ length passed.lines + 1 = length-append passed.lines (line ∷ []) in
    record {
      lines = passed.lines ++ line ∷ [];
      are = passed.are ∙ ap (λ ls. passed.lines ++ ls) (cut ∙ ap (λ (bs : List ℕ). line ∷ lines_of bs) (sym rest.0)) ∙ split_back passed.lines line (lines_of (drop (length bytes - length behind) bytes));
      first = all_more passed.lines line passed.first plain;
      joins = λ within. rest.1 ∙ ap (λ bs. bs ++ (line ++ 10 ∷ [])) (passed.joins some) ∙ sym (more passed.lines line);
      number = (let n = passed.number in omega (arith, n, count));
      within = omega arith;
      few = (let n = passed.few in omega (arith, n, long, all));
    }
  where
    dropped : (k : ℕ) (bs : List ℕ) → k ≤ length bs → length (drop k bs) + k ≡ length bs
    dropped zero bs h = omega arith
    dropped (suc k) [] h = absurd (omega (arith, h))
    dropped (suc k) (b ∷ bs) h = omega (arith, dropped k bs (omega (arith, h)))
pass_on bytes line behind start next passed some cut (inr last) less plain =
    let none : length behind ≡ 0 = ap length last in
    let at : length bytes - length behind ≡ length bytes = omega (arith, none) in
    let nothing : drop (length bytes - length behind) bytes ≡ [] = ap (λ k. drop k bytes) at ∙ drop_all bytes in
    let count : length (passed.lines ++ line ∷ []) ≡ length passed.lines + 1 = length-append passed.lines (line ∷ []) in
    record {
      lines = passed.lines ++ line ∷ [];
      are = passed.are ∙ ap (λ ls. passed.lines ++ ls) (cut ∙ ap (λ (bs : List ℕ). line ∷ lines_of bs) (last ∙ sym nothing)) ∙ split_back passed.lines line (lines_of (drop (length bytes - length behind) bytes));
      first = all_more passed.lines line passed.first plain;
      joins = λ within. absurd (omega (arith, within, at));
      number = (let n = passed.number in omega (arith, n, count));
      within = omega arith;
      few = (let n = passed.few in omega (arith, n, some, at));
    }

dropped : (k : ℕ) (bs : List ℕ) → k ≤ length bs → length (drop k bs) + k ≡ length bs
dropped zero bs h = omega arith
dropped (suc k) [] h = absurd (omega (arith, h))
dropped (suc k) (b ∷ bs) h = omega (arith, dropped k bs (omega (arith, h)))

-- it is the line `record`
pub found_here : (bytes line behind : List ℕ) (start next : ℕ) → Passed bytes start next → start < length bytes → lines_of (drop start bytes) ≡ line ∷ lines_of behind → length behind < length (drop start bytes) → is_record_line line ≡ true → IsFound bytes (take start bytes) behind next
found_here bytes line behind start next passed some cut less is = record {
  lines = passed.lines;
  are = passed.are ∙ ap (λ ls. passed.lines ++ ls) (cut ∙ ap (λ l. l ∷ lines_of behind) ((bytes_eq-Decides line record_line).0 is));
  first = passed.first;
  joins = passed.joins some;
  number = passed.number;
  few = (let n = passed.few in let all = dropped start bytes passed.within in omega (arith, n, less, all));
}

append_nil : (xs : List (List ℕ)) → xs ++ [] ≡ xs
append_nil [] = refl
append_nil (x ∷ xs) = ap (λ ys. x ∷ ys) (append_nil xs)

-- no line was it
pub none_found : (bytes : List ℕ) (start next : ℕ) → Passed bytes start next → length bytes ≤ start → are_before (lines_of bytes) ≡ true
none_found bytes start next passed end =
    let at : start ≡ length bytes = (let h = passed.within in omega (arith, h, end)) in
    let nothing : drop start bytes ≡ [] = ap (λ k. drop k bytes) at ∙ drop_all bytes in
    ap are_before (passed.are ∙ ap (λ (bs : List ℕ). passed.lines ++ lines_of bs) nothing ∙ append_nil passed.lines) ∙ passed.first
