-- The canonical text, piece by piece.
use Rattle.std.proofs.Common.{◌≡◌, ℕ, ◌<◌, length, take, drop, min, arith, inl, inr, List, [], ◌∷◌, ◌++◌, map, refl, sym, ap, ◌∙◌, append_assoc}
use Rattle.std.specs.List.{join_with_byte}
use Rattle.std.proofs.lemmas.List.{append-nil, take_all, drop_all}
use Rattle.std.proofs.lemmas.Bool.{cases_lt}
use Rattle.workload.specs.declared.line.Line.TheVariants as lines
use Rattle.workload.specs.declared.turn.Turn.{Turn}
use Rattle.workload.specs.Words.{spelled}
use Rattle.workload.specs.Canonical.{text_line, lines_text, behind_spaces, eights}

-- words joined are the first one, and the others behind spaces
pub joined : (word : List ℕ) (words : List (List ℕ)) → join_with_byte 32 (word ∷ words) ≡ word ++ behind_spaces words
joined word [] = sym (append-nil word)
joined word (next ∷ words) = ap (λ (rest : List ℕ). word ++ 32 ∷ rest) (joined next words)

-- a line is its first word, the others behind spaces, and a line feed
pub line_is : (word : List ℕ) (words : List (List ℕ)) → text_line (word ∷ words) ≡ word ++ (behind_spaces words ++ 10 ∷ [])
line_is word words = ap (λ (text : List ℕ). text ++ 10 ∷ []) (joined word words) ∙ append_assoc word (behind_spaces words) (10 ∷ [])

-- a line is closed where all its words stand
pub close_line : (start text word : List ℕ) (words rest : List (List ℕ)) → rest ≡ [] → text ++ behind_spaces rest ≡ (start ++ word) ++ behind_spaces words → text ++ 10 ∷ [] ≡ start ++ text_line (word ∷ words)
close_line start text word words rest none h =
    let all : text ≡ (start ++ word) ++ behind_spaces words = sym (append-nil text) ∙ ap (λ (ws : List (List ℕ)). text ++ behind_spaces ws) (sym none) ∙ h in
    ap (λ (t : List ℕ). t ++ 10 ∷ []) all
    ∙ append_assoc (start ++ word) (behind_spaces words) (10 ∷ [])
    ∙ append_assoc start word (behind_spaces words ++ 10 ∷ [])
    ∙ ap (λ (t : List ℕ). start ++ t) (sym (line_is word words))

-- more words, each behind a space
spaces_both : (words more : List (List ℕ)) → behind_spaces (words ++ more) ≡ behind_spaces words ++ behind_spaces more
spaces_both [] more = refl
spaces_both (word ∷ words) more = ap (λ (t : List ℕ). (32 ∷ word) ++ t) (spaces_both words more) ∙ sym (append_assoc (32 ∷ word) (behind_spaces words) (behind_spaces more))

-- the line of a call: its word, the names of its objects, and its operands
pub call_closed : (start word one two three : List ℕ) (names operands : List (List ℕ)) → one ≡ start ++ word → two ≡ one ++ behind_spaces names → three ≡ two ++ behind_spaces operands
    → three ++ 10 ∷ [] ≡ start ++ text_line (word ∷ names ++ operands)
call_closed start word one two three names operands first second third =
    close_line start three word (names ++ operands) [] refl
    (append-nil three ∙ third ∙ ap (λ (t : List ℕ). t ++ behind_spaces operands) (second ∙ ap (λ (t : List ℕ). t ++ behind_spaces names) first)
    ∙ append_assoc (start ++ word) (behind_spaces names) (behind_spaces operands) ∙ ap (λ (t : List ℕ). (start ++ word) ++ t) (sym (spaces_both names operands)))

take_min : {X : Type 0} (n : ℕ) (xs : List X) → take (min (length xs) n) xs ≡ take n xs
take_min n xs = elim (cases_lt n (length xs)) [
  | inl lt ↦ ap (λ (k : ℕ). take k xs) (omega arith)
  | inr le ↦ take_all (min (length xs) n) xs (omega arith) ∙ sym (take_all n xs le)
]

drop_min : {X : Type 0} (n : ℕ) (xs : List X) → drop (min (length xs) n) xs ≡ drop n xs
drop_min n xs = elim (cases_lt n (length xs)) [
  | inl lt ↦ ap (λ (k : ℕ). drop k xs) (omega arith)
  | inr le ↦ drop_all (min (length xs) n) xs (omega arith) ∙ sym (drop_all n xs le)
]

-- one more line of the schedule
pub schedule_more : ((ts : List Turn) → 0 < length ts → eights 7 ts ≡ take 8 ts ∷ eights 7 (drop 8 ts)) → (before after all : List ℕ) (rest turns behind : List Turn) → 0 < length rest → turns ≡ take (min (length rest) 8) rest → behind ≡ drop (min (length rest) 8) rest
    → after ≡ before ++ text_line (spelled (lines.Schedule turns))
    → before ++ lines_text (map (λ ts. lines.Schedule ts) (eights 7 rest)) ≡ all → after ++ lines_text (map (λ ts. lines.Schedule ts) (eights 7 behind)) ≡ all
schedule_more by_eights before after all rest turns behind some turns-is behind-is after-is h =
    let next : eights 7 rest ≡ turns ∷ eights 7 behind = by_eights rest some ∙ ap (λ (ts : List Turn). ts ∷ eights 7 (drop 8 rest)) (sym (take_min 8 rest) ∙ sym turns-is) ∙ ap (λ (ts : List Turn). turns ∷ eights 7 ts) (sym (drop_min 8 rest) ∙ sym behind-is) in
    ap (λ (t : List ℕ). t ++ lines_text (map (λ ts. lines.Schedule ts) (eights 7 behind))) after-is
    ∙ append_assoc before (text_line (spelled (lines.Schedule turns))) (lines_text (map (λ ts. lines.Schedule ts) (eights 7 behind)))
    ∙ ap (λ (ls : List (List Turn)). before ++ lines_text (map (λ ts. lines.Schedule ts) ls)) (sym next)
    ∙ h
