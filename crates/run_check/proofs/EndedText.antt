-- The lines of a text, each with its line feed, are the text, or the text with a line feed behind it.
use Rattle.std.proofs.Common.{◌≡◌, ℕ, suc, ◌-◌, ◌<◌, Bool, true, false, ◌==◌, cond, List, [], ◌∷◌, ◌++◌, length, get_or, Some, slice_get, refl, sym, ap, ◌∙◌, arith}
use Rattle.std.specs.List.{onto_first}
use Rattle.std.proofs.lemmas.Bool.{eqb-true}
use Rattle.std.proofs.lemmas.Option.{slice_get-get_or}
use Rattle.workload.specs.Lines.{lines_of}
use Rattle.record_text.specs.Told.{joined}
use Rattle.run_check.specs.Rest.{is_ended}

-- the text with a line feed behind it, unless it ends with one
abbrev pub with_feed : List ℕ → List ℕ
with_feed text = cond (is_ended text) text (text ++ 10 ∷ [])

cons_cond : (b : Bool) (byte : ℕ) (text : List ℕ) → byte ∷ cond b text (text ++ 10 ∷ []) ≡ cond b (byte ∷ text) (byte ∷ (text ++ 10 ∷ []))
cons_cond true byte text = refl
cons_cond false byte text = refl

-- there is a line, where there is a byte
some_line : (byte : ℕ) (text : List ℕ) → (line : List ℕ) × (lines : List (List ℕ)) × (lines_of (byte ∷ text) ≡ line ∷ lines)
some_line byte text = by (byte == 10) (lines_of text) where
  by : (b : Bool) (ls : List (List ℕ)) → (line : List ℕ) × (lines : List (List ℕ)) × (cond b ([] ∷ ls) (onto_first byte ls) ≡ line ∷ lines)
  by true ls = ([], ls, refl)
  by false [] = (byte ∷ [], [], refl)
  by false (l ∷ ls) = (byte ∷ l, ls, refl)

pub joined_lines : (text : List ℕ) → joined (lines_of text) ≡ with_feed text
joined_lines [] = refl
joined_lines (byte ∷ []) = by (byte == 10) refl where
  by : (b : Bool) → (byte == 10) ≡ b → joined (cond b ([] ∷ []) (onto_first byte [])) ≡ cond b (byte ∷ []) (byte ∷ 10 ∷ [])
  by true is = ap (λ (n : ℕ). n ∷ []) (sym (eqb-true byte 10 is))
  by false is = refl
joined_lines (byte ∷ (next ∷ text)) = by (byte == 10) refl (some_line next text) (joined_lines (next ∷ text)) where
  by : (b : Bool) → (byte == 10) ≡ b → (line : List ℕ) × (lines : List (List ℕ)) × (lines_of (next ∷ text) ≡ line ∷ lines) → joined (lines_of (next ∷ text)) ≡ with_feed (next ∷ text)
      → joined (cond b ([] ∷ lines_of (next ∷ text)) (onto_first byte (lines_of (next ∷ text)))) ≡ cond (is_ended (next ∷ text)) (byte ∷ (next ∷ text)) (byte ∷ ((next ∷ text) ++ 10 ∷ []))
  by true is some same = ap (λ (n : ℕ). n ∷ joined (lines_of (next ∷ text))) (sym (eqb-true byte 10 is)) ∙ ap (λ (bs : List ℕ). byte ∷ bs) same ∙ cons_cond (is_ended (next ∷ text)) byte (next ∷ text)
  by false is (line, lines, cut) same =
      ap (λ (ls : List (List ℕ)). joined (onto_first byte ls)) cut ∙ ap (λ (ls : List (List ℕ)). byte ∷ joined ls) (sym cut) ∙ ap (λ (bs : List ℕ). byte ∷ bs) same ∙ cons_cond (is_ended (next ∷ text)) byte (next ∷ text)

-- the last byte says so
pub ended_at : (text : List ℕ) (byte : ℕ) → slice_get text (length text - 1) ≡ Some byte → is_ended text ≡ (byte == 10)
ended_at [] byte at = absurd cc
ended_at (first ∷ []) byte at = ap (λ (n : ℕ). n == 10) (let same : first ≡ byte = cc in same)
ended_at (first ∷ (next ∷ text)) byte at = ended_at (next ∷ text) byte (ap (λ (n : ℕ). slice_get (first ∷ (next ∷ text)) n) (let same : suc (length (next ∷ text) - 1) ≡ length (first ∷ (next ∷ text)) - 1 = omega arith in same) ∙ at)

pub ended_by : (text : List ℕ) (byte : ℕ) → 0 < length text → byte ≡ get_or text (length text - 1) byte → is_ended text ≡ (byte == 10)
ended_by text byte some is = ended_at text byte (slice_get-get_or text (length text - 1) byte (omega (arith, some)) ∙ ap (λ (b : ℕ). Some b) (sym is))
