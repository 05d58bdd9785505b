-- The first line of a text.
use Rattle.std.proofs.Common.{◌≡◌, ◌≢◌, ℕ, zero, suc, ◌<◌, ◌≤◌, true, false, cond, List, [], ◌∷◌, length, get_or, take, drop, refl, ap, ◌∙◌, arith, nat_eq}
use Rattle.std.specs.List.{onto_first}
use Rattle.std.proofs.lemmas.Bool.{eqb-true}
use Rattle.workload.specs.Lines.{lines_of}

ten : (byte : ℕ) (bytes : List ℕ) → byte ≡ 10 → lines_of (byte ∷ bytes) ≡ [] ∷ lines_of bytes
ten byte bytes e = ap (λ b. lines_of (b ∷ bytes)) e

other : (byte : ℕ) (bytes : List ℕ) → byte ≢ 10 → lines_of (byte ∷ bytes) ≡ onto_first byte (lines_of bytes)
other byte bytes e =
    elim (nat_eq byte 10) as (λ b. nat_eq byte 10 ≡ b → cond b ([] ∷ lines_of bytes) (onto_first byte (lines_of bytes)) ≡ onto_first byte (lines_of bytes)) [
      | true ↦ λ t. absurd (e (eqb-true byte 10 t))
      | false ↦ λ f. refl
    ] refl

-- the line ends at the first line feed, or with the text
pub first_line : (text : List ℕ) (n : ℕ) → 0 < length text → n ≤ length text → ((k : ℕ) → k < n → get_or text k 0 ≢ 10) → (n < length text → get_or text n 0 ≡ 10) → lines_of text ≡ take n text ∷ lines_of (drop (suc n) text)
first_line [] n some within before found = absurd (omega arith)
first_line (byte ∷ bytes) zero some within before found = ten byte bytes (found (omega arith))
first_line (byte ∷ []) (suc zero) some within before found = other byte [] (before 0 (omega arith))
first_line (byte ∷ []) (suc (suc n)) some within before found = absurd (omega arith)
first_line (byte ∷ b ∷ bytes) (suc n) some within before found =
    other byte (b ∷ bytes) (before 0 (omega arith))
    ∙ ap (onto_first byte) (first_line (b ∷ bytes) n (omega arith) (omega arith) (λ k lt. before (suc k) (omega arith)) (λ lt. found (omega arith)))
