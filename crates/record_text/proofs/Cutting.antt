-- A text that is cut at a byte.
use Rattle.std.proofs.Common.{◌≡◌, ℕ, zero, suc, ◌<◌, Bool, true, false, eqb, List, [], ◌∷◌, length, get_or, take, drop, refl, ap, ◌∙◌, arith}
use Rattle.std.specs.List.{slice_split, onto_first}
use Rattle.std.proofs.lemmas.List.Splits.{slice_split-cons_yes, slice_split-cons_no}

other : (b : Bool) → (b ≡ true → ⊥) → b ≡ false
other true never = absurd (never refl)
other false never = refl

-- without the byte it is one part
pub uncut : (separator : ℕ) (text : List ℕ) → ((k : ℕ) → k < length text → eqb (get_or text k 0) separator ≡ true → ⊥) → slice_split (λ byte. eqb byte separator) text ≡ text ∷ []
uncut separator [] none = refl
uncut separator (byte ∷ bytes) none =
    slice_split-cons_no (λ b. eqb b separator) byte bytes (other (eqb byte separator) (none 0 (omega arith)))
    ∙ ap (onto_first byte) (uncut separator bytes (λ k below is. none (suc k) (omega (arith, below)) is))

-- the first part ends at the first such byte
pub cut_at : (separator : ℕ) (text : List ℕ) (n : ℕ) → n < length text → ((k : ℕ) → k < n → eqb (get_or text k 0) separator ≡ true → ⊥) → eqb (get_or text n 0) separator ≡ true
    → slice_split (λ byte. eqb byte separator) text ≡ take n text ∷ slice_split (λ byte. eqb byte separator) (drop (suc n) text)
cut_at separator [] n within none is = absurd (omega (arith, within))
cut_at separator (byte ∷ bytes) zero within none is = slice_split-cons_yes (λ b. eqb b separator) byte bytes is
cut_at separator (byte ∷ bytes) (suc n) within none is =
    slice_split-cons_no (λ b. eqb b separator) byte bytes (other (eqb byte separator) (none 0 (omega arith)))
    ∙ ap (onto_first byte) (cut_at separator bytes n (omega (arith, within)) (λ k below. none (suc k) (omega (arith, below))) is)
