-- Where a text is cut: at the first of a byte that what stands before it hasn't.
use Rattle.std.proofs.Common.{◌≡◌, ◌∙◌, ℕ, suc, ◌+◌, ◌%◌, ◌^◌, ◌<◌, ◌≤◌, Bool, true, false, eqb, not, ◌&&◌, List, [], ◌∷◌, ◌++◌, length, refl, sym, ap, arith, ℤ, pos, negsuc}
use Rattle.std.specs.Fmt.{decimal, signed_decimal}
use Rattle.std.specs.List.{list_all}
use Rattle.std.specs.Prelude.{nat_le, ◌||◌}
use lib.Signed.{mag}
use Rattle.std.proofs.lemmas.Bool.{and_parts, and_from, eq-eqb, ne_eqb, true≢false, or_left}
use Rattle.std.proofs.lemmas.Fmt.{decimal_by_steps}
use Rattle.sync_types.specs.Name.{is_name, is_name_byte, is_letter}
use Rattle.sync_types.specs.declared.name.TheConstants.{MAX_NAME}
use Rattle.workload.specs.Canonical.{behind_spaces}

-- a text without this byte
abbrev pub lacks : ℕ → List ℕ → Bool
lacks byte text = list_all (λ other. not (eqb other byte)) text

pub lacks_both : (byte : ℕ) (a b : List ℕ) → lacks byte a ≡ true → lacks byte b ≡ true → lacks byte (a ++ b) ≡ true
lacks_both byte [] b la lb = lb
lacks_both byte (c ∷ a) b la lb =
    let parts = and_parts (not (eqb c byte)) (lacks byte a) la in
    and_from (not (eqb c byte)) (lacks byte (a ++ b)) parts.0 (lacks_both byte a b parts.1 lb)

-- its first byte is another
pub first_lacks : (byte c : ℕ) (a : List ℕ) → lacks byte (c ∷ a) ≡ true → c ≡ byte → ⊥
first_lacks byte c a l e = at (eqb c byte) (eq-eqb c byte e) (and_parts (not (eqb c byte)) (lacks byte a) l).0
  where
    at : (b : Bool) → b ≡ true → not b ≡ true → ⊥
    at true e f = absurd cc
    at false e f = absurd cc

pub rest_lacks : (byte c : ℕ) (a : List ℕ) → lacks byte (c ∷ a) ≡ true → lacks byte a ≡ true
rest_lacks byte c a l = (and_parts (not (eqb c byte)) (lacks byte a) l).1

head_of : {a b : ℕ} {x y : List ℕ} → a ∷ x ≡ b ∷ y → a ≡ b
head_of e = cc

rest_of : {a b : ℕ} {x y : List ℕ} → a ∷ x ≡ b ∷ y → x ≡ y
rest_of e = cc

-- two texts are cut in one way at the first of a byte
pub cut : (byte : ℕ) (a b x y : List ℕ) → lacks byte a ≡ true → lacks byte b ≡ true → a ++ byte ∷ x ≡ b ++ byte ∷ y → (a ≡ b) × (x ≡ y)
cut byte [] [] x y la lb e = (refl, rest_of e)
cut byte [] (d ∷ b) x y la lb e = absurd (first_lacks byte d b lb (sym (head_of e)))
cut byte (c ∷ a) [] x y la lb e = absurd (first_lacks byte c a la (head_of e))
cut byte (c ∷ a) (d ∷ b) x y la lb e =
    let later = cut byte a b x y (rest_lacks byte c a la) (rest_lacks byte d b lb) (rest_of e) in
    (ap (λ (n : ℕ). n ∷ a) (head_of e) ∙ ap (λ (t : List ℕ). d ∷ t) later.0, later.1)

-- a word, and the words behind it
cut_words : (a b : List ℕ) (xs ys : List (List ℕ)) → lacks 32 a ≡ true → lacks 32 b ≡ true → a ++ behind_spaces xs ≡ b ++ behind_spaces ys → (a ≡ b) × (behind_spaces xs ≡ behind_spaces ys)
cut_words [] [] xs ys la lb e = (refl, e)
cut_words [] (d ∷ b) [] ys la lb e = absurd cc
cut_words [] (d ∷ b) (x ∷ xs) ys la lb e = absurd (first_lacks 32 d b lb (sym (head_of e)))
cut_words (c ∷ a) [] xs [] la lb e = absurd cc
cut_words (c ∷ a) [] xs (y ∷ ys) la lb e = absurd (first_lacks 32 c a la (head_of e))
cut_words (c ∷ a) (d ∷ b) xs ys la lb e =
    let later = cut_words a b xs ys (rest_lacks 32 c a la) (rest_lacks 32 d b lb) (rest_of e) in
    (ap (λ (n : ℕ). n ∷ a) (head_of e) ∙ ap (λ (t : List ℕ). d ∷ t) later.0, later.1)

-- words without spaces, each behind one, are read back
pub words_apart : (xs ys : List (List ℕ)) → list_all (lacks 32) xs ≡ true → list_all (lacks 32) ys ≡ true → behind_spaces xs ≡ behind_spaces ys → xs ≡ ys
words_apart [] [] lx ly e = refl
words_apart [] (y ∷ ys) lx ly e = absurd cc
words_apart (x ∷ xs) [] lx ly e = absurd cc
words_apart (x ∷ xs) (y ∷ ys) lx ly e =
    let x_parts = and_parts (lacks 32 x) (list_all (lacks 32) xs) lx in
    let y_parts = and_parts (lacks 32 y) (list_all (lacks 32) ys) ly in
    let first = cut_words x y xs ys x_parts.0 y_parts.0 (rest_of e) in
    ap (λ (w : List ℕ). w ∷ xs) first.0 ∙ ap (λ (ws : List (List ℕ)). y ∷ ws) (words_apart xs ys x_parts.1 y_parts.1 first.1)

-- words without a byte, of which a space is none
pub words_lack : (byte : ℕ) (xs : List (List ℕ)) → not (eqb 32 byte) ≡ true → list_all (lacks byte) xs ≡ true → lacks byte (behind_spaces xs) ≡ true
words_lack byte [] space l = refl
words_lack byte (x ∷ xs) space l =
    let parts = and_parts (lacks byte x) (list_all (lacks byte) xs) l in
    and_from (not (eqb 32 byte)) (lacks byte (x ++ behind_spaces xs)) space (lacks_both byte x (behind_spaces xs) parts.0 (words_lack byte xs space parts.1))

-- no digit is this byte
abbrev pub IsNoDigit : ℕ → Type 0
IsNoDigit byte = (digit : ℕ) → 48 ≤ digit → digit ≤ 57 → digit ≡ byte → ⊥

not_this : (digit byte : ℕ) → (digit ≡ byte → ⊥) → not (eqb digit byte) ≡ true
not_this digit byte differ = at (eqb digit byte) (ne_eqb digit byte differ)
  where
    at : (b : Bool) → b ≡ false → not b ≡ true
    at false e = refl
    at true e = absurd cc

pub decimal_lacks : (byte : ℕ) → IsNoDigit byte → (n : ℕ) → n < 2 ^ 64 → lacks byte (decimal n) ≡ true
decimal_lacks byte none n small =
    decimal_by_steps (λ _ ds. lacks byte ds ≡ true)
    (λ d lt. and_from (not (eqb (48 + d) byte)) true (not_this (48 + d) byte (none (48 + d) (omega arith) (omega arith))) refl)
    (λ m ds le so. lacks_both byte ds ((48 + m % 10) ∷ []) so (and_from (not (eqb (48 + m % 10) byte)) true (not_this (48 + m % 10) byte (none (48 + m % 10) (omega arith) (omega arith))) refl))
    n small

pub signed_lacks : (byte : ℕ) → IsNoDigit byte → (45 ≡ byte → ⊥) → (z : ℤ) → mag z < 2 ^ 63 → lacks byte (signed_decimal z) ≡ true
signed_lacks byte none other (pos n) small = decimal_lacks byte none n (omega arith)
signed_lacks byte none other (negsuc n) small = and_from (not (eqb 45 byte)) (lacks byte (decimal (suc n))) (not_this 45 byte other) (decimal_lacks byte none (suc n) (omega arith))

-- a name has no byte but those of names
letter_is : (byte : ℕ) → is_letter byte ≡ true → is_name_byte byte ≡ true
letter_is byte e = or_left (is_letter byte || (nat_le 48 byte && nat_le byte 57)) (eqb byte 95) (or_left (is_letter byte) (nat_le 48 byte && nat_le byte 57) e)

bytes_lack : (byte : ℕ) → is_name_byte byte ≡ false → (bytes : List ℕ) → list_all is_name_byte bytes ≡ true → lacks byte bytes ≡ true
bytes_lack byte none [] l = refl
bytes_lack byte none (b ∷ bytes) l =
    let parts = and_parts (is_name_byte b) (list_all is_name_byte bytes) l in
    and_from (not (eqb b byte)) (lacks byte bytes) (not_this b byte (λ e. true≢false (sym parts.0 ∙ ap is_name_byte e ∙ none))) (bytes_lack byte none bytes parts.1)

pub name_lacks : (byte : ℕ) → is_name_byte byte ≡ false → (name : List ℕ) → is_name name ≡ true → lacks byte name ≡ true
name_lacks byte none [] l = absurd cc
name_lacks byte none (first ∷ rest) l =
    let parts = and_parts (nat_le (length (first ∷ rest)) MAX_NAME && is_letter first) (list_all is_name_byte rest) l in
    let letter = (and_parts (nat_le (length (first ∷ rest)) MAX_NAME) (is_letter first) parts.0).1 in
    bytes_lack byte none (first ∷ rest) (and_from (is_name_byte first) (list_all is_name_byte rest) (letter_is first letter) parts.1)
