-- Lists of numbers from 0 up, mapped and joined.
use Rattle.std.proofs.Common.{◌≡◌, ℕ, zero, suc, ◌+◌, List, [], ◌∷◌, ◌++◌, ◌<◌, length, get_or, take, refl, sym, ap, ◌∙◌, append_assoc, append-nil, arith}
use Rattle.std.specs.List.{flat_map, range_with_len}
use Rattle.std.proofs.lemmas.List.{take_more}

module _ {A : Type 0} (f : ℕ → List A) where
  from_more : (n a : ℕ) → flat_map f (range_with_len a (suc n)) ≡ flat_map f (range_with_len a n) ++ f (a + n)
  from_more zero a = append-nil (f a) ∙ ap f (omega arith)
  from_more (suc n) a =
      ap (λ more. f a ++ more) (from_more n (a + 1) ∙ ap (λ last. flat_map f (range_with_len (a + 1) n) ++ f last) (omega arith))
      ∙ sym (append_assoc (f a) (flat_map f (range_with_len (a + 1) n)) (f (a + suc n)))

  pub flat_more : (n : ℕ) → flat_map f (range_with_len 0 (n + 1)) ≡ flat_map f (range_with_len 0 n) ++ f n
  flat_more n =
      let one : n + 1 ≡ suc n = omega arith in
      let last : 0 + n ≡ n = omega arith in
      ap (λ m. flat_map f (range_with_len 0 m)) one ∙ from_more n 0 ∙ ap (λ m. flat_map f (range_with_len 0 n) ++ f m) last

pub take_next : {A : Type 0} (xs : List A) (i : ℕ) (x : A) → x ≡ get_or xs i x → i < length xs → take (i + 1) xs ≡ take i xs ++ x ∷ []
take_next xs i x at within = take_more xs i x within ∙ ap (λ y. take i xs ++ y ∷ []) (sym at)

pub take_whole : {A : Type 0} (xs : List A) (i : ℕ) → i ≡ length xs → take i xs ≡ xs
take_whole [] i is = ap (λ n. take n []) is
take_whole (x ∷ xs) i is = ap (λ n. take n (x ∷ xs)) is ∙ ap (λ ys. x ∷ ys) (take_whole xs (length xs) refl)
