-- Lists of pairs.
use Rattle.std.proofs.Common.{◌≡◌, ℕ, zero, suc, ◌+◌, List, [], ◌∷◌, ◌++◌, length, map, All, refl, sym, ap, ◌∙◌, subst, arith}
use Rattle.std.specs.Prelude.{zip}
use Rattle.std.specs.List.{range_with_len}
use Rattle.std.proofs.lemmas.List.{map_push}
use Rattle.std.proofs.lemmas.List.Elements.{All-push}

module _ {A B : Type 0} where
  pub firsts : (xs : List A) (ys : List B) → length xs ≡ length ys → map (λ (p : A × B). p.0) (zip xs ys) ≡ xs
  firsts [] ys same = refl
  firsts (x ∷ xs) [] same = absurd (omega (arith, same))
  firsts (x ∷ xs) (y ∷ ys) same = ap (λ (l : List A). x ∷ l) (firsts xs ys (omega (arith, same)))

  pub seconds : {C : Type 0} (f : B → C) (xs : List A) (ys : List B) → length xs ≡ length ys → map (λ (p : A × B). f p.1) (zip xs ys) ≡ map f ys
  seconds f [] [] same = refl
  seconds f [] (y ∷ ys) same = absurd (omega (arith, same))
  seconds f (x ∷ xs) [] same = absurd (omega (arith, same))
  seconds {C} f (x ∷ xs) (y ∷ ys) same = ap (λ (l : List C). f y ∷ l) (seconds f xs ys (omega (arith, same)))

  pub sized : (xs : List A) (ys : List B) → length xs ≡ length ys → length (zip xs ys) ≡ length xs
  sized [] ys same = refl
  sized (x ∷ xs) [] same = absurd (omega (arith, same))
  sized (x ∷ xs) (y ∷ ys) same = ap (λ n. suc n) (sized xs ys (omega (arith, same)))

module _ {A B : Type 0} (f : A → B) where
  -- one more item, as one more of what it comes to
  pub mapped_more : (old new : List A) (x : A) (ys : List B) (y : B) → new ≡ old ++ x ∷ [] → map f old ≡ ys → f x ≡ y → map f new ≡ ys ++ y ∷ []
  mapped_more old new x ys y grown same is = ap (map f) grown ∙ map_push f old x ∙ ap (λ (l : List B). l ++ f x ∷ []) same ∙ ap (λ (z : B). ys ++ z ∷ []) is

  -- what items come to, with one more behind it
  pub taken_more : (yielded : List A) (x : A) (old new : List B) → new ≡ old ++ f x ∷ [] → old ≡ map f yielded → new ≡ map f (yielded ++ x ∷ [])
  taken_more yielded x old new grown same = grown ∙ ap (λ (l : List B). l ++ f x ∷ []) same ∙ sym (map_push f yielded x)

module _ {A : Type 0} (P : A → Type 0) where
  pub all_more : (old new : List A) (x : A) → new ≡ old ++ x ∷ [] → All P old → P x → All P new
  all_more old new x grown all is = subst (All P) (sym grown) (All-push P old x all is)

pub counted_more : (n m k : ℕ) → m ≡ n + 1 → k ≡ n → range_with_len 0 n ++ k ∷ [] ≡ range_with_len 0 m
counted_more n m k is same = let next : m ≡ suc n = omega (arith, is) in sym (ap (range_with_len 0) next ∙ more 0 n k (omega (arith, same))) where
  more : (a n j : ℕ) → a + n ≡ j → range_with_len a (suc n) ≡ range_with_len a n ++ j ∷ []
  more a zero j e = let first : a ≡ j = omega (arith, e) in ap (λ i. i ∷ []) first
  more a (suc n) j e = ap (λ (l : List ℕ). a ∷ l) (more (a + 1) n j (omega (arith, e)))

mapped_twice : {A B C : Type 0} (f : B → C) (g : A → B) (xs : List A) → map f (map g xs) ≡ map (λ x. f (g x)) xs
mapped_twice f g [] = refl
mapped_twice {A} {B} {C} f g (x ∷ xs) = ap (λ (l : List C). f (g x) ∷ l) (mapped_twice f g xs)

module _ {A B : Type 0} (yielded : List (A × B)) (xs : List A) (ys : List B) (all : map (λ (p : A × B). (p.0, p.1)) yielded ≡ zip xs ys) (same : length xs ≡ length ys) where
  pub all_firsts : map (λ (p : A × B). p.0) yielded ≡ xs
  all_firsts = sym (mapped_twice (λ (p : A × B). p.0) (λ (p : A × B). (p.0, p.1)) yielded) ∙ ap (map (λ (p : A × B). p.0)) all ∙ firsts xs ys same

  pub all_seconds : {C : Type 0} (f : B → C) → map (λ (p : A × B). f p.1) yielded ≡ map f ys
  all_seconds f = sym (mapped_twice (λ (p : A × B). f p.1) (λ (p : A × B). (p.0, p.1)) yielded) ∙ ap (map (λ (p : A × B). f p.1)) all ∙ seconds f xs ys same

module _ {A B : Type 0} (f : A → B) where
  -- what all items come to, once all were taken
  pub all_taken : (yielded xs : List A) → map (λ x. x) yielded ≡ xs → map f yielded ≡ map f xs
  all_taken yielded xs all = sym (mapped_twice f (λ x. x) yielded) ∙ ap (map f) all
