-- A text of pieces, cut behind one of them.
use Rattle.std.proofs.Common.{◌≡◌, ℕ, ◌+◌, ◌<◌, List, [], ◌∷◌, ◌++◌, length, get_or, take, drop, sym, ap, ◌∙◌, add-one, append-nil}
use Rattle.std.specs.List.{flat_map}
use Rattle.std.specs.Prelude.{Result, Ok, Err, OnErr}
use Rattle.std.proofs.Math.Seq.{take-suc}
use Rattle.std.proofs.lemmas.Grind.{flat_map-append}
use Rattle.std.proofs.lemmas.List.{take-append-drop}

module _ {X : Type 0} (f : X → List ℕ) (xs : List X) (i : ℕ) (d : X) (below : i < length xs) where
  -- one more piece
  pub next_piece : flat_map f (take (i + 1) xs) ≡ flat_map f (take i xs) ++ f (get_or xs i d)
  next_piece =
      ap (λ (n : ℕ). flat_map f (take n xs)) (add-one i) ∙ ap (flat_map f) (take-suc xs i d below) ∙ flat_map-append f (take i xs) (get_or xs i d ∷ [])
      ∙ ap (λ (last : List ℕ). flat_map f (take i xs) ++ last) (append-nil (f (get_or xs i d)))

  -- and those behind it
  pub with_rest : flat_map f xs ≡ (flat_map f (take i xs) ++ f (get_or xs i d)) ++ flat_map f (drop (i + 1) xs)
  with_rest =
      ap (flat_map f) (sym (take-append-drop (i + 1) xs)) ∙ flat_map-append f (take (i + 1) xs) (drop (i + 1) xs)
      ∙ ap (λ (begun : List ℕ). begun ++ flat_map f (drop (i + 1) xs)) next_piece

-- a fact, where a result is an `Err`
pub on_err : {T E P : Type 0} (r : Result T E) → P → OnErr r P
on_err (Ok value) p = tt
on_err (Err error) p = p
