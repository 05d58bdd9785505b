-- What is so of each found end of a list is so of each line's.
use Rattle.std.proofs.Common.{◌≡◌, ◌⊎◌, inl, inr, ℕ, ◌+◌, ◌<◌, ◌≤◌, List, [], ◌∷◌, map, length, get_or, sym, subst, arith}
use Rattle.std.specs.Prelude.{All, slice_index_or}
use Rattle.std.proofs.Math.Nat.{eq-or-lt_of_le}
use Rattle.std.proofs.lemmas.List.Elements.{All-cons, All-head, All-nil, All-tail, at_read}
use Rattle.run_record.specs.Explains.{HasEnded, IsAtEnd}
use Rattle.run_record.specs.Lines.{Line, LineEnd, halted, misused, never, stayed, stopped, unfinished, waits, whole}
use Rattle.list_checks.specs.declared.spell.line.SpeltLine.{SpeltLine}
use Rattle.list_checks.specs.SpellLines.{line_end}
use Rattle.record_clauses.specs.Account.{Account}

pub head_of : {X : Type 0} (x y : X) (xs ys : List X) → x ∷ xs ≡ y ∷ ys → x ≡ y
head_of x y xs ys e = cc

pub tail_of : {X : Type 0} (x y : X) (xs ys : List X) → x ∷ xs ≡ y ∷ ys → xs ≡ ys
tail_of x y xs ys e = cc

abbrev pub endings : List Line → List LineEnd
endings lines = map (λ (line : Line). line.ending) lines

abbrev pub found_endings : List SpeltLine → List LineEnd
found_endings found = map (λ (line : SpeltLine). line_end line.ending) found

-- the account's lines end as what was found of them
abbrev pub AreFound : List SpeltLine → Account → Type 0
AreFound found account = endings account.lines ≡ found_endings found

-- what is so of what each of these is, is so of what each of those is
pub all_along : {X Y Z : Type 0} (P : Z → Type 0) (f : X → Z) (g : Y → Z) (xs : List X) (ys : List Y) → map f xs ≡ map g ys → All (λ x. P (f x)) xs → All (λ y. P (g y)) ys
all_along P f g xs [] same all = All-nil (λ y. P (g y))
all_along P f g [] (y ∷ ys) same all = absurd cc
all_along P f g (x ∷ xs) (y ∷ ys) same all =
    All-cons (λ y. P (g y)) y ys (subst P (head_of (f x) (g y) _ _ same) (All-head (λ x. P (f x)) x xs all)) (all_along P f g xs ys (tail_of (f x) (g y) _ _ same) (All-tail (λ x. P (f x)) x xs all))

abbrev end_of : Line → LineEnd
end_of line = line.ending

abbrev found_end : SpeltLine → LineEnd
found_end line = line_end line.ending

module _ (P : LineEnd → Type 0) where
  pub all_of_found : (lines : List Line) (found : List SpeltLine) → endings lines ≡ found_endings found → All (λ (line : SpeltLine). P (line_end line.ending)) found → All (λ (line : Line). P line.ending) lines
  all_of_found lines found same all = all_along P found_end end_of found lines (sym same) all

  pub found_of_all : (lines : List Line) (found : List SpeltLine) → endings lines ≡ found_endings found → All (λ (line : Line). P line.ending) lines → All (λ (line : SpeltLine). P (line_end line.ending)) found
  found_of_all lines found same all = all_along P end_of found_end lines found same all

  pub all_again : (lines others : List Line) → endings lines ≡ endings others → All (λ (line : Line). P line.ending) lines → All (λ (line : Line). P line.ending) others
  all_again lines others same all = all_along P end_of end_of lines others same all

-- of a list's first items
module _ {X : Type 0} (P : X → Type 0) (xs : List X) where
  abbrev pub AllTo : ℕ → Type 0
  AllTo n = (k : ℕ) (d : X) → k < n → P (slice_index_or xs k d)

  pub one_more : (n : ℕ) (x : X) → n < length xs → x ≡ get_or xs n x → P x → AllTo n → AllTo (n + 1)
  one_more n x inside is here all k d below = by (eq-or-lt_of_le {n = k} {m = n} (omega (arith, below))) where
    by : (k ≡ n) ⊎ (k < n) → P (slice_index_or xs k d)
    by (inl same) = subst (λ (j : ℕ). P (slice_index_or xs j d)) (sym same) (at_read xs P n x inside is here d)
    by (inr less) = all k d less

  pub not_here : (n : ℕ) (x : X) → n < length xs → x ≡ get_or xs n x → All P xs → P x
  not_here n x inside is all = subst P (sym is) (all n x inside)

  pub all_done : (n : ℕ) → length xs ≤ n → AllTo n → All P xs
  all_done n past all k d below = all k d (omega (arith, past, below))

ended_at_end : (ending : LineEnd) → IsAtEnd ending → HasEnded ending
ended_at_end whole at = tt
ended_at_end (misused misuse) at = tt
ended_at_end (halted misuse) at = tt
ended_at_end unfinished at = at
ended_at_end (stayed never) at = tt
ended_at_end (stayed (stopped misuse)) at = tt
ended_at_end (stayed waits) at = at

-- who is at the end has ended
pub all_ended : (lines : List Line) → All (λ (line : Line). IsAtEnd line.ending) lines → All (λ (line : Line). HasEnded line.ending) lines
all_ended [] all = All-nil (λ (line : Line). HasEnded line.ending)
all_ended (l ∷ lines) all = All-cons (λ (line : Line). HasEnded line.ending) l lines (ended_at_end l.ending (All-head (λ (line : Line). IsAtEnd line.ending) l lines all)) (all_ended lines (All-tail (λ (line : Line). IsAtEnd line.ending) l lines all))
