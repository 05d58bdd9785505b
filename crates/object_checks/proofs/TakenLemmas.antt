-- Of each worker's items on an object so many are taken.
use Rattle.std.proofs.Common.{◌≡◌, ◌⊎◌, inl, inr, ℕ, zero, suc, ◌+◌, ◌-◌, ◌<◌, ◌≤◌, List, [], ◌∷◌, length, map, set, get_or, Some, slice_get, sym, ap, subst, arith}
use Rattle.std.specs.Borrow.{Bor}
use Rattle.std.proofs.Math.Nat.{eq-or-lt_of_le}
use Rattle.std.proofs.lemmas.Bool.Decides.{leb_tells}
use Rattle.std.proofs.lemmas.List.{length-map, get_or_past}
use Rattle.std.proofs.lemmas.Option.{slice_get_within}
use Rattle.object_checks.specs.declared.journals.item.JournalItem.{JournalItem}
use Rattle.object_checks.specs.JournalRows.{IsNext, AreTaken, items_in}

module _ (tables : List (List (List (Bor JournalItem)))) (object : ℕ) (heads : List ℕ) where
  -- of the first n workers all items are taken
  abbrev pub TakenTo : ℕ → Type 0
  TakenTo n = (worker : ℕ) → worker < n → length (items_in tables object worker) ≤ get_or heads worker 0

  pub taken_more : (n : ℕ) → length (get_or (get_or tables n []) object []) ≤ get_or heads n 0 → TakenTo n → TakenTo (n + 1)
  taken_more n all taken worker below = by (eq-or-lt_of_le {n = worker} {m = n} (omega (arith, below))) where
    by : (worker ≡ n) ⊎ (worker < n) → length (items_in tables object worker) ≤ get_or heads worker 0
    by (inl same) = subst (λ w. length (items_in tables object w) ≤ get_or heads w 0) (sym same)
        (subst (λ k. k ≤ get_or heads n 0) (sym (length-map (get_or (get_or tables n []) object []) (λ (item : Bor JournalItem). item.now))) all)
    by (inr before) = taken worker before

  pub no_items_in : (worker : ℕ) → length tables ≤ worker → items_in tables object worker ≡ []
  no_items_in worker past = ap (λ (t : List (List (Bor JournalItem))). map (λ (item : Bor JournalItem). item.now) (get_or t object [])) (get_or_past tables worker [] past)

  pub taken_all : (n : ℕ) → length tables ≤ n → TakenTo n → AreTaken (items_in tables object) heads
  taken_all n all taken worker = elim (leb_tells n worker) [
    | inl past ↦ (let beyond = past.1 in let none = ap (λ (l : List JournalItem). length l) (no_items_in worker (omega (arith, all, beyond))) in omega (arith, none))
    | inr before ↦ taken worker before.1
  ]

  pub not_taken : (worker : ℕ) (item : JournalItem) → slice_get (items_in tables object worker) (get_or heads worker 0) ≡ Some item → AreTaken (items_in tables object) heads → ⊥
  not_taken worker item there taken = let inside = slice_get_within (items_in tables object worker) (get_or heads worker 0) item there in let all = taken worker in absurd (omega (arith, inside, all))

-- how many items are left
abbrev pub left_in : ℕ → List (List (List (Bor JournalItem))) → List ℕ → ℕ
left_in object [] heads = 0
left_in object (table ∷ tables) [] = 0
left_in object (table ∷ tables) (head ∷ heads) = (length (get_or table object []) - head) + left_in object tables heads

pub fewer_left : (object : ℕ) (tables : List (List (List (Bor JournalItem)))) (heads : List ℕ) (worker : ℕ) → worker < length heads → get_or heads worker 0 < length (get_or (get_or tables worker []) object [])
    → left_in object tables (set heads worker (get_or heads worker 0 + 1)) < left_in object tables heads
fewer_left object [] heads worker inside some = absurd (omega (arith, some))
fewer_left object (table ∷ tables) [] worker inside some = absurd (omega (arith, inside))
fewer_left object (table ∷ tables) (head ∷ heads) zero inside some = omega (arith, some)
fewer_left object (table ∷ tables) (head ∷ heads) (suc worker) inside some = let fewer = fewer_left object tables heads worker (omega (arith, inside)) some in omega (arith, fewer)

pub next_within : (tables : List (List (List (Bor JournalItem)))) (object : ℕ) (heads : List ℕ) (number worker : ℕ) (item : JournalItem) → IsNext (items_in tables object) heads number worker item
    → get_or heads worker 0 < length (get_or (get_or tables worker []) object [])
next_within tables object heads number worker item is = subst (λ k. get_or heads worker 0 < k) (length-map (get_or (get_or tables worker []) object []) (λ (i : Bor JournalItem). i.now))
    (slice_get_within (items_in tables object worker) (get_or heads worker 0) item is.stands)
