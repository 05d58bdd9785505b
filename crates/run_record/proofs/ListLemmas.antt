-- Items of lists.
use Rattle.std.proofs.Common.{◌≡◌, ℕ, zero, suc, ◌<◌, ◌≤◌, List, [], ◌∷◌, ◌++◌, length, get_or, take, Option, Some, None, slice_get, slice_index, refl, ap, arith}
use Rattle.std.specs.Prelude.{unwrap_or}
use Rattle.std.proofs.lemmas.Option.{none-some, same_Some}
use Rattle.sync_model.specs.declared.item.Item.{Item}
use Rattle.run_record.specs.declared.made.Made.{Made}
use Rattle.run_record.specs.declared.made.Made.TheVariants.{Shared, Entered}
use Rattle.run_record.specs.Record.{shared_in}

-- the place of a call among the calls on maps and atomics in its list
pub shared_at : (list : List Made) (i : ℕ) (x : Item) → slice_get list i ≡ Some (Shared x) → slice_get (shared_in list) (length (shared_in (take i list))) ≡ Some x
shared_at [] i x at = absurd (none-some (Shared x) at)
shared_at (Shared y ∷ list) zero x at = ap from_shared at where
  from_shared : Option Made → Option Item
  from_shared None = None
  from_shared (Some (Shared z)) = Some z
  from_shared (Some (Entered object entry)) = None
shared_at (Entered object entry ∷ list) zero x at = absurd (none-some x (ap from_shared at)) where
  from_shared : Option Made → Option Item
  from_shared None = None
  from_shared (Some (Shared z)) = Some z
  from_shared (Some (Entered object entry)) = None
shared_at (Shared y ∷ list) (suc i) x at = later (length (shared_in (take i list))) (shared_at list i x at) where
  later : (n : ℕ) → slice_get (shared_in list) n ≡ Some x → slice_get (y ∷ shared_in list) (suc n) ≡ Some x
  later n is = is
shared_at (Entered object entry ∷ list) (suc i) x at = shared_at list i x at

-- each of these calls is an item of the list
pub shared_from : (list : List Made) (n : ℕ) (x : Item) → slice_get (shared_in list) n ≡ Some x → (i : ℕ) × (slice_get list i ≡ Some (Shared x)) × (length (shared_in (take i list)) ≡ n)
shared_from [] n x at = absurd (none-some x at)
shared_from (Shared y ∷ list) zero x at = (0, ap (λ (z : Item). Some (Shared z)) (same_Some y x at), refl)
shared_from (Shared y ∷ list) (suc n) x at = let there = shared_from list n x at in (suc there.0, there.1, ap (λ (m : ℕ). suc m) there.2)
shared_from (Entered object entry ∷ list) n x at = let there = shared_from list n x at in (suc there.0, there.1, there.2)

-- the number at a place that a list has
pub number_at : (numbers : List ℕ) (n : ℕ) → n < length numbers → slice_get numbers n ≡ Some (slice_index numbers n)
number_at [] n within = absurd (omega (arith, within))
number_at (first ∷ numbers) zero within = refl
number_at (first ∷ numbers) (suc n) within = number_at numbers n (omega (arith, within))

-- a later item has more of them before it
pub shared_before : (list : List Made) (i j : ℕ) (x : Item) → i < j → slice_get list i ≡ Some (Shared x) → length (shared_in (take i list)) < length (shared_in (take j list))
shared_before [] i j x before at = absurd (none-some (Shared x) at)
shared_before (y ∷ list) i zero x before at = absurd (omega (arith, before))
shared_before (Shared y ∷ list) zero (suc j) x before at = omega arith
shared_before (Entered object entry ∷ list) zero (suc j) x before at = absurd (none-some x (ap from_shared at)) where
  from_shared : Option Made → Option Item
  from_shared None = None
  from_shared (Some (Shared z)) = Some z
  from_shared (Some (Entered object entry)) = None
shared_before (Shared y ∷ list) (suc i) (suc j) x before at = omega (arith, shared_before list i j x (omega (arith, before)) at)
shared_before (Entered object entry ∷ list) (suc i) (suc j) x before at = shared_before list i j x (omega (arith, before)) at

module _ {A : Type 0} where
  -- an item that is there is the one that a list has, whatever it has elsewhere
  pub get_past : (lists : List (List A)) (i : ℕ) → length lists ≤ i → get_or lists i [] ≡ []
  get_past [] i past = refl
  get_past (list ∷ lists) zero past = absurd (omega (arith, past))
  get_past (list ∷ lists) (suc i) past = get_past lists i (omega (arith, past))

  -- a list that has such an item is one of them, at its place
  pub list_there : (lists : List (List A)) (at i : ℕ) (x : A) → slice_get (get_or lists at []) i ≡ Some x → slice_get lists at ≡ Some (get_or lists at [])
  list_there [] at i x is = absurd (none-some x is)
  list_there (list ∷ lists) zero i x is = refl
  list_there (list ∷ lists) (suc at) i x is = list_there lists at i x is

  -- what stands behind a list is at its length
  pub at_length : (xs ys : List A) (y : A) → slice_get (xs ++ y ∷ ys) (length xs) ≡ Some y
  at_length [] ys y = refl
  at_length (x ∷ xs) ys y = at_length xs ys y

  left_at : (ys zs : List A) (q : ℕ) (e : A) → slice_get (ys ++ zs) q ≡ Some e → q < length ys → get_or ys q e ≡ e
  left_at [] zs q e at within = absurd (omega (arith, within))
  left_at (y ∷ ys) zs zero e at within = ap (λ (o : Option A). unwrap_or o e) at
  left_at (y ∷ ys) zs (suc q) e at within = left_at ys zs q e at (omega (arith, within))

  -- what stands behind an item, and before the end of the items behind it, is one of these
  pub between_at : (xs ys zs : List A) (y e : A) (p : ℕ) → slice_get (xs ++ y ∷ (ys ++ zs)) p ≡ Some e → length xs < p → p < length (xs ++ y ∷ ys) → (q : ℕ) × (q < length ys) × (get_or ys q e ≡ e)
  between_at [] ys zs y e zero at behind before = absurd (omega (arith, behind))
  between_at [] ys zs y e (suc q) at behind before = let within : q < length ys = omega (arith, before) in (q, within, left_at ys zs q e at within)
  between_at (x ∷ xs) ys zs y e zero at behind before = absurd (omega (arith, behind))
  between_at (x ∷ xs) ys zs y e (suc p) at behind before = between_at xs ys zs y e p at (omega (arith, behind)) (omega (arith, before))
