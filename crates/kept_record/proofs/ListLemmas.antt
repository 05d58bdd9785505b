-- Lists with one more element at their end.
use Rattle.std.proofs.Common.{◌≡◌, ℕ, zero, suc, ◌<◌, ◌==◌, Bool, true, false, cond, List, [], ◌∷◌, ◌++◌, map, length, take, Some, slice_get, refl, ap, ◌∙◌, subst, arith}
use Rattle.std.proofs.lemmas.Option.{none-some, same_Some, slice_get_within}
use Rattle.std.proofs.lemmas.List.{take-append-le}
use Rattle.std.proofs.Math.Seq.{take-append_seam}
use Rattle.sync_model.specs.declared.item.Item.{Item}
use Rattle.run_record.specs.declared.made.Made.{Made}
use Rattle.run_record.specs.declared.made.Made.TheVariants.{Shared, Entered}
use Rattle.run_record.specs.Record.{ObjectEntry, shared_in, entries_in}
use Rattle.kept_record.specs.Keeping.{Act, made_by, entries_on}

module _ {A : Type 0} where
  -- each element is one of those before, or the last
  pub each_more : (P : ℕ → A → Type 0) (xs : List A) (y : A) → ((i : ℕ) (x : A) → slice_get xs i ≡ Some x → P i x) → P (length xs) y → (i : ℕ) (x : A) → slice_get (xs ++ y ∷ []) i ≡ Some x → P i x
  each_more P [] y each last zero x at = subst (P 0) (same_Some y x at) last
  each_more P [] y each last (suc i) x at = absurd (none-some x at)
  each_more P (z ∷ xs) y each last zero x at = each 0 x at
  each_more P (z ∷ xs) y each last (suc i) x at = each_more (λ (n : ℕ) (v : A). P (suc n) v) xs y (λ n v is. each (suc n) v is) last i x at

  -- of each two, the later one is one of those before, or the last
  pub pair_more : (Q : A → A → Type 0) (xs : List A) (y : A) → ((i j : ℕ) (x z : A) → i < j → slice_get xs i ≡ Some x → slice_get xs j ≡ Some z → Q x z)
      → ((i : ℕ) (x : A) → slice_get xs i ≡ Some x → Q x y) → (i j : ℕ) (x z : A) → i < j → slice_get (xs ++ y ∷ []) i ≡ Some x → slice_get (xs ++ y ∷ []) j ≡ Some z → Q x z
  pair_more Q [] y pairs last i zero x z before at_x at_z = absurd (omega arith)
  pair_more Q [] y pairs last i (suc j) x z before at_x at_z = absurd (none-some z at_z)
  pair_more Q (w ∷ xs) y pairs last i zero x z before at_x at_z = absurd (omega arith)
  pair_more Q (w ∷ xs) y pairs last zero (suc j) x z before at_x at_z =
      subst (λ (v : A). Q v z) (same_Some w x at_x) (each_more (λ (n : ℕ) (v : A). Q w v) xs y (λ n v is. pairs 0 (suc n) w v (omega arith) refl is) (last 0 w refl) j z at_z)
  pair_more Q (w ∷ xs) y pairs last (suc i) (suc j) x z before at_x at_z =
      pair_more Q xs y (λ m n u v less at_u at_v. pairs (suc m) (suc n) u v (omega arith) at_u at_v) (λ n v is. last (suc n) v is) i j x z (omega arith) at_x at_z

  -- what stood before it is as it was
  pub before_last : (xs : List A) (y : A) (i : ℕ) (x : A) → slice_get xs i ≡ Some x → take i (xs ++ y ∷ []) ≡ take i xs
  before_last xs y i x at = let within : i < length xs = slice_get_within xs i x at in take-append-le i xs (y ∷ []) (omega arith)

  pub all_before : (xs : List A) (y : A) → take (length xs) (xs ++ y ∷ []) ≡ xs
  all_before xs y = take-append_seam xs (y ∷ [])

pub made_by-append : (worker : ℕ) (acts more : List Act) → made_by worker (acts ++ more) ≡ made_by worker acts ++ made_by worker more
made_by-append worker [] more = refl
made_by-append worker (act ∷ acts) more = chosen (act.worker == worker) (made_by worker (acts ++ more)) (made_by worker acts) (made_by-append worker acts more) where
  chosen : (b : Bool) (left right : List Made) → left ≡ right ++ made_by worker more → cond b (act.made ∷ left) left ≡ cond b (act.made ∷ right) right ++ made_by worker more
  chosen true left right is = ap (λ (l : List Made). act.made ∷ l) is
  chosen false left right is = is

pub entries_in-append : (object : ℕ) (list more : List Made) → entries_in object (list ++ more) ≡ entries_in object list ++ entries_in object more
entries_in-append object [] more = refl
entries_in-append object (Shared x ∷ list) more = entries_in-append object list more
entries_in-append object (Entered other entry ∷ list) more = chosen (other == object) (entries_in object (list ++ more)) (entries_in object list) (entries_in-append object list more) where
  chosen : (b : Bool) (left right : List ObjectEntry) → left ≡ right ++ entries_in object more → cond b (entry ∷ left) left ≡ cond b (entry ∷ right) right ++ entries_in object more
  chosen true left right is = ap (λ (l : List ObjectEntry). entry ∷ l) is
  chosen false left right is = is

map-append : {A B : Type 0} (f : A → B) (xs ys : List A) → map f (xs ++ ys) ≡ map f xs ++ map f ys
map-append f [] ys = refl
map-append {A} {B} f (x ∷ xs) ys = ap (λ (l : List B). f x ∷ l) (map-append f xs ys)

pub entries_on-append : (object : ℕ) (acts more : List Act) → entries_on object (acts ++ more) ≡ entries_on object acts ++ entries_on object more
entries_on-append object acts more =
    ap (entries_in object) (map-append (λ (act : Act). act.made) acts more) ∙ entries_in-append object (map (λ (act : Act). act.made) acts) (map (λ (act : Act). act.made) more)

pub shared_in-append : (list more : List Made) → shared_in (list ++ more) ≡ shared_in list ++ shared_in more
shared_in-append [] more = refl
shared_in-append (Shared x ∷ list) more = ap (λ (l : List Item). x ∷ l) (shared_in-append list more)
shared_in-append (Entered object entry ∷ list) more = shared_in-append list more
