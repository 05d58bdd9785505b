-- Lists of acts and of items, one behind the other.
use Rattle.std.proofs.Common.{◌≡◌, ◌≢◌, ℕ, zero, suc, ◌+◌, ◌<◌, ◌≤◌, ◌==◌, Bool, true, false, cond, List, [], ◌∷◌, ◌++◌, length, filter, flat_map, inl, inr, refl, sym, ap, ◌∙◌, append-nil, append_assoc, arith}
use Rattle.std.specs.List.{range_with_len}
use Rattle.std.proofs.lemmas.Bool.{eq-eqb, ne_eqb}
use Rattle.std.proofs.lemmas.Bool.Decides.{eqb_tells}
use Rattle.std.proofs.lemmas.List.{length-append}
use Rattle.sync_model.specs.declared.item.Item.{Item as SharedItem}
use Rattle.workload.specs.Plan.{Plan}
use Rattle.run_record.specs.declared.made.Made.{Made}
use Rattle.run_record.specs.declared.made.Made.TheVariants.{Shared, Entered}
use Rattle.run_record.specs.Record.{shared_in}
use Rattle.kept_record.specs.Keeping.{Act, made_by}
use Rattle.step_runner.specs.declared.turns.item.Item.{Item}
use Rattle.step_runner.specs.Recorded.{recorded_item, recorded}
use Rattle.scheduled_record.specs.RunActs.{acts_by}

pub made-append : (worker : ℕ) (acts more : List Act) → made_by worker (acts ++ more) ≡ made_by worker acts ++ made_by worker more
made-append worker [] more = refl
made-append worker (act ∷ acts) more = chosen (act.worker == worker) (made_by worker (acts ++ more)) (made_by worker acts) (made-append worker acts more) where
  chosen : (b : Bool) (left right : List Made) → left ≡ right ++ made_by worker more → cond b (act.made ∷ left) left ≡ cond b (act.made ∷ right) right ++ made_by worker more
  chosen true left right is = ap (λ (l : List Made). act.made ∷ l) is
  chosen false left right is = is

-- what one worker made is in its own list, and in no other
pub own_acts : (worker : ℕ) (made : List Made) → made_by worker (acts_by worker made) ≡ made
own_acts worker [] = refl
own_acts worker (one ∷ made) = ap (λ (b : Bool). cond b (one ∷ made_by worker (acts_by worker made)) (made_by worker (acts_by worker made))) (eq-eqb worker worker refl) ∙ ap (λ (l : List Made). one ∷ l) (own_acts worker made)

pub other_acts : (worker other : ℕ) (made : List Made) → worker ≢ other → made_by other (acts_by worker made) ≡ []
other_acts worker other [] apart = refl
other_acts worker other (one ∷ made) apart = ap (λ (b : Bool). cond b (one ∷ made_by other (acts_by worker made)) (made_by other (acts_by worker made))) (ne_eqb worker other apart) ∙ other_acts worker other made apart

pub shared-append : (one two : List Made) → shared_in (one ++ two) ≡ shared_in one ++ shared_in two
shared-append [] two = refl
shared-append (Shared x ∷ one) two = ap (λ (l : List SharedItem). x ∷ l) (shared-append one two)
shared-append (Entered object entry ∷ one) two = shared-append one two

pub count-append : (one two : List Made) → length (shared_in (one ++ two)) ≡ length (shared_in one) + length (shared_in two)
count-append one two = ap (length {A = SharedItem}) (shared-append one two) ∙ length-append (shared_in one) (shared_in two)

-- one item more, in a record
pub recorded-last : (plan : Plan) (before : ℕ) (items : List Item) (item : Item) → recorded plan before (items ++ item ∷ []) ≡ recorded plan before items ++ recorded_item plan (before + length (shared_in (recorded plan before items))) item
recorded-last plan before [] item = let same : before ≡ before + 0 = omega arith in append-nil (recorded_item plan before item) ∙ ap (λ (n : ℕ). recorded_item plan n item) same
recorded-last plan before (first ∷ items) item =
    let head = recorded_item plan before first in
    let next = before + length (shared_in head) in
    let rest = recorded plan next items in
    let count : next + length (shared_in rest) ≡ before + length (shared_in (head ++ rest)) = omega (arith, count-append head rest) in
    ap (λ (l : List Made). head ++ l) (recorded-last plan next items item ∙ ap (λ (n : ℕ). rest ++ recorded_item plan n item) count) ∙ sym (append_assoc head rest (recorded_item plan (before + length (shared_in (head ++ rest))) item))

-- ---- what some workers make, from worker 0 up

module _ (makes : ℕ → List Made) (passes : ℕ → Bool) (worker : ℕ) where
  abbrev from : ℕ → ℕ → List Act
  from first n = flat_map (λ (w : ℕ). acts_by w (makes w)) (filter passes (range_with_len first n))

  -- behind the first one
  abbrev onward : Bool → ℕ → ℕ → List Act
  onward b first n = flat_map (λ (w : ℕ). acts_by w (makes w)) (cond b (first ∷ filter passes (range_with_len (first + 1) n)) (filter passes (range_with_len (first + 1) n)))

  past : (b : Bool) (first n : ℕ) (P : List Made) → (first ≡ worker → ⊥) → made_by worker (from (first + 1) n) ≡ P → made_by worker (onward b first n) ≡ P
  past true first n P apart rest = made-append worker (acts_by first (makes first)) (from (first + 1) n) ∙ (ap (λ (l : List Made). l ++ made_by worker (from (first + 1) n)) (other_acts first worker (makes first) apart) ∙ rest)
  past false first n P apart rest = rest

  at : (b : Bool) (first n : ℕ) → made_by worker (acts_by first (makes first)) ≡ makes first → made_by worker (from (first + 1) n) ≡ [] → made_by worker (onward b first n) ≡ cond b (makes first) []
  at true first n own rest = made-append worker (acts_by first (makes first)) (from (first + 1) n) ∙ (ap (λ (l : List Made). l ++ made_by worker (from (first + 1) n)) own ∙ (ap (λ (l : List Made). makes first ++ l) rest ∙ append-nil (makes first)))
  at false first n own rest = rest

  not_same : (first : ℕ) → worker < first → first ≡ worker → ⊥
  not_same first before same = absurd (omega arith)

  none_of : (first n : ℕ) → worker < first → made_by worker (from first n) ≡ []
  none_of first zero before = refl
  none_of first (suc n) before = let later : worker < first + 1 = omega arith in past (passes first) first n [] (not_same first before) (none_of (first + 1) n later)

  here : (first n : ℕ) → first ≡ worker → made_by worker (from first (suc n)) ≡ cond (passes worker) (makes worker) []
  here first n same =
      let later : worker < first + 1 = omega arith in
      at (passes first) first n (ap (λ (w : ℕ). made_by w (acts_by first (makes first))) (sym same) ∙ own_acts first (makes first)) (none_of (first + 1) n later) ∙ ap (λ (w : ℕ). cond (passes w) (makes w) []) same

  -- its own, where it passes
  pub some_make : (first n : ℕ) → first ≤ worker → worker < first + n → made_by worker (flat_map (λ (w : ℕ). acts_by w (makes w)) (filter passes (range_with_len first n))) ≡ cond (passes worker) (makes worker) []
  some_make first zero from_first below = absurd (omega arith)
  some_make first (suc n) from_first below = elim (eqb_tells first worker) [
    | inl same ↦ here first n same.1
    | inr apart ↦ past (passes first) first n (cond (passes worker) (makes worker) []) apart.1 (some_make (first + 1) n (omega arith) (omega arith))
  ]
