-- The looks of a get, one after the other.
use Rattle.std.proofs.Common.{◌≡◌, ℕ, suc, [], ◌∷◌, List, ◌+◌, ◌-◌, ◌<◌, Option, Some, None, refl, sym, ap, ◌∙◌, arith}
use Rattle.pool_core.specs.Looks.{look}
use Rattle.pool_core.specs.PoolMachine.{PoolState}
use Rattle.run_record.specs.PoolKind.{stage_of}
use Rattle.step_runner.specs.declared.notes.Notes.{Notes}
use Rattle.step_runner.specs.declared.turns.item.Item.{Item}
use Rattle.step_runner.specs.Due.{looks_of}
use Rattle.step_runner.specs.Items.{pool_item, unless_found, look_items}
use Rattle.step_runner.specs.Noted.{noted}
use Rattle.step_runner.specs.PoolTurn.{PoolStep, looked, found_or, found_by}

-- a look that finds nothing is passed over
pub after_look : (workers worker moment n count : ℕ) (o : Option ℕ) (p q : PoolState ℕ) → looked worker moment (stage_of (look workers worker n)) p ≡ (q, o) → ((x : ℕ) → o ≡ Some x → ⊥) → n < count
    → found_by worker moment (looks_of workers worker (n + 1) (count - (n + 1))) q ≡ found_by worker moment (looks_of workers worker n (count - n)) p
after_look workers worker moment n count (Some x) p q is none below = absurd (none x refl)
after_look workers worker moment n count None p q is none below =
    let left : count - n ≡ suc (count - (n + 1)) = omega (arith, below) in
    let rest : PoolState ℕ → PoolStep = found_by worker moment (looks_of workers worker (n + 1) (count - (n + 1))) in
    ap (λ (x : PoolState ℕ × Option ℕ). found_or x rest) (sym is) ∙ ap (λ m. found_by worker moment (looks_of workers worker n m) p) (sym left)

-- what is noted of the looks that are left, behind one more
look_noted : (workers worker moment place n count : ℕ) (o : Option ℕ) (p q : PoolState ℕ) (notes next : Notes Item) → looked worker moment (stage_of (look workers worker n)) p ≡ (q, o)
    → next ≡ noted (pool_item worker moment place (stage_of (look workers worker n)) p ∷ []) notes → n < count
    → noted (unless_found worker moment place (q, o) (look_items worker moment place (looks_of workers worker (n + 1) (count - (n + 1))))) next ≡ noted (look_items worker moment place (looks_of workers worker n (count - n)) p) notes
look_noted workers worker moment place n count o p q notes next is more below =
    let left : count - n ≡ suc (count - (n + 1)) = omega (arith, below) in
    let rest : PoolState ℕ → List Item = look_items worker moment place (looks_of workers worker (n + 1) (count - (n + 1))) in
    ap (noted (unless_found worker moment place (q, o) rest)) more
    ∙ ap (λ (x : PoolState ℕ × Option ℕ). noted (pool_item worker moment place (stage_of (look workers worker n)) p ∷ unless_found worker moment place x rest) notes) (sym is)
    ∙ ap (λ m. noted (look_items worker moment place (looks_of workers worker n m) p) notes) (sym left)

pub passed_noted : (workers worker moment place n count : ℕ) (o : Option ℕ) (p q : PoolState ℕ) (notes next : Notes Item) → looked worker moment (stage_of (look workers worker n)) p ≡ (q, o) → ((x : ℕ) → o ≡ Some x → ⊥)
    → next ≡ noted (pool_item worker moment place (stage_of (look workers worker n)) p ∷ []) notes → n < count
    → noted (look_items worker moment place (looks_of workers worker (n + 1) (count - (n + 1))) q) next ≡ noted (look_items worker moment place (looks_of workers worker n (count - n)) p) notes
passed_noted workers worker moment place n count (Some x) p q notes next is none more below = absurd (none x refl)
passed_noted workers worker moment place n count None p q notes next is none more below = look_noted workers worker moment place n count None p q notes next is more below

pub found_noted : (workers worker moment place n count x : ℕ) (p q : PoolState ℕ) (notes next : Notes Item) → looked worker moment (stage_of (look workers worker n)) p ≡ (q, Some x)
    → next ≡ noted (pool_item worker moment place (stage_of (look workers worker n)) p ∷ []) notes → n < count → next ≡ noted (look_items worker moment place (looks_of workers worker n (count - n)) p) notes
found_noted workers worker moment place n count x p q notes next is more below = look_noted workers worker moment place n count (Some x) p q notes next is more below
