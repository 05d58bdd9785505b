-- The callers of a new table are between two calls.
use Rattle.std.proofs.Common.{◌≡◌, ℕ, zero, suc, ◌+◌, ◌*◌, ◌<◌, List, [], ◌∷◌, length, Some, slice_get, refl, arith}
use Rattle.atomic_table.specs.Table.{opening}
use Rattle.trie_nodes.specs.Layout.{unit_words}
use Rattle.table_rule.specs.declared.begin.Begin.{Begin}
use Rattle.table_rule.specs.declared.view.Own.{Own}
use Rattle.table_rule.specs.Layout.{first_room}
use Rattle.table_rule.specs.LawWords.{AllAtRest}
use Rattle.table_rule.specs.Views.{new_owns, first_view}

new_own_at : (next : ℕ) (spares : List ℕ) (i : ℕ) → i < length spares → (own : Own) × (slice_get (new_owns next spares) i ≡ Some own)
new_own_at next [] i below = absurd (omega arith)
new_own_at next (spare ∷ spares) zero below = (record { items = []; times = []; next = next; spare = spare; draft = [] }, refl)
new_own_at next (spare ∷ spares) (suc i) below = new_own_at (next + unit_words * spare) spares i (omega arith)

pub at_rest : (k : Begin) (words : List ℕ) → AllAtRest k (opening words [] (first_view k))
at_rest k words caller below =
    let own = new_own_at (first_room k) k.spares caller below in
    let number : 0 + caller ≡ caller = omega arith in (
      0,
      first_view k,
      (refl, refl),
      record { walk = refl; leaf = refl; lock = refl; upper = refl; gate = refl; spot = refl },
      (caller, own.0, own.1, number),
    )
