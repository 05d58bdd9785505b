-- What an object's turn word tells of how often its callers took the turn.
use Rattle.std.specs.Prelude.{◌≡◌, ℕ, ◌+◌, ◌*◌, ◌%◌, ◌^◌, ◌<◌, List, slice_index}
use mathlib.Core.Option.{some}
use lib.ListN.{get_elem?}
use Rattle.atomic_table.specs.Table.{State}
use Rattle.ruled_object.specs.declared.view.Own.{Own}
use Rattle.ruled_object.specs.declared.view.Stage.TheVariants.{Deep}
use Rattle.ruled_object.specs.declared.view.View.{View}
use Rattle.ruled_object.specs.Rule.{all_turns}

module _ {E R : Type 0} where
  -- each caller has a view that stands for it, and counts these turns of it
  abbrev pub HaveTaken : List (View E R) → ℕ → (ℕ → ℕ) → Type 0
  HaveTaken views callers turns = (c : ℕ) → c < callers
      → (seat : ℕ) × (v : View E R) × (i : ℕ) × (own : Own E R) × (get_elem? views seat ≡ some v) × (get_elem? v.owns i ≡ some own) × (v.number + i ≡ c) × (own.turns ≡ turns c)

  -- a seat has the turn
  abbrev pub IsOut : List (View E R) → Type 0
  IsOut views = (seat : ℕ) × (v : View E R) × (get_elem? views seat ≡ some v) × (v.stage ≡ Deep)

-- the turn word, raised by so many, is twice the number of turns that the callers took, modulo 2^64
abbrev pub TurnTells : {S V : Type 0} → State S V → ℕ → ℕ → (ℕ → ℕ) → Type 0
TurnTells s more callers turns = (slice_index s.words 1 + more) % 2 ^ 64 ≡ (2 * all_turns callers turns) % 2 ^ 64
