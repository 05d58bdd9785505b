-- What the laws of the rule speak of: a seat that counts, and the callers between two calls.
use Rattle.std.specs.Prelude.{◌≡◌, ℕ, ◌+◌, ◌<◌, true, Some, slice_get}
use mathlib.Core.Option.{some}
use lib.ListN.{get_elem?}
use Rattle.table_rule.specs.declared.begin.Begin.{Begin}
use Rattle.table_rule.specs.declared.view.Own.{Own}
use Rattle.table_rule.specs.declared.view.View.{View}
use Rattle.table_rule.specs.Layout.{callers_of}
use Rattle.table_rule.specs.Rule.{TableState}
use Rattle.table_rule.specs.Views.{IsIdle}

-- seat j has this view, and counts
abbrev pub IsSeat : TableState → ℕ → View → Type 0
IsSeat s j v = (get_elem? s.views j ≡ some v) × (v.live ≡ true)

-- the seat stands for the caller
abbrev pub StandsFor : View → ℕ → Type 0
StandsFor v caller = (i : ℕ) × (own : Own) × (slice_get v.owns i ≡ Some own) × (v.number + i ≡ caller)

-- no caller is making a call
abbrev pub AllAtRest : Begin → TableState → Type 0
AllAtRest k s = (caller : ℕ) → caller < callers_of k → (j : ℕ) × (v : View) × IsSeat s j v × IsIdle v × StandsFor v caller
