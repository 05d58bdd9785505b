-- What contracts see of an object and of the passes to it.
use Rattle.std.specs.Prelude.{◌≡◌, ℕ, ◌+◌, ◌<◌, Bool, List, [], ◌∷◌, ◌++◌, None, length, min}
use Rattle.sync_model.specs.declared.journal.Entry.{Entry}
use Rattle.sync_model.specs.Journal.{halt_of, by, KeepsEdges, TimesRise, state_after, Right, Follows}
use Rattle.ruled_object.specs.declared.object.Object.{Object}
use Rattle.ruled_object.specs.declared.pass.Pass.{Pass}
use Rattle.ruled_object.specs.declared.view.Own.{Own}
use Rattle.ruled_object.specs.declared.view.Stage.TheVariants.{Idle}
use Rattle.ruled_object.specs.Steps.{new_own}

-- a number, or the last value of its type where it is more
abbrev pub capped : ℕ → ℕ
capped n = min n 18446744073709551615

-- what a seat has of the first caller that it stands for
abbrev pub own_of : {E R : Type 0} → List (Own E R) → Own E R
own_of [] = new_own
own_of (own ∷ owns) = own

module _ {S N E R : Type 0} where
  -- the number of the caller whose pass it is
  abbrev pub number_of : Pass S N E R → ℕ
  number_of pass = pass.number

  -- how many calls of the layers above it is still good for
  abbrev pub left_of : Pass S N E R → ℕ
  left_of pass = pass.left

  -- how often it has taken the turn
  abbrev pub turns_of : Pass S N E R → ℕ
  turns_of pass = pass.turns

  -- what its seat has of its caller
  abbrev pub own_in : Pass S N E R → Own E R
  own_in pass = own_of pass.seat.me.0.owns

  -- that is the number that its seat has, or the last value of the type where that is more
  abbrev pub CountsTurns : Pass S N E R → Type 0
  CountsTurns pass = turns_of pass ≡ capped (own_in pass).turns

  -- how much of the history its caller has seen
  abbrev pub seen_by : Pass S N E R → List (Entry E R)
  seen_by pass = pass.seat.me.0.seen

  -- the entries that its caller made, each once, in order
  abbrev pub own_by : Pass S N E R → List (Entry E R)
  own_by pass = (own_in pass).entries

module _ {M N S E R H : Type 0} where
  -- how many callers the object has
  abbrev pub callers_of : Object M N S E R H → ℕ
  callers_of object = object.table.shared.key.callers

  -- the state that the machine started from
  abbrev pub start_of : Object M N S E R H → S
  start_of object = object.table.shared.key.state

  -- it is the home of the note that the object was made with
  abbrev pub IsHomeOf : (H → N → Type 0) → Object M N S E R H → H → Type 0
  IsHomeOf at object home = at home object.table.shared.key.note

  -- it is the pass of one caller to this object, and doesn't have the word
  pub record IsPassOf (object : Object M N S E R H) (pass : Pass S N E R) : Type 0 where
    pub table : pass.seat.table_id ≡ object.table.shared.table_id
    pub caller : pass.number < object.table.shared.key.callers
    pub number : pass.seat.me.0.number ≡ pass.number
    pub one : length pass.seat.me.0.owns ≡ 1
    pub turn : pass.seat.me.0.stage ≡ Idle
    pub empty : pass.seat.me.1 ≡ []
    pub turns : CountsTurns pass

-- One entry more, of the pass's caller: all that it had seen lies before the entry, and what is seen now ends with it.
-- The pass has all entries of its caller, each once. The whole follows the machine from its start and keeps the edge law, and its numbers rise.
pub record Adds {S N E R : Type 0} (next : S → ℕ → E → S × R) (halts : Bool) (frees takes : E → R → Bool) (start : S) (old : Pass S N E R) (e : Entry E R) (new : Pass S N E R) : Type 0 where
  pub between : List (Entry E R)
  pub history : seen_by new ≡ (seen_by old ++ between) ++ e ∷ []
  pub mine : own_by new ≡ own_by old ++ e ∷ []
  pub all : own_by new ≡ by (number_of old) (seen_by new)
  pub caller : e.caller ≡ number_of old
  pub knew : e.knew ≡ length (seen_by old)
  pub right : Right next halts (state_after next start (seen_by old ++ between)) (halt_of (seen_by old ++ between)) (number_of old) e.deed
  pub follows : Follows next halts start None (seen_by new)
  pub edges : KeepsEdges frees takes (seen_by new)
  pub times : TimesRise (seen_by new)

-- it is the pass of the same caller, good for as many calls
abbrev pub SamePass : {S N E R : Type 0} → Pass S N E R → Pass S N E R → Type 0
SamePass old new = (number_of new ≡ number_of old) × (left_of new ≡ left_of old)

-- the pass is good for one call less, and all else of it is as before
abbrev pub IsSpent : {S N E R : Type 0} → Pass S N E R → Pass S N E R → Type 0
IsSpent old new = (left_of new + 1 ≡ left_of old) × (new ≡ record old { left = left_of new })

-- the same caller's pass, good for one call less
abbrev pub IsOneLess : {S N E R : Type 0} → Pass S N E R → Pass S N E R → Type 0
IsOneLess old new = (number_of new ≡ number_of old) × (left_of new + 1 ≡ left_of old)
