-- Passes and their copies. A copy knows what its pass knew, and stands for nobody.
use Rattle.std.specs.Prelude.{◌≡◌, ℕ, ◌<◌, ◌≤◌, Bool, List, [], ◌∷◌, Option, Some, None, length}
use Rattle.sync_model.specs.declared.journal.Entry.{Entry}
use Rattle.sync_model.specs.Journal.{by, KeepsEdges, TimesRise, Follows}
use Rattle.ruled_object.specs.declared.object.Object.{Object}
use Rattle.ruled_object.specs.declared.pass.Pass.{Pass}
use Rattle.ruled_object.specs.declared.view.Own.{Own}
use Rattle.ruled_object.specs.declared.view.Stage.TheVariants.{Idle}
use Rattle.ruled_object.specs.Passes.{number_of, left_of, seen_by, CountsTurns, SamePass}

-- the entries of the first caller that a seat stands for, if it stands for any
abbrev pub held_of : {E R : Type 0} → List (Own E R) → Option (List (Entry E R))
held_of [] = None
held_of (own ∷ owns) = Some own.entries

-- all entries of the caller whose pass it is; a copy holds nobody's
abbrev pub held_by : {S N E R : Type 0} → Pass S N E R → Option (List (Entry E R))
held_by pass = held_of pass.seat.me.0.owns

-- it is a caller's pass to this object or a copy of one, as a note may hold, and doesn't have the word
pub record IsNoteOf {M N S E R H : Type 0} (object : Object M N S E R H) (pass : Pass S N E R) : Type 0 where
  pub table : pass.seat.table_id ≡ object.table.shared.table_id
  pub caller : pass.number < object.table.shared.key.callers
  pub number : pass.seat.me.0.number ≡ pass.number
  pub one : length pass.seat.me.0.owns ≤ 1
  pub turn : pass.seat.me.0.stage ≡ Idle
  pub empty : pass.seat.me.1 ≡ []
  pub turns : CountsTurns pass

module _ {S N E R : Type 0} where
  -- the same pass, and it knows the same
  abbrev pub IsUnchanged : Pass S N E R → Pass S N E R → Type 0
  IsUnchanged old new = SamePass old new × (seen_by new ≡ seen_by old) × (held_by new ≡ held_by old)

  -- it knows what the pass does, holds nobody's entries and is good for no call
  abbrev pub IsCopyOf : Pass S N E R → Pass S N E R → Type 0
  IsCopyOf pass copy = (number_of copy ≡ number_of pass) × (left_of copy ≡ 0) × (seen_by copy ≡ seen_by pass) × (held_by copy ≡ None)

-- What a pass or a copy shows of the history follows the machine from its start and keeps the edge law, its numbers rise, and it has of the caller what a pass holds.
pub record Shows {S N E R : Type 0} (next : S → ℕ → E → S × R) (halts : Bool) (frees takes : E → R → Bool) (start : S) (pass : Pass S N E R) : Type 0 where
  pub own : (own : List (Entry E R)) → held_by pass ≡ Some own → own ≡ by (number_of pass) (seen_by pass)
  pub follows : Follows next halts start None (seen_by pass)
  pub edges : KeepsEdges frees takes (seen_by pass)
  pub times : TimesRise (seen_by pass)
