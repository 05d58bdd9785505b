-- What a trace tells of the values that plain variables hold at the end: the last ones that were written.
use Rattle.std.specs.Prelude.{ℕ, ◌+◌, List, [], ◌∷◌, ◌++◌, map}
use Rattle.std.specs.List.{flat_map}
use Rattle.script_calls.specs.declared.call.Operation.TheVariants as operations
use Rattle.script_calls.specs.declared.call.VarCall.TheVariants.{Write}
use Rattle.workload.specs.declared.object.ObjectKind.{ObjectKind}
use Rattle.workload.specs.declared.object.ObjectKind.TheVariants as kinds
use Rattle.workload.specs.declared.object.ObjectLine.{ObjectLine}
use Rattle.step_runner.specs.LeadsTo.{on_object}
use Rattle.step_runner.specs.declared.ends.VariableEnd.{VariableEnd}
use Rattle.step_runner.specs.declared.turns.item.Deed.{Deed}
use Rattle.step_runner.specs.declared.turns.item.Deed.TheVariants as deeds
use Rattle.step_runner.specs.declared.turns.item.Item.{Item}

-- the value that a deed writes to a plain variable, if it writes one
abbrev pub written_by : Deed → List ℕ
written_by (deeds.Placed (operations.Var (Write value)) reply) = value ∷ []
written_by deed = []

-- the values that items write to the variable at a place, in order
abbrev pub written_to : ℕ → List Item → List ℕ
written_to place made = flat_map (λ item. written_by item.deed) (on_object place made)

-- the last of some values, or this one where there is none
abbrev pub last_or : ℕ → List ℕ → ℕ
last_or value [] = value
last_or value (next ∷ values) = last_or next values

-- the place, if an object of this kind is a plain variable
abbrev pub variable_at : ℕ → ObjectKind → List ℕ
variable_at place kinds.Var = place ∷ []
variable_at place kind = []

-- the places of the plain variables in order of declaration, from a place on
abbrev pub variable_places : ℕ → List ObjectLine → List ℕ
variable_places place [] = []
variable_places place (line ∷ lines) = variable_at place line.kind ++ variable_places (place + 1) lines

-- of each variable the last value that these items write to it, or 0 where they write none
abbrev pub last_written : List Item → List ObjectLine → List VariableEnd
last_written made lines = map (λ place. record { object = place; value = last_or 0 (written_to place made) }) (variable_places 0 lines)
