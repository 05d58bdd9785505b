-- What the objects of a run by schedule hold that a report shows, and what such a run leaves behind.
use Rattle.std.specs.Prelude.{ℕ, ◌+◌, List, [], ◌∷◌, ◌++◌, map}
use Rattle.std.specs.Ordering.{nat_cmp}
use Rattle.std.specs.Cmp.Lexicographic.{slice_cmp}
use Rattle.std.specs.FinMap.{FinMap}
use Rattle.sync_types.specs.declared.atomic_object.Number.{Number}
use Rattle.script_calls.specs.declared.call.Reply.{Reply}
use Rattle.sync_types.specs.declared.end.End.{End}
use Rattle.script_calls.specs.declared.outcome.Ending.{Ending}
use Rattle.script_calls.specs.declared.outcome.Ending.TheVariants as endings
use Rattle.script_calls.specs.declared.outcome.Report.{Report}
use Rattle.sync_types.specs.Ends.{FinalContents}
use Rattle.sync_types.specs.Ends as ends
use Rattle.script_calls.specs.Outcome.{with_keys_renamed}
use Rattle.workload.specs.Keys.{keys_in, key_number}
use Rattle.workload.specs.Plan.{Plan}
use Rattle.step_runner.specs.declared.ends.VariableEnd.{VariableEnd}
use Rattle.step_runner.specs.declared.turns.object_state.ObjectState.{ObjectState}
use Rattle.step_runner.specs.declared.turns.object_state.ObjectState.TheVariants as states
use Rattle.step_runner.specs.State.{State}

-- the number of an object at a place: only an atomic has one
abbrev pub numbers_of : ℕ → ObjectState → List (ℕ × Number)
numbers_of place (states.Atomic number) = (place, number) ∷ []
numbers_of place object = []

-- the numbers of the atomics in order of declaration, from a place on
abbrev pub numbers_from : ℕ → List ObjectState → List (ℕ × Number)
numbers_from place [] = []
numbers_from place (object ∷ objects) = numbers_of place object ++ numbers_from (place + 1) objects

-- the values of an object at a place by its keys: only a map has any
abbrev pub maps_of : ℕ → ObjectState → List (ℕ × FinMap (slice_cmp nat_cmp) ℕ)
maps_of place (states.Map m) = (place, m) ∷ []
maps_of place object = []

-- those of the maps in order of declaration, from a place on
abbrev pub maps_from : ℕ → List ObjectState → List (ℕ × FinMap (slice_cmp nat_cmp) ℕ)
maps_from place [] = []
maps_from place (object ∷ objects) = maps_of place object ++ maps_from (place + 1) objects

-- what the object at a place holds, if it is a plain variable
abbrev pub variables_of : ℕ → ObjectState → List VariableEnd
variables_of place (states.Var held) = record { object = place; value = held } ∷ []
variables_of place object = []

-- what the plain variables hold, in order of declaration, from a place on
abbrev pub variables_from : ℕ → List ObjectState → List VariableEnd
variables_from place [] = []
variables_from place (object ∷ objects) = variables_of place object ++ variables_from (place + 1) objects

-- what they hold behind a run that ends so, as a report shows it: nothing unless it is done
abbrev pub variables_behind : List ObjectState → Ending → List VariableEnd
variables_behind objects endings.Done = variables_from 0 objects
variables_behind objects (endings.Misused misuse) = []
variables_behind objects endings.Deadlocked = []

abbrev pub contents_of : List ObjectState → FinalContents (List ℕ) (slice_cmp nat_cmp)
contents_of objects = record { numbers = numbers_from 0 objects; maps = maps_from 0 objects }

-- the ends of a run of a plan, with the numbers of the keys
abbrev pub scheduled_ends : Plan → List ObjectState → List End
scheduled_ends plan objects = ends.ends_of (key_number (keys_in plan.scripts)) (contents_of objects)

-- all workers' replies with the numbers of the keys
abbrev pub numbered : Plan → List (List (Reply (List ℕ))) → List (List (Reply ℕ))
numbered plan replies = map (map (with_keys_renamed (key_number (keys_in plan.scripts)))) replies

-- what a run leaves behind that ends in a state, by then with these ends
abbrev pub left_in : Plan → State → List End → Report
left_in plan s ends = record { replies = numbered plan s.replies; ends = ends }
