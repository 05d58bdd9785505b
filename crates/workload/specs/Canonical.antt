-- The canonical text of a workload.
use Rattle.std.specs.Prelude.{ℕ, zero, suc, ◌+◌, Bool, true, false, List, [], ◌∷◌, ◌++◌, map, Option, Some, None, slice_get}
use Rattle.std.specs.List.{flat_map, join_with_byte, onto_first}
use Rattle.std.specs.Option.{option_map}
use Rattle.script_calls.specs.declared.call.Call.{Call}
use Rattle.script_calls.specs.declared.call.Operation.{Operation}
use Rattle.workload.specs.declared.line.Line.{Line}
use Rattle.workload.specs.declared.line.Line.TheVariants as lines
use Rattle.workload.specs.declared.object.ObjectKind.{ObjectKind}
use Rattle.workload.specs.declared.object.ObjectLine.{ObjectLine}
use Rattle.workload.specs.declared.turn.Turn.{Turn}
use Rattle.workload.specs.Plan.{Plan, reference_of, second_of}
use Rattle.workload.specs.Words.{spelled, first_spelled}

-- words joined by one space, and a line feed
abbrev pub text_line : List (List ℕ) → List ℕ
text_line words = join_with_byte 32 words ++ 10 ∷ []

-- the name of the object at a place
abbrev pub name_of : Option ObjectLine → List ℕ
name_of None = []
name_of (Some object) = object.name

-- the name of the object to which an object refers
abbrev pub reference_name : List ObjectLine → ObjectKind → Option (List ℕ)
reference_name objects kind = option_map (λ place. name_of (slice_get objects place)) (reference_of kind)

abbrev pub object_line : List ObjectLine → ObjectLine → Line
object_line objects object = lines.Object object (reference_name objects object.kind)

-- the name of the second object that an operation names
abbrev pub second_name : List ObjectLine → Operation → Option (List ℕ)
second_name objects operation = option_map (λ place. name_of (slice_get objects place)) (second_of operation)

abbrev pub call_line : List ObjectLine → Call → Line
call_line objects call = lines.Call (name_of (slice_get objects call.object)) (second_name objects call.operation) call

-- a `dormant` line for each worker that waits to be started, from one on
abbrev pub dormant_lines : ℕ → List Bool → List Line
dormant_lines worker [] = []
dormant_lines worker (true ∷ workers) = lines.Dormant worker ∷ dormant_lines (worker + 1) workers
dormant_lines worker (false ∷ workers) = dormant_lines (worker + 1) workers

-- a `worker` line for each worker, from one on, and its calls behind it
abbrev pub script_lines : List ObjectLine → ℕ → List (List Call) → List Line
script_lines objects worker [] = []
script_lines objects worker (script ∷ scripts) = (lines.Worker worker ∷ map (call_line objects) script) ++ script_lines objects (worker + 1) scripts

-- eight items a line, where so many more than the first go on its line
abbrev pub eights : ℕ → List Turn → List (List Turn)
eights more [] = []
eights zero (turn ∷ turns) = (turn ∷ []) ∷ eights 7 turns
eights (suc more) (turn ∷ turns) = onto_first turn (eights more turns)

-- the lines behind the first: objects, workers that wait to be started, scripts, schedule
abbrev pub canonical_lines : Plan → List Line
canonical_lines plan =
    map (object_line plan.objects) plan.objects
    ++ (dormant_lines 0 plan.dormant
    ++ (script_lines plan.objects 0 plan.scripts
    ++ map (λ turns. lines.Schedule turns) (eights 7 plan.schedule)))

-- the text of lines behind the first
abbrev pub lines_text : List Line → List ℕ
lines_text lines = flat_map (λ line. text_line (spelled line)) lines

-- the canonical text
abbrev pub canonical : Plan → List ℕ
canonical plan = text_line (first_spelled plan.workers) ++ lines_text (canonical_lines plan)

-- words, each behind a space
abbrev pub behind_spaces : List (List ℕ) → List ℕ
behind_spaces words = flat_map (λ word. 32 ∷ word) words
