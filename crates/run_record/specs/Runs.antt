-- Lines of scripts none of whose calls passes others over.
use Rattle.std.specs.Prelude.{◌≡◌, ℕ, List, map, Some, slice_get}
use Rattle.script_calls.specs.declared.outcome.Outcome.{Outcome}
use Rattle.script_calls.specs.Outcome.{left_by}
use Rattle.workload.specs.Plan.{Plan}
use Rattle.run_record.specs.Lines.{Line, script_of, items_of, replies_of, IsLineOf}
use Rattle.run_record.specs.Record.{Record}

-- the lists are these lines, call by call: each spells the first part of its worker's script, and the replies are those of the calls that were completed
pub record SpellScripts (plan : Plan) (r : Record) (outcome : Outcome) (lines : List Line) : Type 0 where
  pub scripts : map script_of lines ≡ plan.scripts
  pub lists : map items_of lines ≡ r.lists
  pub replies : map replies_of lines ≡ (left_by outcome).replies
  pub each : (worker : ℕ) (line : Line) → slice_get lines worker ≡ Some line → IsLineOf plan worker line
