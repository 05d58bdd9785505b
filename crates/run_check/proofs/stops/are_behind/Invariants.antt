use Rattle.std.proofs.Common.{◌≡◌, ℕ, ◌<◌, List, Some, slice_get}
use Rattle.run_record.specs.declared.made.Made.{Made}
use Rattle.list_checks.specs.declared.spell.line.SpeltLine.{SpeltLine}
use Rattle.list_checks.specs.SpellLines.{line_end}
use Rattle.run_check.specs.Found.{HaltsBehind}
use Rattle.run_check.proofs.stops.are_behind.Given as goal

abbrev pub invariant-loop-worker : goal.invariant-loop-worker
invariant-loop-worker l = (worker : ℕ) (list : List Made) (line : SpeltLine) → worker < l.worker → slice_get l.lists worker ≡ Some list → slice_get l.lines worker ≡ Some line → HaltsBehind list (line_end line.ending)
