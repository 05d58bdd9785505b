-- Of which call of the script each item of a line is.
use Rattle.std.specs.Prelude.{ℕ, ◌+◌, List, [], ◌∷◌, ◌++◌, length, replicate, Option, Some, None}
use Rattle.script_calls.specs.declared.call.Call.{Call}
use Rattle.script_calls.specs.Runs.{passed_over}
use Rattle.run_record.specs.declared.made.Made.{Made}
use Rattle.run_record.specs.Lines.{Line, SpeltCall}

-- of which call the items behind the completed calls are, whose place is this: of none, where nothing is left of the script
abbrev pub next_call : ℕ → List Call → Option ℕ
next_call place [] = None
next_call place (call ∷ rest) = Some place

-- of which call each item is from a completed call on, which stands at this place of the script; the next call stands behind it and those that it passes over
abbrev pub calls_from : ℕ → List SpeltCall → List Call → List Made → List (Option ℕ)
calls_from place [] rest last = replicate (length last) (next_call place rest)
calls_from place (spelt ∷ later) rest last = replicate (length spelt.items) (Some place) ++ calls_from (place + 1 + passed_over spelt.call spelt.reply) later rest last

-- of which call of the script each item of a line is, up to its halts: of none, where it stands before the script or behind it
abbrev pub calls_along : Line → List (Option ℕ)
calls_along line = replicate (length line.first) None ++ calls_from 0 line.spelt line.rest line.last
