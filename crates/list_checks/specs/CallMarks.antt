-- Of which calls the items of a list are told to be, from its first on.
use Rattle.std.specs.Prelude.{ℕ, ◌-◌, List, ◌++◌, length, replicate, Option}
use Rattle.run_record.specs.declared.made.Made.{Made}
use Rattle.run_record.specs.Lines.{Line}
use Rattle.run_cuts.specs.CallsAlong.{calls_from}
use Rattle.list_checks.specs.declared.spell.spelt.Stop.{Stop}
use Rattle.list_checks.specs.declared.spell.spelt.Stop.TheVariants as stop

-- the items behind those that are told of, up to a place, are of this call
abbrev pub up_to : List (Option ℕ) → ℕ → Option ℕ → List (Option ℕ)
up_to calls end call = calls ++ replicate (end - length calls) call

-- the place behind the items of a call that isn't done
abbrev pub stop_end : List Made → Stop → ℕ
stop_end list (stop.Misused end misuse) = end
stop_end list (stop.Halted end misuse) = end
stop_end list stop.Within = length list
stop_end list stop.Wrong = length list

-- of which calls the items of a line are, where those before its script are of these
abbrev pub calls_behind : List (Option ℕ) → Line → List (Option ℕ)
calls_behind first line = first ++ calls_from 0 line.spelt line.rest line.last
