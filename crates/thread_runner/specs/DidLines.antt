-- What a worker did of its script, from its first call to its end.
use Rattle.std.specs.Prelude.{◌≡◌, ℕ, List, [], ◌++◌, map, drop, length, Some, Ok, Err}
use Rattle.std.specs.List.{flat_map}
use Rattle.script_calls.specs.declared.call.Call.{Call}
use Rattle.script_calls.specs.declared.call.Reply.{Reply}
use Rattle.script_calls.specs.Runs.{RunsAlong}
use Rattle.sync_model.specs.declared.answer.Answer.TheVariants.{Done, Halted}
use Rattle.protocols.specs.Spelling.{CallAnswer}
use Rattle.workload.specs.Plan.{Plan}
use Rattle.run_record.specs.declared.made.Made.{Made}
use Rattle.run_record.specs.Explains.{HasEnded}
use Rattle.run_record.specs.Lines.{Line, LineEnd, whole, misused, halted, SpeltCall, calls_made, items_of, replies_of, HaltsEach, AreSpelt, EndsBy, IsLineOf}
use Rattle.run_record.specs.Plain.{EndsPlainly}
use Rattle.run_record.specs.Record.{shared_in}
use Rattle.thread_objects.specs.Working.{Desk, Moves}

-- the line is what the worker did, who has ended: it is the record's line along the worker's script, the replies are those of the calls that were completed, a misuse has halted Stop and then each object in order, and its items are all that the worker made
pub record DidLine (plan : Plan) (worker : ℕ) (script : List Call) (replies : List (Reply ℕ)) (old new : Desk) (line : Line) : Type 0 where
  pub is : IsLineOf plan worker line
  pub calls : RunsAlong script (calls_made line) line.rest
  pub answers : replies_of line ≡ replies
  pub ended : HasEnded line.ending
  pub halts : HaltsEach plan line
  pub moves : Moves old (items_of line) new

-- what a worker did of its script up to this place, who was answered each call that it made
pub record Went (plan : Plan) (worker : ℕ) (script : List Call) (place : ℕ) (replies : List (Reply ℕ)) (old now : Desk) : Type 0 where
  pub spelt : List SpeltCall
  pub are : AreSpelt plan worker 0 spelt
  pub calls : RunsAlong script (map (λ s. (s.call, s.reply)) spelt) (drop place script)
  pub answers : map (λ s. s.reply) spelt ≡ replies
  pub moves : Moves old (flat_map (λ s. s.items) spelt) now

-- how a list ends whose worker came to its script, by what it was answered last
abbrev pub ending_by : CallAnswer (Unit {0}) → LineEnd
ending_by (Done (Ok ended)) = whole
ending_by (Done (Err misuse)) = misused misuse
ending_by (Halted misuse) = halted misuse

-- what a worker did from the first call of its script on: the calls that were completed, and what stands behind them, which is such items behind so many calls on maps and atomics, with this left of the script
pub record GoesAlong (plan : Plan) (worker : ℕ) (ends : ℕ → List Call → List Made → Type 0) (script : List Call) (replies : List (Reply ℕ)) (old now : Desk) : Type 0 where
  pub spelt : List SpeltCall
  pub last : List Made
  pub rest : List Call
  pub are : AreSpelt plan worker 0 spelt
  pub calls : RunsAlong script (map (λ s. (s.call, s.reply)) spelt) rest
  pub answers : map (λ s. s.reply) spelt ≡ replies
  pub end : ends (length (shared_in (flat_map (λ s. s.items) spelt))) rest last
  pub moves : Moves old (flat_map (λ s. s.items) spelt ++ last) now

-- the worker made the calls of its script, one after the other: all, or up to the first that is a misuse or met a halt
abbrev pub MadeCalls : Plan → ℕ → List Call → List (Reply ℕ) → Desk → CallAnswer (Unit {0}) → Desk → Type 0
MadeCalls plan worker script replies old answer now = GoesAlong plan worker (λ before rest last. EndsPlainly plan worker before (ending_by answer) rest last) script replies old now

-- and behind all of them it closed the script
abbrev pub WentThrough : Plan → ℕ → List Call → List (Reply ℕ) → Desk → CallAnswer (Unit {0}) → Desk → Type 0
WentThrough plan worker script replies old answer now = GoesAlong plan worker (λ before rest last. EndsBy plan worker before (ending_by answer) rest last) script replies old now

-- a worker with this number that has done nothing
pub record IsFresh (worker : ℕ) (desk : Desk) : Type 0 where
  pub owns : (object : ℕ) → desk.owns object ≡ []
  pub calls : desk.calls ≡ []
  pub number : desk.worker ≡ Some worker
