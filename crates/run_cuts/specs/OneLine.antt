-- That a worker's list is cut into one line.
use Rattle.std.specs.Prelude.{◌≡◌, ℕ, Bool, List, [], ◌∷◌, ◌++◌, Some, Ok, Err}
use Rattle.script_calls.specs.declared.call.Call.{Call}
use Rattle.script_calls.specs.declared.call.Operation.{Operation}
use Rattle.script_calls.specs.declared.call.Operation.TheVariants as operations
use Rattle.script_calls.specs.declared.call.Reply.{Reply}
use Rattle.script_calls.specs.declared.call.Reply.TheVariants as replies
use Rattle.script_calls.specs.Runs.{passed_over, RunsAlong}
use Rattle.sync_model.specs.declared.answer.Answer.TheVariants.{Done, Halted}
use Rattle.protocols.specs.Spelling.{CallAnswer}
use Rattle.workload.specs.Keys.{keys_in}
use Rattle.workload.specs.Plan.{Plan}
use Rattle.run_record.specs.Calls.{SpellsCall}
use Rattle.run_record.specs.Explains.{HasEnded}
use Rattle.run_record.specs.Lines.{Line, SpeltCall, IsLineOf, items_of, calls_made}
use Rattle.run_record.specs.MapKind.{AreSorted}
use Rattle.run_record.specs.Parts.{Part}
use Rattle.run_record.specs.declared.made.Made.{Made}
use Rattle.run_cuts.specs.Cuts.{whole, within, Cutter}
use Rattle.run_cuts.specs.LineCuts.{line_cut}

-- The items of a call tell its reply, but that of a range: it may have the pairs that were shown in any order that sorts them by the names of their keys
abbrev pub settled_as : List (List ℕ) → Operation → Reply ℕ → Reply ℕ → Type 0
settled_as keys operations.Range told reply = (m : ℕ) × (shown : List (ℕ × ℕ)) × (pairs : List (ℕ × ℕ)) × (told ≡ replies.Pairs shown) × (reply ≡ replies.Pairs pairs) × AreSorted keys m shown pairs
settled_as keys operation told reply = told ≡ reply

-- a call that is told to reply the first may reply the second
abbrev pub settles_by : Plan → Call → Reply ℕ → Reply ℕ → Type 0
settles_by plan call told reply = settled_as (keys_in plan.scripts) call.operation told reply

module _ (settles : Reply ℕ → Reply ℕ → Type 0) where
  -- the same of an answer: a misuse and a halt are as they are told
  abbrev pub SettlesAnswer : CallAnswer (Reply ℕ) → CallAnswer (Reply ℕ) → Type 0
  SettlesAnswer (Done (Ok told)) answer = (reply : Reply ℕ) × settles told reply × (answer ≡ Done (Ok reply))
  SettlesAnswer (Done (Err misuse)) answer = answer ≡ Done (Err misuse)
  SettlesAnswer (Halted misuse) answer = answer ≡ Halted misuse

  -- The call is cut from a list just as it is spelt, but for the reply that is told
  pub record CutsCall (part : Part (Reply ℕ)) (cut : Cutter (Reply ℕ)) : Type 0 where
    pub sound : (list items rest : List Made) (told answer : CallAnswer (Reply ℕ)) → cut list ≡ whole items told rest → SettlesAnswer told answer → part items answer
    pub is_part : (list items rest : List Made) (told : CallAnswer (Reply ℕ)) → cut list ≡ whole items told rest → list ≡ items ++ rest
    pub complete : (items rest : List Made) (answer : CallAnswer (Reply ℕ)) → part items answer → (told : CallAnswer (Reply ℕ)) × SettlesAnswer told answer × (cut (items ++ rest) ≡ whole items told rest)
    pub goes_on : (list : List Made) → cut list ≡ within → (later : List Made) × (answer : CallAnswer (Reply ℕ)) × part (list ++ later) answer

-- the same of completed calls, one by one
abbrev pub SettlesEach : (Call → Reply ℕ → Reply ℕ → Type 0) → List SpeltCall → List SpeltCall → Type 0
SettlesEach settles [] spelt = spelt ≡ []
SettlesEach settles (told ∷ more) [] = ⊥
SettlesEach settles (told ∷ more) (one ∷ spelt) = (one.call ≡ told.call) × (one.items ≡ told.items) × settles told.call told.reply one.reply × SettlesEach settles more spelt

-- each call is cut from a list just as it is spelt, but for the reply that is told, which passes as many calls over
pub record CutsCalls (plan : Plan) (worker : ℕ) (settles : Call → Reply ℕ → Reply ℕ → Type 0) (cut : ℕ → Call → Cutter (Reply ℕ)) : Type 0 where
  pub calls : (before : ℕ) (call : Call) → CutsCall (settles call) (SpellsCall plan worker before call) (cut before call)
  pub passes : (call : Call) (told reply : Reply ℕ) → settles call told reply → passed_over call told ≡ passed_over call reply

-- the line with these completed calls
abbrev pub with_calls : Line → List SpeltCall → Line
with_calls line spelt = record { first = line.first; spelt = spelt; last = line.last; halts = line.halts; rest = line.rest; ending = line.ending }

-- What a list and a script are cut into, with the replies settled, is a line of them, along a run of the script. A line of them that has ended is what they are cut into, but for the replies that are told; one that hasn't may have a last call that is spelt whole, which is cut as a completed one
pub record CutsLines (plan : Plan) (worker : ℕ) (opens : Cutter Bool) (closes : Cutter (Unit {0})) (settles : Call → Reply ℕ → Reply ℕ → Type 0) (cut : ℕ → Call → Cutter (Reply ℕ)) : Type 0 where
  pub is_line : (script : List Call) (list : List Made) (told : Line) (spelt : List SpeltCall) → line_cut opens closes cut 0 script list ≡ Some told → SettlesEach settles told.spelt spelt
      → (let line = with_calls told spelt in RunsAlong script (calls_made line) line.rest × (items_of line ≡ list) × IsLineOf plan worker line)
  pub is_cut : (script : List Call) (line : Line) → RunsAlong script (calls_made line) line.rest → HasEnded line.ending → IsLineOf plan worker line
      → (told : Line) × (line_cut opens closes cut 0 script (items_of line) ≡ Some told) × SettlesEach settles told.spelt line.spelt × (with_calls told line.spelt ≡ line)
