-- How a worker's list falls into what it makes before its script, the calls of a run of its script, and what it makes behind it.
use Rattle.std.specs.Prelude.{◌≡◌, ◌≢◌, ℕ, ◌+◌, Bool, true, false, List, [], ◌∷◌, ◌++◌, map, length, All, Contains, Ok, Err}
use Rattle.std.specs.List.{flat_map}
use Rattle.sync_model.specs.declared.answer.Answer.TheVariants.{Done, Halted}
use Rattle.script_calls.specs.declared.call.Call.{Call}
use Rattle.script_calls.specs.declared.call.Reply.{Reply}
use Rattle.sync_model.specs.declared.journal.Deed.TheVariants.{Halt}
use Rattle.sync_types.specs.declared.misuse.Misuse.{Misuse}
use Rattle.protocols.specs.Spelling.{CallAnswer}
use Rattle.workload.specs.Plan.{Plan}
use Rattle.run_record.specs.declared.made.Made.{Made}
use Rattle.run_record.specs.declared.made.Made.TheVariants.{Shared, Entered}
use Rattle.run_record.specs.Calls.{SpellsCall}
use Rattle.run_record.specs.Halts.{halted_numbers, entered_on}
use Rattle.run_record.specs.Record.{stop, shared_in}
use Rattle.run_record.specs.StartsKind.{opening, closing}

-- a call that was completed, with the items that spell it
pub record SpeltCall : Type 0 where
  pub call : Call
  pub items : List Made
  pub reply : Reply ℕ

-- why a worker that waits to be started didn't come to its script
pub data Stay : Type 0 where
  never : Stay  -- it was never started
  stopped : Misuse → Stay  -- it met a halt
  waits : Stay  -- it waits still

-- how a list ends. A worker calls something behind its script, too
pub data LineEnd : Type 0 where
  whole : LineEnd  -- the script is at its end
  misused : Misuse → LineEnd  -- a call is this misuse
  halted : Misuse → LineEnd  -- a call was cut short by a halt
  unfinished : LineEnd  -- a call isn't done yet
  stayed : Stay → LineEnd  -- the worker didn't come to its script

-- a list, part by part
pub record Line : Type 0 where
  pub first : List Made  -- before the script
  pub spelt : List SpeltCall
  pub last : List Made  -- of the call that wasn't completed, or behind the script
  pub halts : List Made  -- behind them, where that call is a misuse
  pub rest : List Call  -- what is left of the script
  pub ending : LineEnd

-- the completed calls, each with its reply
abbrev pub calls_made : Line → List (Call × Reply ℕ)
calls_made line = map (λ spelt. (spelt.call, spelt.reply)) line.spelt

-- the completed calls and what is left; where no call of a script passes others over, the script
abbrev pub script_of : Line → List Call
script_of line = map (λ spelt. spelt.call) line.spelt ++ line.rest

abbrev pub items_of : Line → List Made
items_of line = line.first ++ (flat_map (λ spelt. spelt.items) line.spelt ++ (line.last ++ line.halts))

abbrev pub replies_of : Line → List (Reply ℕ)
replies_of line = map (λ spelt. spelt.reply) line.spelt

-- the worker halts an object by this misuse
abbrev pub IsHalt : Misuse → Made → Type 0
IsHalt misuse (Shared x) = ⊥
IsHalt misuse (Entered object entry) = entry.deed ≡ Halt misuse

-- the items are halts by the misuse in which a list ends; there are none, where it doesn't end in one
abbrev pub AreHalts : LineEnd → List Made → Type 0
AreHalts (misused misuse) halts = All (IsHalt misuse) halts
AreHalts ending halts = halts ≡ []

-- a worker that meets a misuse halts Stop by it
abbrev pub HaltsStop : Line → Type 0
HaltsStop line = (misuse : Misuse) → line.ending ≡ misused misuse → Contains (entered_on line.halts) stop

-- the objects that a worker halts whose list ends so: where it meets a misuse, each object once, and else none
abbrev pub halted_by : Plan → LineEnd → List ℕ
halted_by plan (misused misuse) = halted_numbers plan
halted_by plan ending = []

-- the worker halts just these, in this order
abbrev pub HaltsEach : Plan → Line → Type 0
HaltsEach plan line = entered_on line.halts ≡ halted_by plan line.ending

module _ (plan : Plan) (worker : ℕ) where
  -- each completed call is spelt by its items, of a worker that has made so many calls on maps and atomics before
  abbrev pub AreSpelt : ℕ → List SpeltCall → Type 0
  AreSpelt before [] = Unit {0}
  AreSpelt before (spelt ∷ later) = SpellsCall plan worker before spelt.call spelt.items (Done (Ok spelt.reply)) × AreSpelt (before + length (shared_in spelt.items)) later

  -- What stands behind the completed calls: at the end of the script what closes it, and else the next call. As a whole, as a misuse, as met by a halt, or the first items of it, of a call perhaps none.
  abbrev pub EndsBy : ℕ → LineEnd → List Call → List Made → Type 0
  EndsBy before whole rest last = (rest ≡ []) × closing plan worker last (Done (Ok tt))
  EndsBy before (misused misuse) [] last = closing plan worker last (Done (Err misuse))
  EndsBy before (misused misuse) (call ∷ rest) last = SpellsCall plan worker before call last (Done (Err misuse))
  EndsBy before (halted misuse) [] last = closing plan worker last (Halted misuse)
  EndsBy before (halted misuse) (call ∷ rest) last = SpellsCall plan worker before call last (Halted misuse)
  EndsBy before unfinished [] last = (later : List Made) × (answer : CallAnswer (Unit {0})) × (later ≢ []) × closing plan worker (last ++ later) answer
  EndsBy before unfinished (call ∷ rest) last = (later : List Made) × (answer : CallAnswer (Reply ℕ)) × SpellsCall plan worker before call (last ++ later) answer
  EndsBy before (stayed stay) rest last = last ≡ []

  -- a worker that didn't come to its script: it was told that it is never started, met a halt, or isn't told yet
  abbrev pub StaysBy : Stay → List Made → Type 0
  StaysBy never first = opening plan worker first (Done (Ok false))
  StaysBy (stopped misuse) first = opening plan worker first (Halted misuse)
  StaysBy waits first = (later : List Made) × (answer : CallAnswer Bool) × (later ≢ []) × opening plan worker (first ++ later) answer

  -- What stands before the script: it came to it, or it stayed, and then made no call of it
  abbrev pub OpensBy : LineEnd → List SpeltCall → List Made → Type 0
  OpensBy whole spelt first = opening plan worker first (Done (Ok true))
  OpensBy (misused misuse) spelt first = opening plan worker first (Done (Ok true))
  OpensBy (halted misuse) spelt first = opening plan worker first (Done (Ok true))
  OpensBy unfinished spelt first = opening plan worker first (Done (Ok true))
  OpensBy (stayed stay) spelt first = (spelt ≡ []) × StaysBy stay first

  -- the line is one of this worker
  pub record IsLineOf (line : Line) : Type 0 where
    pub opens : OpensBy line.ending line.spelt line.first
    pub calls : AreSpelt 0 line.spelt
    pub ends : EndsBy (length (shared_in (flat_map (λ spelt. spelt.items) line.spelt))) line.ending line.rest line.last
    pub halts : AreHalts line.ending line.halts
