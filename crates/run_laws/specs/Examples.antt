-- The words of small examples: workloads of two workers without a call on a map or an atomic, and records of their runs.
use Rattle.std.specs.Prelude.{ℕ, false, List, [], ◌∷◌}
use Rattle.script_calls.specs.declared.call.Call.{Call}
use Rattle.script_calls.specs.declared.call.Operation.{Operation}
use Rattle.script_calls.specs.declared.call.Reply.{Reply}
use Rattle.script_calls.specs.declared.outcome.Outcome.{Outcome}
use Rattle.script_calls.specs.declared.outcome.Outcome.TheVariants.{Done}
use Rattle.sync_model.specs.declared.journal.Deed.TheVariants.{Event}
use Rattle.sync_model.specs.declared.journal.Entry.{Entry}
use Rattle.workload.specs.declared.object.ObjectKind.{ObjectKind}
use Rattle.workload.specs.declared.object.ObjectLine.{ObjectLine}
use Rattle.workload.specs.Plan.{Plan}
use Rattle.run_record.specs.declared.made.Made.{Made}
use Rattle.run_record.specs.Record.{Record, ObjectEntry}

-- an object, by the one letter of its name
abbrev pub declared : ℕ → ObjectKind → ObjectLine
declared letter kind = record { name = letter ∷ []; kind = kind }

-- a call on the object at a place
abbrev pub on : ℕ → Operation → Call
on place operation = record { object = place; operation = operation }

-- a workload, by its objects and the scripts of its two workers, neither of which waits to be started
abbrev pub plan_of : List ObjectLine → List Call → List Call → Plan
plan_of objects first second = record { workers = 2; objects = objects; dormant = false ∷ false ∷ []; scripts = first ∷ second ∷ []; schedule = [] }

-- each call of the two workers returned, with these replies
abbrev pub returned : List (Reply ℕ) → List (Reply ℕ) → Outcome
returned first second = Done (record { replies = first ∷ second ∷ []; ends = [] })

-- nobody knows of a call on a map or an atomic, since there is none
abbrev pub none_known : List ℕ
none_known = 0 ∷ 0 ∷ []

-- an entry: the worker made the event, which was answered so
abbrev pub entry : {E R : Type 0} → ℕ → E → R → Entry E R
entry worker event reply = record { caller = worker; deed = Event event reply; front = none_known; knew = 0; time = 0 }

-- the record of a run, by the journals of the objects behind Stop and by what each worker made
abbrev pub record_of : List (List ObjectEntry) → List Made → List Made → Record
record_of journals first second = record { history = []; journals = [] ∷ journals; lists = first ∷ second ∷ [] }
