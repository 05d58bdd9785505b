-- A function `f` made by `OnceFunc`, which fails with code 7, is called by both workers.
use Rattle.std.specs.Prelude.{ℕ, [], ◌∷◌, Some}
use Rattle.script_calls.specs.declared.call.Operation.TheVariants as operations
use Rattle.script_calls.specs.declared.call.Reply.TheVariants as replies
use Rattle.script_calls.specs.declared.outcome.Outcome.{Outcome}
use Rattle.wait_cores.specs.declared.once.OnceEvent.TheVariants.{Begin, End}
use Rattle.wait_cores.specs.declared.once.OnceReply.TheVariants.{Run, Done, Ended}
use Rattle.workload.specs.declared.object.ObjectKind.TheVariants.{OnceFunc}
use Rattle.workload.specs.Plan.{Plan}
use Rattle.run_record.specs.declared.entered.ObjectEvent.TheVariants as event
use Rattle.run_record.specs.declared.entered.ObjectReply.TheVariants as reply
use Rattle.run_record.specs.declared.made.Made.TheVariants.{Entered}
use Rattle.run_record.specs.Record.{Record, ObjectEntry}
use Rattle.run_laws.specs.Examples.{declared, on, plan_of, returned, entry, record_of}

abbrev pub plan : Plan
plan = plan_of (declared 102 (OnceFunc 7) ∷ []) (on 0 operations.OnceFunc ∷ []) (on 0 operations.OnceFunc ∷ [])

abbrev pub outcome : Outcome
outcome = returned (replies.OnceFunc (Some 7) ∷ []) (replies.OnceFunc (Some 7) ∷ [])

-- a worker is to run the function, and ends it
abbrev pub runs : ℕ → ObjectEntry
runs worker = entry worker (event.OnceFunc Begin) (reply.OnceFunc Run)

abbrev pub ends : ℕ → ObjectEntry
ends worker = entry worker (event.OnceFunc (End 7)) (reply.OnceFunc Ended)

-- a worker is told what it came to
abbrev pub is_told : ℕ → ObjectEntry
is_told worker = entry worker (event.OnceFunc Begin) (reply.OnceFunc (Done 7))

-- worker 0 runs it, and worker 1 is told
abbrev pub ran_once : Record
ran_once = record_of ((runs 0 ∷ ends 0 ∷ is_told 1 ∷ []) ∷ []) (Entered 1 (runs 0) ∷ Entered 1 (ends 0) ∷ []) (Entered 1 (is_told 1) ∷ [])

-- worker 1 runs it, too
abbrev pub ran_twice : Record
ran_twice = record_of ((runs 0 ∷ ends 0 ∷ runs 1 ∷ ends 1 ∷ []) ∷ []) (Entered 1 (runs 0) ∷ Entered 1 (ends 0) ∷ []) (Entered 1 (runs 1) ∷ Entered 1 (ends 1) ∷ [])
