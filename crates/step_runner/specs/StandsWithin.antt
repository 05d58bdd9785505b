-- Where a worker stands before a call or within it, of whose waits it has begun so many: what is ready for its turns, at which mutex it waits, where it stands at the
-- objects, what is left of the call to be spelt, and how many turns. A `go` is made in the turn of its `add`. Of any other call all of it is as at the call's objects.
use Rattle.std.specs.Prelude.{◌≡◌, ℕ, zero, suc, ◌+◌, ◌-◌, ◌*◌, ◌<◌, List, slice_get, Option, Some, None}
use Rattle.script_calls.specs.declared.call.Call.{Call}
use Rattle.script_calls.specs.declared.call.ComposedCall.TheVariants.{WaitFor, Go}
use Rattle.script_calls.specs.declared.call.Operation.{Operation}
use Rattle.script_calls.specs.declared.call.Operation.TheVariants as operations
use Rattle.script_calls.specs.declared.call.Reply.{Reply}
use Rattle.sync_types.specs.declared.atomic_object.Number.{Number}
use Rattle.workload.specs.declared.object.ObjectKind.{ObjectKind}
use Rattle.workload.specs.declared.object.ObjectKind.TheVariants as kinds
use Rattle.workload.specs.Plan.{Plan}
use Rattle.run_record.specs.Calls.{call_on}
use Rattle.run_record.specs.Objects.{atomic_number}
use Rattle.run_record.specs.Parts.{Part, and_then, never, read_as}
use Rattle.run_record.specs.Record.{object_number}
use Rattle.run_record.specs.Tests.{compared, waits_for}
use Rattle.step_runner.specs.declared.turns.answer.Answer.{Answer}
use Rattle.step_runner.specs.declared.turns.answer.Answer.TheVariants as answers
use Rattle.step_runner.specs.declared.turns.object_state.ObjectState.{ObjectState}
use Rattle.step_runner.specs.Left.{left_at}
use Rattle.step_runner.specs.Objects.{kind_of, EachAt}
use Rattle.step_runner.specs.Ready.{IsReady}
use Rattle.step_runner.specs.Stands.{waits_at}
use Rattle.step_runner.specs.TurnWithin.{wait_on, load_of, add_one}
use Rattle.step_runner.specs.TurnsLeft.{turns_left}
use Rattle.step_runner.specs.Within.{IsIdle, IsWithin}

-- ---- when it may take a turn

module _ (workers worker : ℕ) (call : Call) (objects : List ObjectState) where
  -- a `waitfor` is a call of a cond, and its atomic is there; a `go` is one of a wait group
  abbrev pub ReadyBy : Operation → Type 0
  ReadyBy (operations.Composed (WaitFor atomic value tries)) = IsReady workers worker (wait_on call.object) objects × IsReady workers worker (load_of atomic) objects
  ReadyBy (operations.Composed (Go started)) = IsReady workers worker (add_one call.object) objects
  ReadyBy operation = IsReady workers worker call objects

  abbrev pub IsReadyWithin : Type 0
  IsReadyWithin = ReadyBy call.operation

-- ---- at which mutex it waits

module _ (kinds : List ObjectKind) (call : Call) where
  -- one that has begun no wait waits nowhere
  abbrev pub waits_by : Operation → ℕ → Option ℕ
  waits_by (operations.Composed (WaitFor atomic value tries)) zero = None
  waits_by (operations.Composed (WaitFor atomic value tries)) (suc begun) = waits_at kinds (wait_on call.object)
  waits_by (operations.Composed (Go started)) begun = waits_at kinds (add_one call.object)
  waits_by operation begun = waits_at kinds call

  abbrev pub waits_within : ℕ → Option ℕ
  waits_within begun = waits_by call.operation begun

-- ---- where it stands at the objects

module _ (worker : ℕ) (call : Call) where
  abbrev pub StandsBy : Operation → ℕ → List ObjectState → Type 0
  StandsBy (operations.Composed (WaitFor atomic value tries)) zero objects = EachAt (λ place. IsIdle worker) objects
  StandsBy (operations.Composed (WaitFor atomic value tries)) (suc begun) objects = IsWithin worker (wait_on call.object) objects
  StandsBy (operations.Composed (Go started)) begun objects = IsWithin worker (add_one call.object) objects
  StandsBy operation begun objects = IsWithin worker call objects

  abbrev pub IsWithinCall : ℕ → List ObjectState → Type 0
  IsWithinCall begun objects = StandsBy call.operation begun objects

  -- behind a turn of its own: a misuse ends the run
  abbrev pub StandsAfter : Answer → ℕ → List ObjectState → Type 0
  StandsAfter answers.Still begun objects = IsWithinCall begun objects
  StandsAfter answers.Unfinished begun objects = IsWithinCall begun objects
  StandsAfter (answers.Completed reply) begun objects = EachAt (λ place. IsIdle worker) objects
  StandsAfter (answers.Misused misuse) begun objects = Unit {0}

-- ---- what is left of the call to be spelt

module _ (plan : Plan) (worker before : ℕ) (call : Call) (objects : List ObjectState) where
  -- all of it, at an object of this kind
  abbrev pub whole_at : Option ObjectState → Part (Reply ℕ)
  whole_at None = never
  whole_at (Some object) = call_on plan worker before call.object (kind_of object) call.operation

  module _ (atomic : ℕ) (value : Number) (tries : ℕ) where
    -- behind the wait that was begun last so many more may be made
    abbrev pub left_on_cond : ObjectKind → Part (Reply ℕ)
    left_on_cond (kinds.Cond mutex) =
        read_as compared (and_then (left_at plan worker before (wait_on call.object) objects) (λ waited. waits_for (object_number call.object) (object_number mutex) (atomic_number plan.objects atomic) value tries))
    left_on_cond kind = never

    abbrev pub left_behind_wait : Option ObjectState → Part (Reply ℕ)
    left_behind_wait None = never
    left_behind_wait (Some object) = left_on_cond (kind_of object)

  abbrev pub left_by_operation : Operation → ℕ → Part (Reply ℕ)
  left_by_operation (operations.Composed (WaitFor atomic value tries)) zero = whole_at (slice_get objects call.object)
  left_by_operation (operations.Composed (WaitFor atomic value tries)) (suc begun) = left_behind_wait atomic value (tries - suc begun) (slice_get objects call.object)
  left_by_operation (operations.Composed (Go started)) begun = whole_at (slice_get objects call.object)
  left_by_operation operation begun = left_at plan worker before call objects

  abbrev pub left_within : ℕ → Part (Reply ℕ)
  left_within begun = left_by_operation call.operation begun

-- ---- how many turns with an event it may still take

-- how many a call may take, but those with which its worker goes back to the queue of a mutex: each wait of a `waitfor` as many as any other call, and one more
abbrev pub most_turns : Operation → ℕ
most_turns (operations.Composed (WaitFor atomic value tries)) = 4 * tries + 1
most_turns operation = 4

module _ (kinds : List ObjectKind) (call : Call) (worker : ℕ) (objects : List ObjectState) where
  abbrev pub turns_by_operation : Operation → ℕ → ℕ
  turns_by_operation (operations.Composed (WaitFor atomic value tries)) zero = 4 * tries + 1
  turns_by_operation (operations.Composed (WaitFor atomic value tries)) (suc begun) = 4 * (tries - suc begun) + turns_left kinds (wait_on call.object) worker objects
  turns_by_operation (operations.Composed (Go started)) begun = turns_left kinds (add_one call.object) worker objects
  turns_by_operation operation begun = turns_left kinds call worker objects

  abbrev pub turns_within : ℕ → ℕ
  turns_within begun = turns_by_operation call.operation begun

-- ---- what a turn uses up

-- what a turn's answer says of the waits that were begun and of what was left at the objects and is left. No event: all is the same. An event that completes no call: less is
-- left, or one wait more was begun, which counts for 4. One that completes a call: less than 4 more
abbrev pub UsesWithin : (begun later old new : ℕ) → Type 0 → Answer → Type 0
UsesWithin begun later old new same answers.Still = same × (later ≡ begun)
UsesWithin begun later old new same answers.Unfinished = new + 4 * begun < old + 4 * later
UsesWithin begun later old new same (answers.Completed reply) = new < old + 4
UsesWithin begun later old new same (answers.Misused misuse) = Unit {0}
