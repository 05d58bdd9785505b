-- A worker before its script, and what it leaves behind it.
use Rattle.std.specs.Prelude.{◌≡◌, ℕ, ◌^◌, ◌<◌, ◌≤◌, ◌⊎◌, List, [], length, get_or, All, Option}
use Rattle.std.specs.Option.{ForSome}
use Rattle.script_calls.specs.declared.call.Call.{Call}
use Rattle.script_calls.specs.declared.call.Reply.{Reply}
use Rattle.sync_model.specs.declared.caller.Caller.{Caller}
use Rattle.sync_types.specs.BoundedSeq.{Bounded}
use Rattle.sync_model.specs.Front.{Front}
use Rattle.sync_model.specs.Note.{Holding}
use Rattle.sync_model.specs.Shared.{IsCallerAt, IsHeldBy, items_of}
use Rattle.workload.specs.Keys.{keys_in}
use Rattle.workload.specs.Plan.{Plan}
use Rattle.run_record.specs.Limits.{IsCallOf}
use Rattle.run_record.specs.Lines.{Line}
use Rattle.thread_objects.specs.declared.object.AnyObject.{AnyObject}
use Rattle.thread_objects.specs.declared.pass.AnyPass.{AnyPass}
use Rattle.thread_objects.specs.Desks.{AreSeats}
use Rattle.thread_objects.specs.GivenUp.{GaveUp}
use Rattle.thread_objects.specs.Passes.{owns_of}
use Rattle.thread_runner.specs.Sites.{AreRooms, cost_of_calls, ranges_in_calls}
use Rattle.thread_objects.specs.Working.{desk_with}
use Rattle.thread_runner.specs.DidLines.{DidLine, IsFresh}

-- There is room for what a script answers: for its replies, and for the pairs of each `range`, which are at most so many keys.
pub record HasRoom (keys : ℕ) (script : List Call) (replies : Bounded (Reply ℕ)) (pairs : List (Bounded (ℕ × ℕ))) : Type 0 where
  pub none : replies.items ≡ []
  pub answers : length script ≤ replies.room
  pub roomy : AreRooms keys pairs
  pub enough : ranges_in_calls script ≤ length pairs

module _ {N H : Type 0} (at : H → N → Type 0) (own : N → Option Holding) (home : H) (plan : Plan) (objects : List (AnyObject N H)) (workers worker : ℕ) where
  -- the worker with this number may make the calls of its script: it has its passes, is a caller that made no call yet, and has room for what they take and what they answer
  pub record MayCall (passes : List (AnyPass N)) (caller : Caller N) (replies : Bounded (Reply ℕ)) (pairs : List (Bounded (ℕ × ℕ))) : Type 0 where
    pub number : worker < plan.workers
    pub seats : AreSeats at home workers worker objects passes
    pub is_caller : IsCallerAt at own home caller
    pub none : items_of (own caller.note) ≡ []
    pub spare : ForSome (own caller.note) (λ holding. cost_of_calls (get_or plan.scripts worker []) ≤ holding.spare)
    pub few : length (get_or plan.scripts worker []) < 2 ^ 32
    pub room : HasRoom (length (keys_in plan.scripts)) (get_or plan.scripts worker []) replies pairs

  -- the worker is between two calls: it has its passes, is the caller that had this note, and all its calls on maps and atomics are the workload's
  pub record IsBetween (first : N) (passes : List (AnyPass N)) (caller : Caller N) : Type 0 where
    pub seats : AreSeats at home workers worker objects passes
    pub is_caller : IsCallerAt at own home caller
    pub held : (c : ℕ) → IsHeldBy c (own first) → IsHeldBy c (own caller.note)
    pub calls : All (λ x. IsCallOf plan x.call) (items_of (own caller.note))

module _ {N H : Type 0} (at : H → N → Type 0) (own : N → Option Holding) (front : N → Front) (home : H) (plan : Plan) (objects : List (AnyObject N H)) (worker : ℕ) where
  -- the worker with this number may make the calls of its script, is the caller with its number, and has done nothing
  pub record IsReady (passes : List (AnyPass N)) (caller : Caller N) (replies : Bounded (Reply ℕ)) (pairs : List (Bounded (ℕ × ℕ))) : Type 0 where
    pub may : MayCall at own home plan objects plan.workers worker passes caller replies pairs
    pub held : IsHeldBy worker (own caller.note)
    pub fresh : IsFresh worker (desk_with own front (owns_of passes) caller.note)

  -- The worker that had these passes and was this caller has ended. All its calls on maps and atomics are the workload's; it has gone along its script, or has seen what can't be.
  pub record HasGone (passes : List (AnyPass N)) (caller : Caller N) (now_passes : List (AnyPass N)) (now_caller : Caller N) (replies : List (Reply ℕ)) : Type 0 where
    pub seats : AreSeats at home plan.workers worker objects now_passes
    pub is_at : at home now_caller.note
    pub held : IsHeldBy worker (own now_caller.note)
    pub calls : All (λ x. IsCallOf plan x.call) (items_of (own now_caller.note))
    pub did : ((line : Line) × DidLine plan worker (get_or plan.scripts worker []) replies (desk_with own front (owns_of passes) caller.note) (desk_with own front (owns_of now_passes) now_caller.note) line) ⊎ GaveUp plan (items_of (own now_caller.note))
