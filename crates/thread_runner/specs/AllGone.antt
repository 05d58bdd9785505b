-- What all workers leave.
use Rattle.std.specs.Prelude.{◌≡◌, ℕ, List, [], length, Option, Some, slice_get, get_or}
use Rattle.script_calls.specs.declared.call.Reply.{Reply}
use Rattle.sync_model.specs.declared.caller.Caller.{Caller}
use Rattle.sync_model.specs.Front.{Front}
use Rattle.sync_model.specs.Note.{Holding}
use Rattle.workload.specs.Plan.{Plan}
use Rattle.thread_objects.specs.declared.object.AnyObject.{AnyObject}
use Rattle.thread_objects.specs.declared.pass.AnyPass.{AnyPass}
use Rattle.thread_runner.specs.Jobs.{HasGone}

module _ {N H : Type 0} (at : H → N → Type 0) (own : N → Option Holding) (front : N → Front) (home : H) (plan : Plan) (objects : List (AnyObject N H)) (rows : List (List (AnyPass N))) (callers : List (Caller N)) where
  -- each worker that had one of these rows, and was one of these callers, has ended, in order of number
  pub record HaveGone (now_rows : List (List (AnyPass N))) (now_callers : List (Caller N)) (replies : List (List (Reply ℕ))) : Type 0 where
    pub rows_count : length now_rows ≡ plan.workers
    pub callers_count : length now_callers ≡ plan.workers
    pub replies_count : length replies ≡ plan.workers
    pub each : (worker : ℕ) (caller now_caller : Caller N) → slice_get callers worker ≡ Some caller → slice_get now_callers worker ≡ Some now_caller
        → HasGone at own front home plan objects worker (get_or rows worker []) caller (get_or now_rows worker []) now_caller (get_or replies worker [])
