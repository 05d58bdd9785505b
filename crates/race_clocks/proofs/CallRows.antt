-- The rows of the table for completed calls of a run.
use Rattle.std.proofs.Common.{◌≡◌, ℕ, negsuc, ◌<◌, true, List, Some, slice_get, refl, sym, ap, ◌∙◌, subst}
use Rattle.script_calls.specs.declared.call.Operation.TheVariants as operations
use Rattle.script_calls.specs.declared.call.Reply.{Reply}
use Rattle.script_calls.specs.declared.call.Reply.TheVariants as replies
use Rattle.sync_types.specs.declared.lock_call.LockReply.TheVariants as locks
use Rattle.sync_types.specs.declared.lock_call.MutexCall.TheVariants as mutex_calls
use Rattle.sync_types.specs.declared.lock_call.RwMutexCall.{RwMutexCall}
use Rattle.sync_types.specs.declared.lock_call.RwMutexCall.TheVariants as rw_calls
use Rattle.sync_types.specs.declared.sema_call.SemaCall.TheVariants as sema_calls
use Rattle.sync_types.specs.declared.wait_call.WaitGroupCall.TheVariants as group_calls
use Rattle.workload.specs.Plan.{Plan}
use Rattle.workload.specs.declared.turn.Turn.{Turn}
use Rattle.step_runner.specs.declared.trace.TraceItem.{TraceItem}
use Rattle.step_runner.specs.declared.turns.item.Deed.{Deed}
use Rattle.step_runner.specs.declared.turns.object_state.ObjectState.{ObjectState}
use Rattle.step_runner.specs.State.{start}
use Rattle.step_runner.specs.Traces.{traced_from}
use Rattle.race_clocks.specs.HappensBefore.{Before}
use Rattle.race_clocks.specs.Rows.{Makes, Completes, IsMutexUnlock, IsMutexLock, IsRwLock, IsWritersCall, lock, try_lock, writer_unlock, reader_unlock, added, IsGroupReturn, gave_back, IsWeightHad}
use Rattle.race_clocks.proofs.Accesses.{IsToldOf, told_of}
use Rattle.race_clocks.proofs.CompletedCalls.{Takes, locks_it, reads_it, tries_it, tries_to_read_it, locked_by, tried_by, rw_by, waited_by, added_by, done_by, acquired_by, weight_tried_by, makes}
use Rattle.race_clocks.proofs.Ordered.{mutex_row, writer_row, reader_row, group_row, weight_row}

-- each item of a trace of turns tells of a turn
pub all_told : (plan : Plan) (trace : List TraceItem) (turns : List Turn) → trace ≡ traced_from plan turns (start plan) → (n : ℕ) (one : TraceItem) → slice_get trace n ≡ Some one → IsToldOf plan one
all_told plan trace turns is n one at = told_of plan turns (start plan) n one (ap (λ t. slice_get t n) (sym is) ∙ at)

module _ (plan : Plan) (trace : List TraceItem) (told : (n : ℕ) (one : TraceItem) → slice_get trace n ≡ Some one → IsToldOf plan one) (i j place : ℕ) (earlier : i < j) where
  module _ (w : ℕ) (d : Deed) (one : Makes trace i place w d) where
    pub mutex_locked : IsMutexUnlock d → (reply : Reply (List ℕ)) → Completes trace j place (operations.Mutex mutex_calls.Lock) reply → Before plan trace i j
    mutex_locked unlock reply c =
        let does = locked_by plan trace told j place reply c in
        mutex_row plan trace i j place w does.worker d does.deed earlier one (makes plan trace told j place (operations.Mutex mutex_calls.Lock) reply c IsMutexLock does) unlock does.does

    pub mutex_tried : IsMutexUnlock d → Completes trace j place (operations.Mutex mutex_calls.TryLock) (replies.Lock (locks.Tried true)) → Before plan trace i j
    mutex_tried unlock c =
        let does = tried_by plan trace told j place c in
        mutex_row plan trace i j place w does.worker d does.deed earlier one (makes plan trace told j place (operations.Mutex mutex_calls.TryLock) (replies.Lock (locks.Tried true)) c IsMutexLock does) unlock does.does

    pub weight_acquired : (given weight : ℕ) → d ≡ gave_back given → (reply : Reply (List ℕ)) → Completes trace j place (operations.Sema (sema_calls.Acquire weight)) reply → Before plan trace i j
    weight_acquired given weight gives reply c =
        let does = acquired_by plan trace told j place weight reply c in
        weight_row plan trace i j place w does.worker d does.deed earlier one (makes plan trace told j place (operations.Sema (sema_calls.Acquire weight)) reply c IsWeightHad does) given gives does.does

    pub weight_tried : (given weight : ℕ) → d ≡ gave_back given → Completes trace j place (operations.Sema (sema_calls.TryAcquire weight)) (replies.Lock (locks.Tried true)) → Before plan trace i j
    weight_tried given weight gives c =
        let does = weight_tried_by plan trace told j place weight c in
        weight_row plan trace i j place w does.worker d does.deed earlier one (makes plan trace told j place (operations.Sema (sema_calls.TryAcquire weight)) (replies.Lock (locks.Tried true)) c IsWeightHad does) given gives does.does

    module _ (call : RwMutexCall) (reply : Reply (List ℕ)) (takes : (worker moment : ℕ) (objects : List ObjectState) → Takes place worker moment objects reply call) (c : Completes trace j place (operations.RwMutex call) reply) where
      behind_writer : d ≡ writer_unlock → Before plan trace i j
      behind_writer unlock =
          let does = rw_by plan trace told j place call reply takes c in
          writer_row plan trace i j place w does.worker d does.deed earlier one (makes plan trace told j place (operations.RwMutex call) reply c IsRwLock does) unlock does.does

      behind_reader : d ≡ reader_unlock → IsWritersCall c.turn.call → Before plan trace i j
      behind_reader unlock writes =
          let does = rw_by plan trace told j place call reply takes c in
          reader_row plan trace i j place w does.worker d does.deed earlier one (makes plan trace told j place (operations.RwMutex call) reply c IsRwLock does) unlock does.does writes

    pub writer_then_lock : d ≡ writer_unlock → (reply : Reply (List ℕ)) → Completes trace j place (operations.RwMutex rw_calls.Lock) reply → Before plan trace i j
    writer_then_lock unlock reply c = behind_writer rw_calls.Lock reply (λ worker moment objects. locks_it) c unlock

    pub writer_then_r_lock : d ≡ writer_unlock → (reply : Reply (List ℕ)) → Completes trace j place (operations.RwMutex rw_calls.RLock) reply → Before plan trace i j
    writer_then_r_lock unlock reply c = behind_writer rw_calls.RLock reply (λ worker moment objects. reads_it) c unlock

    pub writer_then_try_lock : d ≡ writer_unlock → Completes trace j place (operations.RwMutex rw_calls.TryLock) (replies.Lock (locks.Tried true)) → Before plan trace i j
    writer_then_try_lock unlock c = behind_writer rw_calls.TryLock (replies.Lock (locks.Tried true)) (λ worker moment objects. tries_it refl) c unlock

    pub writer_then_try_r_lock : d ≡ writer_unlock → Completes trace j place (operations.RwMutex rw_calls.TryRLock) (replies.Lock (locks.Tried true)) → Before plan trace i j
    writer_then_try_r_lock unlock c = behind_writer rw_calls.TryRLock (replies.Lock (locks.Tried true)) (λ worker moment objects. tries_to_read_it refl) c unlock

    pub reader_then_lock : d ≡ reader_unlock → (reply : Reply (List ℕ)) → Completes trace j place (operations.RwMutex rw_calls.Lock) reply → Before plan trace i j
    reader_then_lock unlock reply c = behind_reader rw_calls.Lock reply (λ worker moment objects. locks_it) c unlock (subst IsWritersCall (sym c.of) (lock place))

    pub reader_then_try_lock : d ≡ reader_unlock → Completes trace j place (operations.RwMutex rw_calls.TryLock) (replies.Lock (locks.Tried true)) → Before plan trace i j
    reader_then_try_lock unlock c = behind_reader rw_calls.TryLock (replies.Lock (locks.Tried true)) (λ worker moment objects. tries_it refl) c unlock (subst IsWritersCall (sym c.of) (try_lock place))

  pub added_then_waited : (n : ℕ) (said reply : Reply (List ℕ)) → Completes trace i place (operations.WaitGroup (group_calls.Add (negsuc n))) said → Completes trace j place (operations.WaitGroup group_calls.Wait) reply → Before plan trace i j
  added_then_waited n said reply a c =
      let adds = added_by plan trace told i place (negsuc n) said a in
      let does = waited_by plan trace told j place reply c in
      group_row plan trace i j place adds.worker does.worker adds.deed does.deed earlier
      (makes plan trace told i place (operations.WaitGroup (group_calls.Add (negsuc n))) said a (λ d. d ≡ added (negsuc n)) adds) (makes plan trace told j place (operations.WaitGroup group_calls.Wait) reply c IsGroupReturn does) n adds.does does.does

  pub done_then_waited : (said reply : Reply (List ℕ)) → Completes trace i place (operations.WaitGroup group_calls.Done) said → Completes trace j place (operations.WaitGroup group_calls.Wait) reply → Before plan trace i j
  done_then_waited said reply a c =
      let adds = done_by plan trace told i place said a in
      let does = waited_by plan trace told j place reply c in
      group_row plan trace i j place adds.worker does.worker adds.deed does.deed earlier
      (makes plan trace told i place (operations.WaitGroup group_calls.Done) said a (λ d. d ≡ added (negsuc 0)) adds) (makes plan trace told j place (operations.WaitGroup group_calls.Wait) reply c IsGroupReturn does) 0 adds.does does.does
