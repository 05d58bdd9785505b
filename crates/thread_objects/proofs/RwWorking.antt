-- A call of a reader/writer mutex that is spelt by the protocol is spelt so in a record.
use Rattle.std.proofs.Common.{◌≡◌, ℕ, List, map, refl, subst}
use Rattle.sync_model.specs.declared.journal.Entry.{Entry}
use Rattle.script_calls.specs.declared.call.Reply.{Reply}
use Rattle.script_calls.specs.declared.call.Reply.TheVariants as replies
use Rattle.sync_types.specs.declared.lock_call.LockReply.{LockReply}
use Rattle.sync_types.specs.declared.lock_call.RwMutexCall.{RwMutexCall}
use Rattle.sync_types.specs.declared.lock_call.RwMutexCall.TheVariants as calls
use Rattle.rw_core.specs.declared.event.RwEvent.{RwEvent}
use Rattle.rw_core.specs.declared.reply.RwReply.{RwReply}
use Rattle.protocols.specs.RwMutexStages.{rw_event, rw_meaning}
use Rattle.protocols.specs.Spelling.{CallAnswer}
use Rattle.protocols.specs.declared.rw_mutex.RwMutexStage.{RwMutexStage}
use Rattle.run_record.specs.declared.entered.ObjectEvent.TheVariants as event
use Rattle.run_record.specs.declared.entered.ObjectReply.TheVariants as reply
use Rattle.run_record.specs.declared.made.Made.{Made}
use Rattle.run_record.specs.Parts.{Part, stages, with_outcome}
use Rattle.run_record.specs.RwMutexKind.{rw_mutex_stage, rw_part, rw_mutex_call}
use Rattle.thread_objects.specs.Working.{Desk, Works}

abbrev from : ℕ → RwMutexStage → Part LockReply
from object stage = stages event.RwMutex reply.RwMutex rw_event rw_meaning object stage

-- with no answer `Still` left out
as_it_is : (object : ℕ) (call : RwMutexCall) (items : List Made) (given : CallAnswer LockReply) → from object (rw_mutex_stage call) items given → rw_part object call items given
as_it_is object calls.Lock items given (entries, is, spells) = (entries, is, (map (λ (entry : Entry RwEvent RwReply). entry.deed) entries, refl, spells))
as_it_is object calls.Unlock items given made = made
as_it_is object calls.TryLock items given made = made
as_it_is object calls.RLock items given made = made
as_it_is object calls.RUnlock items given made = made
as_it_is object calls.TryRLock items given made = made

pub reads_call : (object : ℕ) (call : RwMutexCall) (stage : RwMutexStage) (old new : Desk) (given : CallAnswer LockReply) (answer : CallAnswer (Reply ℕ)) → stage ≡ rw_mutex_stage call → answer ≡ with_outcome replies.Lock given
    → Works (from object stage) old given new → Works (rw_mutex_call object call) old answer new
reads_call object call stage old new given answer same is works =
    record { items = works.items; moves = works.moves; spelt = (given, as_it_is object call works.items given (subst (λ (s : RwMutexStage). from object s works.items given) same works.spelt), is) }
