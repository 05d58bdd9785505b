-- The forms of the replies of each kind of object, by the table of `sync` and `sync/atomic`.
use Rattle.std.specs.Prelude.{Bool, true, false}
use Rattle.sync_types.specs.declared.map_object.MapCall.{MapCall}
use Rattle.sync_types.specs.declared.map_object.MapCall.TheVariants as map_calls
use Rattle.sync_types.specs.declared.map_object.MapReply.{MapReply}
use Rattle.sync_types.specs.declared.map_object.MapReply.TheVariants as map_replies
use Rattle.sync_types.specs.declared.atomic_object.AtomicCall.{AtomicCall}
use Rattle.sync_types.specs.declared.atomic_object.AtomicCall.TheVariants as atomic_calls
use Rattle.sync_types.specs.declared.atomic_object.AtomicReply.{AtomicReply}
use Rattle.sync_types.specs.declared.atomic_object.AtomicReply.TheVariants as atomic_replies
use Rattle.sync_types.specs.declared.lock_call.MutexCall.{MutexCall}
use Rattle.sync_types.specs.declared.lock_call.MutexCall.TheVariants as mutex_calls
use Rattle.sync_types.specs.declared.lock_call.RwMutexCall.{RwMutexCall}
use Rattle.sync_types.specs.declared.lock_call.RwMutexCall.TheVariants as rw_calls
use Rattle.sync_types.specs.declared.lock_call.LockReply.{LockReply}
use Rattle.sync_types.specs.declared.lock_call.LockReply.TheVariants as lock_replies
use Rattle.sync_types.specs.declared.pool_call.PoolCall.{PoolCall}
use Rattle.sync_types.specs.declared.pool_call.PoolCall.TheVariants as pool_calls
use Rattle.sync_types.specs.declared.pool_call.PoolCallReply.{PoolCallReply}
use Rattle.sync_types.specs.declared.pool_call.PoolCallReply.TheVariants as pool_replies
use Rattle.sync_types.specs.declared.sema_call.SemaCall.{SemaCall}
use Rattle.sync_types.specs.declared.sema_call.SemaCall.TheVariants as sema_calls

-- the forms of a map's replies: nothing more, a value or none, a value and whether it was there, and whether a value was the old one
abbrev pub is_map_done : MapReply → Bool
is_map_done map_replies.Done = true
is_map_done reply = false

abbrev pub is_found : MapReply → Bool
is_found (map_replies.Found found) = true
is_found reply = false

abbrev pub is_settled : MapReply → Bool
is_settled (map_replies.Settled value loaded) = true
is_settled reply = false

abbrev pub is_map_compared : MapReply → Bool
is_map_compared (map_replies.Compared was) = true
is_map_compared reply = false

abbrev pub map_form : {K : Type 0} → MapCall K → MapReply → Bool
map_form (map_calls.Load key) reply = is_found reply
map_form (map_calls.Store key value) reply = is_map_done reply
map_form (map_calls.LoadOrStore key value) reply = is_settled reply
map_form (map_calls.LoadAndDelete key) reply = is_found reply
map_form (map_calls.Delete key) reply = is_map_done reply
map_form (map_calls.Swap key value) reply = is_found reply
map_form (map_calls.CompareAndSwap key old new) reply = is_map_compared reply
map_form (map_calls.CompareAndDelete key old) reply = is_map_compared reply
map_form map_calls.Clear reply = is_map_done reply

-- the forms of an atomic's replies: nothing more, a number, and whether a number was the old one
abbrev pub is_atomic_done : AtomicReply → Bool
is_atomic_done atomic_replies.Done = true
is_atomic_done reply = false

abbrev pub is_held : AtomicReply → Bool
is_held (atomic_replies.Held number) = true
is_held reply = false

abbrev pub is_atomic_compared : AtomicReply → Bool
is_atomic_compared (atomic_replies.Compared was) = true
is_atomic_compared reply = false

abbrev pub atomic_form : AtomicCall → AtomicReply → Bool
atomic_form atomic_calls.Load reply = is_held reply
atomic_form (atomic_calls.Store value) reply = is_atomic_done reply
atomic_form (atomic_calls.Swap value) reply = is_held reply
atomic_form (atomic_calls.Add operand) reply = is_held reply
atomic_form (atomic_calls.And operand) reply = is_held reply
atomic_form (atomic_calls.Or operand) reply = is_held reply
atomic_form (atomic_calls.CompareAndSwap old new) reply = is_atomic_compared reply

-- the forms of a lock's replies: nothing more, and whether a try took the lock
abbrev pub is_lock_done : LockReply → Bool
is_lock_done lock_replies.Done = true
is_lock_done (lock_replies.Tried taken) = false

abbrev pub is_tried : LockReply → Bool
is_tried lock_replies.Done = false
is_tried (lock_replies.Tried taken) = true

abbrev pub mutex_form : MutexCall → LockReply → Bool
mutex_form mutex_calls.Lock reply = is_lock_done reply
mutex_form mutex_calls.Unlock reply = is_lock_done reply
mutex_form mutex_calls.TryLock reply = is_tried reply

abbrev pub rw_mutex_form : RwMutexCall → LockReply → Bool
rw_mutex_form rw_calls.Lock reply = is_lock_done reply
rw_mutex_form rw_calls.Unlock reply = is_lock_done reply
rw_mutex_form rw_calls.TryLock reply = is_tried reply
rw_mutex_form rw_calls.RLock reply = is_lock_done reply
rw_mutex_form rw_calls.RUnlock reply = is_lock_done reply
rw_mutex_form rw_calls.TryRLock reply = is_tried reply

abbrev pub sema_form : SemaCall → LockReply → Bool
sema_form (sema_calls.Acquire weight) reply = is_lock_done reply
sema_form (sema_calls.TryAcquire weight) reply = is_tried reply
sema_form (sema_calls.Release weight) reply = is_lock_done reply

-- a put and a sweep say nothing more; a get answers an item that was put, or a new one
abbrev pub is_pool_done : PoolCallReply → Bool
is_pool_done pool_replies.Done = true
is_pool_done (pool_replies.Put item) = false
is_pool_done pool_replies.New = false

abbrev pub is_item : PoolCallReply → Bool
is_item pool_replies.Done = false
is_item (pool_replies.Put item) = true
is_item pool_replies.New = true

abbrev pub pool_form : PoolCall → PoolCallReply → Bool
pool_form (pool_calls.Put item) reply = is_pool_done reply
pool_form pool_calls.Get reply = is_item reply
pool_form pool_calls.Sweep reply = is_pool_done reply
