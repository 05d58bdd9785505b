-- Which stages of a lock need no moment: those by which a newcomer has it at once.
use Rattle.std.specs.Prelude.{Bool, false}
use Rattle.mutex_core.specs.MutexMachine as mutex
use Rattle.rw_core.specs.RwMachine as rw_lock
use Rattle.protocols.specs.declared.mutex.MutexStage.{MutexStage}
use Rattle.protocols.specs.declared.mutex.MutexStage.TheVariants as mutex_stage
use Rattle.protocols.specs.declared.rw_mutex.RwMutexStage.{RwMutexStage}
use Rattle.protocols.specs.declared.rw_mutex.RwMutexStage.TheVariants as rw_stage

-- a mutex: a lock, while it is open
abbrev pub mutex_settles : MutexStage → mutex.State → Bool
mutex_settles mutex_stage.Lock state = mutex.is_open state
mutex_settles mutex_stage.TryLock state = false
mutex_settles mutex_stage.Unlock state = false
mutex_settles mutex_stage.Resume state = false

-- a reader/writer lock: a writer's lock, while it is open
abbrev pub rw_settles : RwMutexStage → rw_lock.State → Bool
rw_settles rw_stage.Lock state = rw_lock.is_open state
rw_settles rw_stage.TryLock state = false
rw_settles rw_stage.Unlock state = false
rw_settles rw_stage.Resume state = false
rw_settles rw_stage.LeaveWriting state = false
rw_settles rw_stage.Inner state = false
rw_settles rw_stage.Behind state = false
rw_settles rw_stage.RLock state = false
rw_settles rw_stage.TryRLock state = false
rw_settles rw_stage.RUnlock state = false
rw_settles rw_stage.LeaveReading state = false
