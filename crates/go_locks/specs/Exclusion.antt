-- Who has a lock, as what an entry of its journal shows.
use Rattle.std.specs.Prelude.{Bool, ◌&&◌, not}
use Rattle.sync_model.specs.declared.journal.Entry.{Entry}
use Rattle.sync_model.specs.Journal.{is_such}
use Rattle.mutex_core.specs.declared.event.MutexEvent.{MutexEvent}
use Rattle.mutex_core.specs.declared.reply.MutexReply.{MutexReply}
use Rattle.mutex_core.specs.Edges as mutex
use Rattle.rw_core.specs.declared.event.RwEvent.{RwEvent}
use Rattle.rw_core.specs.declared.reply.RwReply.{RwReply}
use Rattle.rw_core.specs.Edges as rw_lock

-- its caller acquires the mutex, or unlocks it
abbrev pub acquires_mutex : Entry MutexEvent MutexReply → Bool
acquires_mutex x = is_such (λ event reply. mutex.acquires reply) x.deed

abbrev pub unlocks_mutex : Entry MutexEvent MutexReply → Bool
unlocks_mutex x = is_such (λ event reply. mutex.releases reply) x.deed

-- somebody acquires the reader/writer lock. A caller that was granted it or admitted, and hasn't left, isn't counted twice
abbrev pub acquires_lock : Entry RwEvent RwReply → Bool
acquires_lock x = is_such (λ event reply. rw_lock.is_acquired reply) x.deed

-- a writer, or a reader, acquires it on arrival, after waiting at the inner mutex, or by a try
abbrev pub acquires_writing : Entry RwEvent RwReply → Bool
acquires_writing x = is_such (λ event reply. not (rw_lock.is_read event) && rw_lock.is_acquired reply) x.deed

abbrev pub acquires_reading : Entry RwEvent RwReply → Bool
acquires_reading x = is_such (λ event reply. rw_lock.is_read event && rw_lock.is_acquired reply) x.deed

-- a writer's unlock, or a reader's, that isn't a misuse
abbrev pub unlocks_writing : Entry RwEvent RwReply → Bool
unlocks_writing x = is_such (λ event reply. not (rw_lock.is_read event) && rw_lock.is_released reply) x.deed

abbrev pub unlocks_reading : Entry RwEvent RwReply → Bool
unlocks_reading x = is_such (λ event reply. rw_lock.is_read event && rw_lock.is_released reply) x.deed
