-- An entry of each kind's journal, read back from one of whatever kind.
use Rattle.std.proofs.Common.{◌≡◌, ℕ, ℤ, refl}
use Rattle.flight_core.specs.declared.event.FlightEvent.{FlightEvent}
use Rattle.flight_core.specs.declared.event.FlightReply.{FlightReply}
use Rattle.mutex_core.specs.declared.event.MutexEvent.{MutexEvent}
use Rattle.mutex_core.specs.declared.reply.MutexReply.{MutexReply}
use Rattle.pool_core.specs.declared.pool_event.PoolEvent.{PoolEvent}
use Rattle.pool_core.specs.declared.pool_event.PoolReply.{PoolReply}
use Rattle.rw_core.specs.declared.event.RwEvent.{RwEvent}
use Rattle.rw_core.specs.declared.reply.RwReply.{RwReply}
use Rattle.sema_core.specs.declared.event.SemaEvent.{SemaEvent}
use Rattle.sema_core.specs.declared.event.SemaReply.{SemaReply}
use Rattle.starts_core.specs.declared.starts.StartEvent.{StartEvent}
use Rattle.starts_core.specs.declared.starts.StartReply.{StartReply}
use Rattle.sync_model.specs.declared.journal.Deed.{Deed}
use Rattle.sync_model.specs.declared.journal.Deed.TheVariants.{Event, Refused, Halt}
use Rattle.sync_types.specs.declared.misuse.Misuse.TheVariants.{UnlockOfUnlockedMutex}
use Rattle.wait_cores.specs.declared.group.GroupEvent.{GroupEvent}
use Rattle.wait_cores.specs.declared.group.GroupReply.{GroupReply}
use Rattle.wait_cores.specs.declared.notify.NotifyEvent.{NotifyEvent}
use Rattle.wait_cores.specs.declared.notify.NotifyReply.{NotifyReply}
use Rattle.wait_cores.specs.declared.once.OnceEvent.{OnceEvent}
use Rattle.wait_cores.specs.declared.once.OnceReply.{OnceReply}
use Rattle.run_record.specs.declared.entered.ObjectEvent.{ObjectEvent}
use Rattle.run_record.specs.declared.entered.ObjectEvent.TheVariants as event
use Rattle.run_record.specs.declared.entered.ObjectReply.{ObjectReply}
use Rattle.run_record.specs.declared.entered.ObjectReply.TheVariants as reply
use Rattle.run_record.specs.Parts.{lifted_deed}

abbrev pub mutex_back : Deed ObjectEvent ObjectReply → Deed MutexEvent MutexReply
mutex_back (Event (event.Mutex e) (reply.Mutex r)) = Event e r
mutex_back (Refused (event.Mutex e) misuse) = Refused e misuse
mutex_back (Halt misuse) = Halt misuse
mutex_back deed = Halt UnlockOfUnlockedMutex

pub is_mutex_back : (deed : Deed MutexEvent MutexReply) → mutex_back (lifted_deed event.Mutex reply.Mutex deed) ≡ deed
is_mutex_back (Event e r) = refl
is_mutex_back (Refused e misuse) = refl
is_mutex_back (Halt misuse) = refl

abbrev pub rw_mutex_back : Deed ObjectEvent ObjectReply → Deed RwEvent RwReply
rw_mutex_back (Event (event.RwMutex e) (reply.RwMutex r)) = Event e r
rw_mutex_back (Refused (event.RwMutex e) misuse) = Refused e misuse
rw_mutex_back (Halt misuse) = Halt misuse
rw_mutex_back deed = Halt UnlockOfUnlockedMutex

pub is_rw_mutex_back : (deed : Deed RwEvent RwReply) → rw_mutex_back (lifted_deed event.RwMutex reply.RwMutex deed) ≡ deed
is_rw_mutex_back (Event e r) = refl
is_rw_mutex_back (Refused e misuse) = refl
is_rw_mutex_back (Halt misuse) = refl

abbrev pub cond_back : Deed ObjectEvent ObjectReply → Deed NotifyEvent NotifyReply
cond_back (Event (event.Cond e) (reply.Cond r)) = Event e r
cond_back (Refused (event.Cond e) misuse) = Refused e misuse
cond_back (Halt misuse) = Halt misuse
cond_back deed = Halt UnlockOfUnlockedMutex

pub is_cond_back : (deed : Deed NotifyEvent NotifyReply) → cond_back (lifted_deed event.Cond reply.Cond deed) ≡ deed
is_cond_back (Event e r) = refl
is_cond_back (Refused e misuse) = refl
is_cond_back (Halt misuse) = refl

abbrev pub wait_group_back : Deed ObjectEvent ObjectReply → Deed GroupEvent GroupReply
wait_group_back (Event (event.WaitGroup e) (reply.WaitGroup r)) = Event e r
wait_group_back (Refused (event.WaitGroup e) misuse) = Refused e misuse
wait_group_back (Halt misuse) = Halt misuse
wait_group_back deed = Halt UnlockOfUnlockedMutex

pub is_wait_group_back : (deed : Deed GroupEvent GroupReply) → wait_group_back (lifted_deed event.WaitGroup reply.WaitGroup deed) ≡ deed
is_wait_group_back (Event e r) = refl
is_wait_group_back (Refused e misuse) = refl
is_wait_group_back (Halt misuse) = refl

abbrev pub once_back : Deed ObjectEvent ObjectReply → Deed (OnceEvent ℤ) (OnceReply ℤ)
once_back (Event (event.Once e) (reply.Once r)) = Event e r
once_back (Refused (event.Once e) misuse) = Refused e misuse
once_back (Halt misuse) = Halt misuse
once_back deed = Halt UnlockOfUnlockedMutex

pub is_once_back : (deed : Deed (OnceEvent ℤ) (OnceReply ℤ)) → once_back (lifted_deed event.Once reply.Once deed) ≡ deed
is_once_back (Event e r) = refl
is_once_back (Refused e misuse) = refl
is_once_back (Halt misuse) = refl

abbrev pub once_func_back : Deed ObjectEvent ObjectReply → Deed (OnceEvent ℕ) (OnceReply ℕ)
once_func_back (Event (event.OnceFunc e) (reply.OnceFunc r)) = Event e r
once_func_back (Refused (event.OnceFunc e) misuse) = Refused e misuse
once_func_back (Halt misuse) = Halt misuse
once_func_back deed = Halt UnlockOfUnlockedMutex

pub is_once_func_back : (deed : Deed (OnceEvent ℕ) (OnceReply ℕ)) → once_func_back (lifted_deed event.OnceFunc reply.OnceFunc deed) ≡ deed
is_once_func_back (Event e r) = refl
is_once_func_back (Refused e misuse) = refl
is_once_func_back (Halt misuse) = refl

abbrev pub once_value_back : Deed ObjectEvent ObjectReply → Deed (OnceEvent ℕ) (OnceReply ℕ)
once_value_back (Event (event.OnceValue e) (reply.OnceValue r)) = Event e r
once_value_back (Refused (event.OnceValue e) misuse) = Refused e misuse
once_value_back (Halt misuse) = Halt misuse
once_value_back deed = Halt UnlockOfUnlockedMutex

pub is_once_value_back : (deed : Deed (OnceEvent ℕ) (OnceReply ℕ)) → once_value_back (lifted_deed event.OnceValue reply.OnceValue deed) ≡ deed
is_once_value_back (Event e r) = refl
is_once_value_back (Refused e misuse) = refl
is_once_value_back (Halt misuse) = refl

abbrev pub pool_back : Deed ObjectEvent ObjectReply → Deed (PoolEvent ℕ) (PoolReply ℕ)
pool_back (Event (event.Pool e) (reply.Pool r)) = Event e r
pool_back (Refused (event.Pool e) misuse) = Refused e misuse
pool_back (Halt misuse) = Halt misuse
pool_back deed = Halt UnlockOfUnlockedMutex

pub is_pool_back : (deed : Deed (PoolEvent ℕ) (PoolReply ℕ)) → pool_back (lifted_deed event.Pool reply.Pool deed) ≡ deed
is_pool_back (Event e r) = refl
is_pool_back (Refused e misuse) = refl
is_pool_back (Halt misuse) = refl

abbrev pub sema_back : Deed ObjectEvent ObjectReply → Deed SemaEvent SemaReply
sema_back (Event (event.Sema e) (reply.Sema r)) = Event e r
sema_back (Refused (event.Sema e) misuse) = Refused e misuse
sema_back (Halt misuse) = Halt misuse
sema_back deed = Halt UnlockOfUnlockedMutex

pub is_sema_back : (deed : Deed SemaEvent SemaReply) → sema_back (lifted_deed event.Sema reply.Sema deed) ≡ deed
is_sema_back (Event e r) = refl
is_sema_back (Refused e misuse) = refl
is_sema_back (Halt misuse) = refl

abbrev pub flight_back : Deed ObjectEvent ObjectReply → Deed FlightEvent FlightReply
flight_back (Event (event.Flight e) (reply.Flight r)) = Event e r
flight_back (Refused (event.Flight e) misuse) = Refused e misuse
flight_back (Halt misuse) = Halt misuse
flight_back deed = Halt UnlockOfUnlockedMutex

pub is_flight_back : (deed : Deed FlightEvent FlightReply) → flight_back (lifted_deed event.Flight reply.Flight deed) ≡ deed
is_flight_back (Event e r) = refl
is_flight_back (Refused e misuse) = refl
is_flight_back (Halt misuse) = refl

abbrev pub starts_back : Deed ObjectEvent ObjectReply → Deed StartEvent StartReply
starts_back (Event (event.Starts e) (reply.Starts r)) = Event e r
starts_back (Refused (event.Starts e) misuse) = Refused e misuse
starts_back (Halt misuse) = Halt misuse
starts_back deed = Halt UnlockOfUnlockedMutex

pub is_starts_back : (deed : Deed StartEvent StartReply) → starts_back (lifted_deed event.Starts reply.Starts deed) ≡ deed
is_starts_back (Event e r) = refl
is_starts_back (Refused e misuse) = refl
is_starts_back (Halt misuse) = refl
