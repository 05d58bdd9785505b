-- Which events release and which acquire, of objects of whatever kind: an event that acquires is synchronized after each earlier one on its object that releases.
use Rattle.std.specs.Prelude.{Bool, false}
use Rattle.mutex_core.specs.Edges as mutex
use Rattle.pool_core.specs.Edges as pool
use Rattle.rw_core.specs.Edges as rw
use Rattle.flight_core.specs.FlightEdges as flight
use Rattle.sema_core.specs.SemaEdges as sema
use Rattle.starts_core.specs.StartsEdges as starts
use Rattle.wait_cores.specs.GroupEdges as group
use Rattle.wait_cores.specs.NotifyEdges as notify
use Rattle.wait_cores.specs.OnceEdges as once
use Rattle.run_record.specs.declared.entered.ObjectEvent.{ObjectEvent}
use Rattle.run_record.specs.declared.entered.ObjectEvent.TheVariants as event
use Rattle.run_record.specs.declared.entered.ObjectReply.{ObjectReply}
use Rattle.run_record.specs.declared.entered.ObjectReply.TheVariants as reply

abbrev pub frees : ObjectEvent → ObjectReply → Bool
frees (event.Mutex e) (reply.Mutex r) = mutex.releases r
frees (event.RwMutex e) (reply.RwMutex r) = rw.releases r
frees (event.Cond e) (reply.Cond r) = notify.notify_releases e r
frees (event.WaitGroup e) (reply.WaitGroup r) = group.group_releases e r
frees (event.Once e) (reply.Once r) = once.once_releases e r
frees (event.OnceFunc e) (reply.OnceFunc r) = once.once_releases e r
frees (event.OnceValue e) (reply.OnceValue r) = once.once_releases e r
frees (event.Pool e) (reply.Pool r) = pool.pool_releases e r
frees (event.Sema e) (reply.Sema r) = sema.sema_releases e r
frees (event.Flight e) (reply.Flight r) = flight.flight_releases e r
frees (event.Starts e) (reply.Starts r) = starts.starts_releases e r
frees event reply = false

abbrev pub takes : ObjectEvent → ObjectReply → Bool
takes (event.Mutex e) (reply.Mutex r) = mutex.acquires r
takes (event.RwMutex e) (reply.RwMutex r) = rw.acquires r
takes (event.Cond e) (reply.Cond r) = notify.notify_acquires e r
takes (event.WaitGroup e) (reply.WaitGroup r) = group.group_acquires e r
takes (event.Once e) (reply.Once r) = once.once_acquires e r
takes (event.OnceFunc e) (reply.OnceFunc r) = once.once_acquires e r
takes (event.OnceValue e) (reply.OnceValue r) = once.once_acquires e r
takes (event.Pool e) (reply.Pool r) = pool.pool_acquires e r
takes (event.Sema e) (reply.Sema r) = sema.sema_acquires e r
takes (event.Flight e) (reply.Flight r) = flight.flight_acquires e r
takes (event.Starts e) (reply.Starts r) = starts.starts_acquires e r
takes event reply = false
