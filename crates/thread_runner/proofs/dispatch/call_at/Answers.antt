use Rattle.std.proofs.lemmas.Option.{IfSome_then}
use Rattle.thread_objects.specs.Passes.{owns_of}
use Rattle.thread_runner.proofs.ByKind.{of_pool, on_map, on_atomic, on_composed, on_pool, on_range}
use Rattle.thread_runner.proofs.ScriptCalls.{key_among}
use Rattle.thread_runner.proofs.Sites.{has_atomics, mutex_of}
use Rattle.std.proofs.Common.{length, refl, subst}
use Rattle.sync_model.specs.Shared.{items_of}
use Rattle.script_calls.specs.declared.call.Operation.{Operation}
use Rattle.workload.specs.declared.object.ObjectKind.{ObjectKind}
use Rattle.thread_objects.specs.Catalog.{IsAt}
use Rattle.thread_runner.specs.Sites.{HasCallAt}
use Rattle.thread_runner.proofs.dispatch.call_at.Goals as goal

pub map_at-requires-clause-key : goal.map_at-requires-clause-key
map_at-requires-clause-key g c = λ name at. c.requires.call.keys name (key_among c.args.operation.now c.in-Map.call name c.in-Map.is at)

pub wait_on-requires-clause-cond : goal.wait_on-requires-clause-cond
wait_on-requires-clause-cond g c = subst (λ (k : ObjectKind). IsAt c.args.site.now.catalog.workload.now c.args.place k) c.in-Cond.is c.requires.call.there

pub wait_on-requires-clause-mutex : goal.wait_on-requires-clause-mutex
wait_on-requires-clause-mutex g c = mutex_of c.args.site.now.catalog.workload.now c.args.kind c.in-Cond.mutex c.in-Cond.is c.requires.call.reference

pub object_at-requires-clause-kind : goal.object_at-requires-clause-kind
object_at-requires-clause-kind g c = c.objects_are_of_their_kinds.ensures.kind c.args.worker.now.at.home.now c.args.site.now.catalog.workload.now c.args.site.now.objects.now c.args.place c.args.kind c.requires.site.site.declared c.requires.call.there

pub object_at-requires-clause-room : goal.object_at-requires-clause-room
object_at-requires-clause-room g c = c.objects_are_of_their_kinds.ensures.there c.args.worker.now.at.home.now c.args.site.now.catalog.workload.now c.args.site.now.objects.now c.args.place c.args.kind c.requires.site.site.declared c.requires.call.there

pub atomic_at-requires-clause-atomics : goal.atomic_at-requires-clause-atomics
atomic_at-requires-clause-atomics g c = has_atomics c.args.site.now.catalog.workload.now _ _ _ _ c.requires.site.site.shared c.requires.site.site.numbered

pub object_at-requires-clause-atomics : goal.object_at-requires-clause-atomics
object_at-requires-clause-atomics g c = has_atomics c.args.site.now.catalog.workload.now _ _ _ _ c.requires.site.site.shared c.requires.site.site.numbered

pub returns-in-Map-clause-works : goal.returns-in-Map-clause-works
returns-in-Map-clause-works g c = on_map c.args.site.now.catalog.workload.now c.args.worker.now.number _ c.args.place _ _ _ c.args.kind c.args.operation.now c.requires.call.has c.in-Map.call c.in-Map.is (c.map_at.ensures.works (owns_of c.args.passes.now))

pub returns-in-Atomic-clause-works : goal.returns-in-Atomic-clause-works
returns-in-Atomic-clause-works g c = on_atomic c.args.site.now.catalog.workload.now c.args.worker.now.number _ c.args.place _ _ _ c.args.kind c.args.operation.now c.requires.call.has c.in-Atomic.call c.in-Atomic.is (c.atomic_at.ensures.works (owns_of c.args.passes.now))

pub returns-in-Composed-clause-works : goal.returns-in-Composed-clause-works
returns-in-Composed-clause-works g c = on_composed c.args.site.now.catalog.workload.now c.args.worker.now.number _ c.args.place _ _ _ c.args.kind c.args.operation.now c.requires.call.has c.in-Composed.call c.in-Composed.is (c.composed_at.ensures.works (length (items_of (g.S.Mark.Note.own c.args.caller.now.note))))

pub returns-in-Range-clause-works : goal.returns-in-Range-clause-works
returns-in-Range-clause-works g c = IfSome_then c.range_at.result c.range_at.ensures.works (λ answer works. on_range c.args.site.now.catalog.workload.now c.args.worker.now.number _ c.args.place _ _ answer c.args.kind c.args.operation.now c.requires.call.has c.in-Range.is (works (owns_of c.args.passes.now)))

pub returns-in-Range-clause-rooms : goal.returns-in-Range-clause-rooms
returns-in-Range-clause-rooms g c = c.take_room.ensures.rooms _ c.requires.rooms

pub pool_at-requires-clause-place : goal.pool_at-requires-clause-place
pool_at-requires-clause-place g c = subst (λ (k : ObjectKind). IsAt c.args.site.now.catalog.workload.now c.args.place k) (of_pool c.args.site.now.catalog.workload.now c.args.kind c.args.operation.now c.in-Pool.call c.requires.call.has c.in-Pool.is) c.requires.call.there

pub returns-in-Pool-clause-works : goal.returns-in-Pool-clause-works
returns-in-Pool-clause-works g c = on_pool c.args.site.now.catalog.workload.now c.args.worker.now.number _ c.args.place _ _ _ c.args.kind c.args.operation.now c.requires.call.has c.in-Pool.call c.args.worker.now.workers _ c.requires.site.counted refl c.in-Pool.is c.pool_at.ensures.works

pub composed_at-requires-clause-call : goal.composed_at-requires-clause-call
composed_at-requires-clause-call g c = subst (λ (o : Operation). HasCallAt c.args.site.now.catalog.workload.now c.args.place c.args.kind o) c.in-Composed.is c.requires.call
