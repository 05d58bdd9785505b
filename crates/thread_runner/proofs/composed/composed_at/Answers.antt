use Rattle.std.proofs.Common.{subst}
use Rattle.workload.specs.declared.object.ObjectKind.{ObjectKind}
use Rattle.workload.specs.declared.object.ObjectKind.TheVariants as kinds
use Rattle.thread_objects.specs.Catalog.{IsAt}
use Rattle.thread_objects.specs.Passes.{owns_of}
use Rattle.thread_runner.proofs.ByKind.{awaits_at, go_made, group_here, if_equal_made, some_wait, tested_at, tested_type, wait_for_made}
use Rattle.thread_runner.proofs.Sites.{has_atomics, mutex_of}
use Rattle.thread_runner.proofs.composed.composed_at.Goals as goal

pub if_equal_at-requires-clause-atomics : goal.if_equal_at-requires-clause-atomics
if_equal_at-requires-clause-atomics g c = has_atomics c.args.site.now.catalog.workload.now _ _ _ _ c.requires.site.site.shared c.requires.site.site.numbered

pub if_equal_at-requires-clause-place : goal.if_equal_at-requires-clause-place
if_equal_at-requires-clause-place g c = tested_at c.args.site.now.catalog.workload.now c.args.kind c.args.call c.requires.call.has c.args.place c.in-IfEqual.value _ c.in-IfEqual.is c.requires.call.there

pub returns-in-IfEqual-clause-works : goal.returns-in-IfEqual-clause-works
returns-in-IfEqual-clause-works g c =
    let plan = c.args.site.now.catalog.workload.now in
    let type = tested_type plan c.args.kind c.args.call c.requires.call.has c.in-IfEqual.value _ c.in-IfEqual.is in
    λ before. if_equal_made plan c.args.worker.now.number before c.args.place _ _ _ c.args.kind c.args.call c.in-IfEqual.value _ c.in-IfEqual.is type.0 type.1 (c.if_equal_at.ensures.works (owns_of c.args.passes.now))

pub wait_for_at-requires-clause-cond : goal.wait_for_at-requires-clause-cond
wait_for_at-requires-clause-cond g c = c.objects_are_of_their_kinds.ensures.kind c.args.worker.now.at.home.now c.args.site.now.catalog.workload.now c.args.site.now.objects.now c.args.place (kinds.Cond c.in-Cond.mutex) c.requires.site.site.declared (subst (λ (k : ObjectKind). IsAt c.args.site.now.catalog.workload.now c.args.place k) c.in-Cond.is c.requires.call.there)

pub wait_for_at-requires-clause-mutex : goal.wait_for_at-requires-clause-mutex
wait_for_at-requires-clause-mutex g c = c.objects_are_of_their_kinds.ensures.kind c.args.worker.now.at.home.now c.args.site.now.catalog.workload.now c.args.site.now.objects.now c.in-Cond.mutex kinds.Mutex c.requires.site.site.declared (mutex_of c.args.site.now.catalog.workload.now c.args.kind c.in-Cond.mutex c.in-Cond.is c.requires.call.reference)

pub wait_for_at-requires-clause-room : goal.wait_for_at-requires-clause-room
wait_for_at-requires-clause-room g c = (c.objects_are_of_their_kinds.ensures.there c.args.worker.now.at.home.now c.args.site.now.catalog.workload.now c.args.site.now.objects.now c.args.place c.args.kind c.requires.site.site.declared c.requires.call.there, c.objects_are_of_their_kinds.ensures.there c.args.worker.now.at.home.now c.args.site.now.catalog.workload.now c.args.site.now.objects.now c.in-Cond.mutex kinds.Mutex c.requires.site.site.declared (mutex_of c.args.site.now.catalog.workload.now c.args.kind c.in-Cond.mutex c.in-Cond.is c.requires.call.reference))

pub wait_for_at-requires-clause-atomics : goal.wait_for_at-requires-clause-atomics
wait_for_at-requires-clause-atomics g c = has_atomics c.args.site.now.catalog.workload.now _ _ _ _ c.requires.site.site.shared c.requires.site.site.numbered

pub wait_for_at-requires-clause-atomic : goal.wait_for_at-requires-clause-atomic
wait_for_at-requires-clause-atomic g c = (awaits_at c.args.site.now.catalog.workload.now c.args.kind c.args.call c.requires.call.has c.in-WaitFor.atomic c.in-WaitFor.value c.in-WaitFor.tries c.in-WaitFor.is).1

pub returns-in-Cond-clause-works : goal.returns-in-Cond-clause-works
returns-in-Cond-clause-works g c =
    λ before. wait_for_made c.args.site.now.catalog.workload.now c.args.worker.now.number before c.args.place _ _ _ c.args.kind c.args.call c.in-WaitFor.atomic c.in-WaitFor.value c.in-WaitFor.tries c.in-WaitFor.is c.in-Cond.mutex c.in-Cond.is c.wait_for_at.ensures.works

pub go_at-requires-clause-group : goal.go_at-requires-clause-group
go_at-requires-clause-group g c =
    let plan = c.args.site.now.catalog.workload.now in
    let is = group_here plan c.args.kind c.args.call c.requires.call.has c.in-Go.started c.in-Go.is in
    c.objects_are_of_their_kinds.ensures.kind c.args.worker.now.at.home.now plan c.args.site.now.objects.now c.args.place (kinds.WaitGroup is.0) c.requires.site.site.declared (subst (λ (k : ObjectKind). IsAt plan c.args.place k) is.1 c.requires.call.there)

pub go_at-requires-clause-room : goal.go_at-requires-clause-room
go_at-requires-clause-room g c = c.objects_are_of_their_kinds.ensures.there c.args.worker.now.at.home.now c.args.site.now.catalog.workload.now c.args.site.now.objects.now c.args.place c.args.kind c.requires.site.site.declared c.requires.call.there

pub go_at-requires-clause-dormant : goal.go_at-requires-clause-dormant
go_at-requires-clause-dormant g c = some_wait c.args.site.now.catalog.workload.now c.args.call c.in-Go.started c.in-Go.is c.requires.call.dormant

pub returns-in-Go-clause-works : goal.returns-in-Go-clause-works
returns-in-Go-clause-works g c =
    let plan = c.args.site.now.catalog.workload.now in
    let is = group_here plan c.args.kind c.args.call c.requires.call.has c.in-Go.started c.in-Go.is in
    λ before. go_made plan c.args.worker.now.number before c.args.place _ _ _ c.args.kind c.args.call c.in-Go.started c.in-Go.is is.0 is.1 c.go_at.ensures.works
