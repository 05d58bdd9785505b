use Rattle.workload.specs.declared.object.ObjectKind.TheVariants as kinds
use Rattle.thread_runner.proofs.dispatch.wait_on.Goals as goal

pub wait_at-requires-clause-cond : goal.wait_at-requires-clause-cond
wait_at-requires-clause-cond g c = c.objects_are_of_their_kinds.ensures.kind c.args.worker.now.at.home.now c.args.site.now.catalog.workload.now c.args.site.now.objects.now c.args.place (kinds.Cond c.args.mutex) c.requires.declared c.requires.cond

pub wait_at-requires-clause-mutex : goal.wait_at-requires-clause-mutex
wait_at-requires-clause-mutex g c = c.objects_are_of_their_kinds.ensures.kind c.args.worker.now.at.home.now c.args.site.now.catalog.workload.now c.args.site.now.objects.now c.args.mutex kinds.Mutex c.requires.declared c.requires.mutex

pub wait_at-requires-clause-room : goal.wait_at-requires-clause-room
wait_at-requires-clause-room g c =
    let there = c.objects_are_of_their_kinds.ensures.there c.args.worker.now.at.home.now c.args.site.now.catalog.workload.now c.args.site.now.objects.now in
    (there c.args.place (kinds.Cond c.args.mutex) c.requires.declared c.requires.cond, there c.args.mutex kinds.Mutex c.requires.declared c.requires.mutex)
