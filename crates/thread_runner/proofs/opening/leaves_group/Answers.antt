use Rattle.std.proofs.Common.{sym, ◌∙◌}
use Rattle.workload.specs.declared.object.ObjectKind.TheVariants as kinds
use Rattle.thread_runner.proofs.StartedUnder.{group_at_place}
use Rattle.thread_runner.proofs.WholeLines.{under_group, under_none, without_group}
use Rattle.thread_runner.proofs.Working.{keeps}
use Rattle.thread_runner.proofs.opening.leaves_group.Goals as goal

pub returns-then-not-is_dormant-clause-works : goal.returns-then-not-is_dormant-clause-works
returns-then-not-is_dormant-clause-works g c = without_group c.args.site.now.catalog.workload.now c.args.worker.now.number c.moves.ensures.none _ (sym c.is_dormant.ensures.dormant ∙ c.if-not-is_dormant.true)

pub returns-in-None-clause-works : goal.returns-in-None-clause-works
returns-in-None-clause-works g c =
    under_none c.args.site.now.catalog.workload.now c.args.worker.now.number c.moves.ensures.none _ c.group_of.result (sym c.is_dormant.ensures.dormant ∙ c.if-not-is_dormant.false) c.group_of.ensures c.in-None.is

pub done_at-requires-clause-group : goal.done_at-requires-clause-group
done_at-requires-clause-group g c =
    let plan = c.args.site.now.catalog.workload.now in
    let at = group_at_place plan c.args.worker.now.number c.in-Some.place c.who_starts_whom.ensures.found c.is_dormant.ensures.valid (sym c.group_of.ensures ∙ c.in-Some.is) in
    c.objects_are_of_their_kinds.ensures.kind c.args.worker.now.at.home.now plan c.args.site.now.objects.now c.in-Some.place (kinds.WaitGroup at.0) c.requires.declared at.1

pub done_at-requires-clause-room : goal.done_at-requires-clause-room
done_at-requires-clause-room g c =
    let plan = c.args.site.now.catalog.workload.now in
    let at = group_at_place plan c.args.worker.now.number c.in-Some.place c.who_starts_whom.ensures.found c.is_dormant.ensures.valid (sym c.group_of.ensures ∙ c.in-Some.is) in
    c.objects_are_of_their_kinds.ensures.there c.args.worker.now.at.home.now plan c.args.site.now.objects.now c.in-Some.place (kinds.WaitGroup at.0) c.requires.declared at.1

pub returns-in-Some-clause-works : goal.returns-in-Some-clause-works
returns-in-Some-clause-works g c =
    under_group c.args.site.now.catalog.workload.now c.args.worker.now.number _ _ c.done_at.result c.group_of.result c.in-Some.place (sym c.is_dormant.ensures.dormant ∙ c.if-not-is_dormant.false) c.group_of.ensures c.in-Some.is c.done_at.ensures.works
