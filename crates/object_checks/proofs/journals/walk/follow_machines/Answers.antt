use Rattle.std.proofs.Common.{◌≡◌, ◌↔◌, ◌∙◌, Bool, true, List, [], sym, subst}
use Rattle.std.proofs.lemmas.Bool.{false≢true}
use Rattle.std.proofs.lemmas.Result.{IfOk-weaker}
use Rattle.std.specs.Prelude.{IsTrue}
use Rattle.workload.specs.declared.object.ObjectLine.{ObjectLine}
use Rattle.workload.specs.Readable.{may_declare}
use Rattle.run_record.specs.Journals.{IsStops}
use Rattle.object_checks.specs.JournalItems.{entries_in_row, journals_in}
use Rattle.object_checks.specs.JournalParts.{StartsFollow, FollowMachines}
use Rattle.object_checks.proofs.WalkLemmas.{kind_fits, stops_first, all_follow}
use Rattle.object_checks.proofs.journals.walk.follow_machines.Goals as goal

pub returns-then-not-is_stops : goal.returns-then-not-is_stops
returns-then-not-is_stops c =
    let first = stops_first c.args.workload.now c.args.journals.now (c.is_object_count.ensures.0 c.if-not-is_object_count.false) c.index-journals-0.result c.index-journals-0.is c.as_slice.result.now c.as_slice.ensures in (
      λ yes_. absurd (false≢true yes_),
      λ all. absurd (false≢true (sym c.if-not-is_stops.true ∙ c.is_stops.ensures.1 (subst IsStops (sym first) all.stops))),
    )

pub declared_follow-requires-clause-kinds : goal.declared_follow-requires-clause-kinds
declared_follow-requires-clause-kinds c = kind_fits [] c.objects.result.now (subst (λ (l : List ObjectLine). may_declare [] l ≡ true) (sym c.objects.ensures.objects) c.workers.ensures.readable.objects)

pub returns : goal.returns
returns c =
    let plan = c.args.workload.now in
    let rows = c.args.journals.now in
    let count = c.is_object_count.ensures.0 c.if-not-is_object_count.false in
    let first = stops_first plan rows count c.index-journals-0.result c.index-journals-0.is c.as_slice.result.now c.as_slice.ensures in
    IfOk-weaker c.starts_follow.result (λ (follow : Bool). IsTrue follow ↔ StartsFollow plan (journals_in rows)) (λ (follow : Bool). IsTrue follow ↔ FollowMachines plan (journals_in rows))
    (λ follow starts. (
      λ yes_. all_follow plan rows count (entries_in_row c.as_slice.result.now) first (c.is_stops.ensures.0 c.if-not-is_stops.false)
          c.workers.result c.workers.ensures.workers c.objects.result.now c.objects.ensures.objects (c.in_ok-declared_follow.ensures.0 c.if-not-branch.false)
          (c.in_ok-parts_follow.ensures.0 c.if-not-branch-2.false) (starts.0 yes_),
      λ all. starts.1 all.starts,
    )) c.starts_follow.ensures
