use Rattle.std.proofs.Common.{◌+◌, ◌≡◌, List, ◌++◌, refl, sym, ap, ◌∙◌, subst}
use Rattle.std.proofs.lemmas.Option.{slice_get_within}
use Rattle.workload.specs.declared.turn.Turn.{Turn}
use Rattle.workload.specs.Keys.{keys_in}
use Rattle.workload.specs.Puts.{puts_at}
use Rattle.run_record.specs.Record.{object_number, journal_of}
use Rattle.step_runner.specs.declared.turns.item.Item.{Item}
use Rattle.step_runner.specs.LeadsTo.{on_object, LeadsTo}
use Rattle.step_runner.specs.Objects.{kind_of, new_object}
use Rattle.step_runner.specs.Outcomes.{rounds}
use Rattle.step_runner.specs.RunItems.{all_made}
use Rattle.step_runner.specs.State.{State, start}
use Rattle.step_runner.specs.Traces.{items_told, trace_of}
use Rattle.step_runner.specs.Turns.{after_items}
use Rattle.scheduled_record.specs.RunActs.{run_acts, scheduled_record}
use Rattle.scheduled_record.proofs.Machines.{group_few, journal_by, object_there}
use Rattle.workload.specs.declared.object.ObjectKind.{ObjectKind}
use Rattle.workload.specs.declared.object.ObjectKind.TheVariants as kinds
use Rattle.run_record.specs.Objects.{first_part}
use Rattle.scheduled_record.specs.ItemsOf.{AreItemsOf}
use Rattle.scheduled_record.proofs.OnParts.{of_part}
use Rattle.scheduled_record.proofs.PartJournals.{part_journal}
use Rattle.scheduled_record.proofs.PartLogs.{PartLaws}
use Rattle.scheduled_record.proofs.RunInRange.{run_in}
use Rattle.scheduled_record.proofs.OnObjects.{of_run}
use Rattle.scheduled_record.proofs.laws.the_journals_of_a_scheduled_run_follow_their_machines.Goals as goal

pub returns-clause-objects : goal.returns-clause-objects
returns-clause-objects c plan place object readable at =
    let valid = readable.valid in
    let whole = c.a_trace_tells_what_turns_made.ensures.whole plan in
    let list : List Turn = plan.schedule ++ rounds whole.0 plan.workers in
    let s : State = after_items plan list (start plan) in
    let items : List Item = items_told (trace_of plan) in
    let same : items ≡ all_made plan list (start plan) = ap items_told whole.1 ∙ c.a_trace_tells_what_turns_made.ensures.items plan list in
    let of = c.validity.ensures.always plan list valid in
    let all = c.the_acts_of_a_run_are_the_workloads.ensures plan valid in
    let there = object_there kind_of (λ object. object.kind) s.objects plan.objects place object of.objects at in
    let leads : LeadsTo (new_object plan.workers (puts_at place plan.scripts) (keys_in plan.scripts) object.kind) (on_object place items) there.0 =
    subst (λ (l : List Item). LeadsTo (new_object plan.workers (puts_at place plan.scripts) (keys_in plan.scripts) object.kind) (on_object place l) there.0) (sym same)
    (c.objects_come_by_the_items_of_the_run.ensures.always plan list valid place object there.0 at there.1) in
    journal_by plan place items (journal_of (scheduled_record plan) (object_number place))
    (c.a_record_has_what_was_made.ensures.deeds plan (run_acts plan (trace_of plan)) (object_number place) all ∙ of_run plan place (slice_get_within plan.objects place object at) items)
    (c.the_journals_of_a_scheduled_run_keep_the_edge_law.ensures plan (object_number place) valid)
    plan.workers (puts_at place plan.scripts) (keys_in plan.scripts) refl readable.some_workers object.kind (λ first is. group_few plan readable place first object at is) there.0 leads

abbrev part_laws : goal.After-a_record_has_what_was_made → PartLaws
part_laws c = record {
  one = λ state caller part event own within is has. c.a_pool_is_its_parts.ensures.one state caller part event own within is has;
  others = λ state caller part other event own is apart has. c.a_pool_is_its_parts.ensures.others state caller part other event own is apart has;
  sweep = λ state caller part own within has. c.a_pool_is_its_parts.ensures.sweep state caller part own within has;
  callers = λ state caller callers event first second. c.keeps_its_parts.ensures state caller callers event first second;
}

pub returns-clause-parts : goal.returns-clause-parts
returns-clause-parts c plan place part object valid at is within =
    let whole = c.a_trace_tells_what_turns_made.ensures.whole plan in
    let list : List Turn = plan.schedule ++ rounds whole.0 plan.workers in
    let s : State = after_items plan list (start plan) in
    let items : List Item = items_told (trace_of plan) in
    let same : items ≡ all_made plan list (start plan) = ap items_told whole.1 ∙ c.a_trace_tells_what_turns_made.ensures.items plan list in
    let made : AreItemsOf plan items = subst (λ (l : List Item). AreItemsOf plan l) (sym same) (run_in plan (λ worker s of. c.validity.ensures.goes_on plan worker s of) list (start plan) (c.validity.ensures.begins plan valid)) in
    let of = c.validity.ensures.always plan list valid in
    let all = c.the_acts_of_a_run_are_the_workloads.ensures plan valid in
    let there = object_there kind_of (λ object. object.kind) s.objects plan.objects place object of.objects at in
    let leads : LeadsTo (new_object plan.workers (puts_at place plan.scripts) (keys_in plan.scripts) kinds.Pool) (on_object place items) there.0 =
    subst (λ (kind : ObjectKind). LeadsTo (new_object plan.workers (puts_at place plan.scripts) (keys_in plan.scripts) kind) (on_object place items) there.0) is
    (subst (λ (l : List Item). LeadsTo (new_object plan.workers (puts_at place plan.scripts) (keys_in plan.scripts) object.kind) (on_object place l) there.0) (sym same)
    (c.objects_come_by_the_items_of_the_run.ensures.always plan list valid place object there.0 at there.1)) in
    part_journal (part_laws c) plan place part (puts_at place plan.scripts) within items made (journal_of (scheduled_record plan) (first_part plan place + part))
    (c.a_record_has_what_was_made.ensures.deeds plan (run_acts plan (trace_of plan)) (first_part plan place + part) all
    ∙ of_part plan place part (object, at, is) within
    (λ one another p q first less second few same. c.parts_have_numbers_of_their_own.ensures.apart plan one another p q first.0 second.0 first.1 first.2 less second.1 second.2 few same)
    (λ one p first less. c.parts_have_numbers_of_their_own.ensures.within plan one p first.0 first.1 first.2 less) items made)
    (c.the_journals_of_a_scheduled_run_keep_the_edge_law.ensures plan (first_part plan place + part) valid) (keys_in plan.scripts) there.0 leads
