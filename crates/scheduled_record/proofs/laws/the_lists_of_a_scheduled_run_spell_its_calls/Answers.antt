use Rattle.std.proofs.Common.{◌≡◌, ℕ, ◌<◌, true, false, List, ◌++◌, Some, None, sym, ap, ◌∙◌}
use Rattle.script_calls.specs.declared.call.Call.{Call}
use Rattle.script_calls.specs.declared.outcome.Outcome.TheVariants as outcomes
use Rattle.script_calls.specs.declared.outcome.Report.{Report}
use Rattle.workload.specs.declared.turn.Turn.{Turn}
use Rattle.kept_record.specs.Acts.{AreActsOf}
use Rattle.step_runner.specs.declared.turns.item.Item.{Item}
use Rattle.step_runner.specs.Ends.{numbered}
use Rattle.step_runner.specs.Outcomes.{rounds, is_misused}
use Rattle.step_runner.specs.RunItems.{all_made}
use Rattle.step_runner.specs.State.{State, start}
use Rattle.step_runner.specs.Traces.{items_told, trace_of}
use Rattle.step_runner.specs.Turns.{items_of, after_items, has_ended}
use Rattle.scheduled_record.specs.RunActs.{run_acts}
use Rattle.scheduled_record.proofs.RunEnds.{ends_in, none_met, nobody_stands}
use Rattle.scheduled_record.proofs.RunInRange.{is_worker, scripts_count}
use Rattle.scheduled_record.proofs.RunLines.{FallsAt, at_the_end, lines_are}
use Rattle.scheduled_record.proofs.laws.the_lists_of_a_scheduled_run_spell_its_calls.Goals as goal

no_call : {call : Call} → None ≡ Some call → ⊥
no_call same = cc

pub returns : goal.returns
returns c plan report valid plain done =
    let whole = c.a_trace_tells_what_turns_made.ensures.whole plan in
    let list : List Turn = plan.schedule ++ rounds whole.0 plan.workers in
    let s : State = after_items plan list (start plan) in
    let items : List Item = items_told (trace_of plan) in
    let told : items ≡ all_made plan list (start plan) = ap items_told whole.1 ∙ c.a_trace_tells_what_turns_made.ensures.items plan list in
    let ends = ends_in plan report ((c.each_run_has_one_outcome.ensures.exact plan (outcomes.Done report) valid).1 done) in
    let over : has_ended plan s ≡ true = ap (has_ended plan) (sym whole.2) ∙ ends.over in
    let of = c.validity.ensures.always plan list valid in
    let met : is_misused (items_of plan list (start plan)).1 ≡ false =
    none_met plan list (start plan) (λ stands. absurd (no_call (sym (nobody_stands plan s stands.worker over (is_worker plan s of stands.worker stands.call stands.next)) ∙ stands.next))) in
    let all : AreActsOf plan (run_acts plan (trace_of plan)) = c.the_acts_of_a_run_are_the_workloads.ensures plan valid in
    let falls : (w : ℕ) → w < plan.workers → FallsAt plan items s.replies w = λ w within.
    (let line = c.the_items_of_each_call_spell_it.ensures.always plan list w valid plain in
    at_the_end plan items (all_made plan list (start plan)) s.replies w told line
    (over, nobody_stands plan s w over within, c.a_misuse_is_met_by_its_worker.ensures.none plan list w met)) in
    lines_are plan items s.replies of.workers (scripts_count plan valid) falls
    (λ w line made is alike. c.a_list_spells_the_same_whatever_its_places_and_fronts.ensures plan w line made is alike)
    (λ w. c.a_record_has_what_was_made.ensures.alike plan (run_acts plan (trace_of plan)) w all)
    (λ w. c.a_record_has_what_was_made.ensures.lists plan (run_acts plan (trace_of plan)) w all)
    report (ap (λ (r : Report). r.replies) ends.leaves ∙ ap (λ (t : State). numbered plan t.replies) whole.2)
