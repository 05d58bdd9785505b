use Rattle.std.proofs.Common.{◌≡◌, List, ◌++◌, sym, ap, ◌∙◌, subst}
use Rattle.workload.specs.declared.turn.Turn.{Turn}
use Rattle.step_runner.specs.declared.turns.item.Item.{Item}
use Rattle.step_runner.specs.Outcomes.{rounds}
use Rattle.step_runner.specs.RunItems.{all_made}
use Rattle.step_runner.specs.State.{start}
use Rattle.step_runner.specs.Traces.{items_told, trace_of}
use Rattle.scheduled_record.specs.ItemsOf.{AreItemsOf}
use Rattle.scheduled_record.proofs.RunInRange.{run_in}
use Rattle.scheduled_record.proofs.laws.the_items_of_a_run_are_the_workloads.Goals as goal

pub returns : goal.returns
returns c plan valid =
    let whole = c.a_trace_tells_what_turns_made.ensures.whole plan in
    let turns : List Turn = plan.schedule ++ rounds whole.0 plan.workers in
    let told : items_told (trace_of plan) ≡ all_made plan turns (start plan) = ap items_told whole.1 ∙ c.a_trace_tells_what_turns_made.ensures.items plan turns in
    subst (λ (l : List Item). AreItemsOf plan l) (sym told) (run_in plan (λ worker s of. c.validity.ensures.goes_on plan worker s of) turns (start plan) (c.validity.ensures.begins plan valid))
