use Rattle.std.proofs.Common.{◌≡◌, List, sym, ap, ◌∙◌}
use Rattle.workload.specs.Plan.{Plan, is_valid}
use Rattle.workload.specs.declared.turn.Turn.{Turn}
use Rattle.std.specs.Prelude.{true, ◌++◌}
use Rattle.step_runner.specs.Computed.{whole_run}
use Rattle.step_runner.specs.Ends.{variables_from}
use Rattle.step_runner.specs.LastWrites.{last_written}
use Rattle.step_runner.specs.Outcomes.{rounds}
use Rattle.step_runner.specs.RunItems.{all_made}
use Rattle.step_runner.specs.State.{State, start}
use Rattle.step_runner.specs.Traces.{trace_of, items_told}
use Rattle.step_runner.specs.Turns.{after_items}
use Rattle.step_runner.proofs.LastWriteLemmas.{objects_end, left_done, none_behind}
use Rattle.step_runner.proofs.laws.variables_end_with_their_last_writes.Goals as goal

-- what the objects hold at the end of any run, by all that its trace tells
held : (c : goal.After-a_trace_tells_what_turns_made) (plan : Plan) → is_valid plan ≡ true → variables_from 0 (whole_run plan).0.objects ≡ last_written (items_told (trace_of plan)) plan.objects
held c plan valid =
    let whole = c.a_trace_tells_what_turns_made.ensures.whole plan in
    let items : List Turn = plan.schedule ++ rounds whole.0 plan.workers in
    let made = all_made plan items (start plan) in
    ap (λ (s : State). variables_from 0 s.objects) whole.2
    ∙ objects_end plan made (after_items plan items (start plan)).objects (c.objects_keep_their_kinds.ensures.kinds plan items valid) (c.objects_come_by_the_items_of_the_run.ensures.always plan items valid)
    ∙ ap (λ told. last_written told plan.objects) (sym (c.a_trace_tells_what_turns_made.ensures.items plan items) ∙ ap items_told (sym whole.1))

pub returns-clause-done : goal.returns-clause-done
returns-clause-done c plan report valid done = left_done plan report done ∙ held c plan valid

pub returns-clause-none : goal.returns-clause-none
returns-clause-none c plan valid none = none_behind plan (whole_run plan) none (λ done. (items_told (trace_of plan), held c plan valid))
