use Rattle.std.proofs.Common.{List, ◌++◌, sym, ap, ◌∙◌}
use Rattle.std.specs.Prelude.{slice_get}
use Rattle.step_runner.specs.Outcomes.{rounds}
use Rattle.step_runner.specs.State.{start}
use Rattle.step_runner.specs.declared.trace.TraceItem.{TraceItem}
use Rattle.race_clocks.proofs.Workers.{all_pass, turns_pass}
use Rattle.race_clocks.proofs.laws.turns_are_of_workers.Goals as goal

pub returns : goal.returns
returns c plan n turn valid at =
    let whole = c.a_trace_tells_what_turns_made.ensures.whole plan in
    all_pass plan (plan.schedule ++ rounds whole.0 plan.workers) (start plan) (turns_pass plan whole.0 valid) n turn (ap (λ (trace : List TraceItem). slice_get trace n) (sym whole.1) ∙ at)
