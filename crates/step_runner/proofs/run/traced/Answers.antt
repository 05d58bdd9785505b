use Rattle.std.proofs.Common.{List, ap, ◌∙◌}
use Rattle.step_runner.specs.declared.notes.Notes.TheVariants.{All}
use Rattle.step_runner.specs.declared.trace.TraceItem.{TraceItem}
use Rattle.step_runner.specs.Noted.{noted, so_far_of}
use Rattle.step_runner.specs.Traces.{trace_of}
use Rattle.step_runner.proofs.NotedLemmas.{all_from_none}
use Rattle.step_runner.proofs.run.traced.Goals as goal

pub returns-clause-trace : goal.returns-clause-trace
returns-clause-trace c =
    let trace = trace_of c.args.workload.now in
    c.from_items-trace.ensures ∙ c.into_items.ensures
    ∙ ap so_far_of (c.in_ok-outcome.ensures.noted ∙ ap (λ (so_far : List TraceItem). noted trace (All so_far)) c.new.ensures ∙ all_from_none trace)
