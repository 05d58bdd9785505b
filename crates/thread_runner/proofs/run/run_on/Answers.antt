use Rattle.std.proofs.Common.{map, rules}
use Rattle.thread_runner.specs.Dealing.{AreRows}
use Rattle.thread_runner.proofs.run.run_on.Goals as goal

pub outcome_of-requires-clause-gone : goal.outcome_of-requires-clause-gone
outcome_of-requires-clause-gone g c =
    let rows : AreRows g.S.Mark.Note.at (g.S.Shared.home_of c.args.shared.now) c.args.workload.now.workers c.args.objects.now (map (λ row. row.items) c.in_ok-rows.rows.items) = search rules in
    (map (λ row. row.items) c.in_ok-rows.rows.items, c.args.callers.items, rows, c.requires.callers, c.requires.unused, c.in_ok-work_all.ensures.gone)
