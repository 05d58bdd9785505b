use Rattle.std.proofs.Common.{ℕ, ◌≤◌, sym, subst}
use Rattle.workload.specs.declared.limits.TheConstants.{MAX_KEYS}
use Rattle.gosync_call.specs.Headline.{RunsInJobs}
use Rattle.gosync_call.proofs.Runs.{written_so}
use Rattle.gosync_call.proofs.run.run_by_threads.Goals as goal

pub report_run-requires-clause-pairs : goal.report_run-requires-clause-pairs
report_run-requires-clause-pairs g c =
    let explained = c.in-Ok-threaded.ensures.explained in
    c.a_range_shows_no_key_twice.ensures c.args.workload.now explained.0 c.in-Ok-threaded.outcome MAX_KEYS explained.1
    (subst (λ (n : ℕ). n ≤ MAX_KEYS) (sym (c.keys_are_numbered_by_first_appearance.ensures.count c.args.workload.now.scripts)) c.workers-workers.ensures.readable.key_room)

pub returns-in-Ok-threaded-clause-ran : goal.returns-in-Ok-threaded-clause-ran
returns-in-Ok-threaded-clause-ran g c =
    written_so (RunsInJobs (g.P.Spawner.ran c.args.spawner.now) (g.P.Spawner.ran c.threaded.new.spawner)) (g.O.Sink.contents c.args.out.now) (g.O.Sink.contents c.report_run.new.out)
    c.args.workload.now c.in-Ok-threaded.outcome c.report_run.result (c.in-Ok-threaded.ensures.explained, c.in-Ok-threaded.ensures.ran) c.report_run.ensures.written
