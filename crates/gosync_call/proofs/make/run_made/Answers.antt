use Rattle.std.proofs.Common.{subst}
use Rattle.gosync_call.proofs.Seeds.{IsSummed, left_summed, made_so, summed}
use Rattle.gosync_call.proofs.make.run_made.Goals as goal

pub left_in-requires : goal.left_in-requires
left_in-requires g c =
    let done = summed c.args.seed c.in-Ok.workload c.in-Ok-threaded.outcome c.a_run_of_a_seed_tells_its_summary.ensures c.in-Ok.ensures c.in-Ok-threaded.ensures.explained in
    (done.0, done.1)

pub returns-in-Ok-threaded-clause-made : goal.returns-in-Ok-threaded-clause-made
returns-in-Ok-threaded-clause-made g c =
    let done = summed c.args.seed c.in-Ok.workload c.in-Ok-threaded.outcome c.a_run_of_a_seed_tells_its_summary.ensures c.in-Ok.ensures c.in-Ok-threaded.ensures.explained in
    let left = c.left_in.result.now in
    made_so c.args.seed (g.P.Spawner.ran c.args.spawner.now) (g.P.Spawner.ran c.threaded.new.spawner) (g.O.Sink.contents c.args.out.now) (g.O.Sink.contents c.report_made.new.out)
    c.in-Ok.workload left c.report_made.result c.in-Ok.ensures
    (left_summed c.args.seed left (subst (IsSummed c.args.seed) c.left_in.ensures done)) c.in-Ok-threaded.ensures.ran c.report_made.ensures.written
