-- The first workers have their jobs.
use Rattle.std.proofs.Common.{◌≡◌, ◌≤◌, [], length, map, get_or, All}
use Rattle.std.specs.Prelude.{vec_len, vec_capacity}
use Rattle.std.specs.List.{range_with_len}
use Rattle.workload.specs.Keys.{keys_in}
use Rattle.thread_runner.specs.Jobs.{HasRoom}
use Rattle.thread_runner.proofs.hire.hire.Given as goal

abbrev pub invariant-loop-caller : goal.invariant-loop-caller
invariant-loop-caller g l = record {
  count : vec_len l.jobs ≡ length l.yielded;
  within : length l.yielded ≤ l.fn.site.catalog.workload.now.workers;
  numbers : map (λ job. job.worker.number) l.jobs.items ≡ range_with_len 0 (length l.yielded);
  callers : map (λ job. job.caller) l.jobs.items ≡ map (λ pair. pair.0) l.yielded;
  passes : map (λ job. job.passes.items) l.jobs.items ≡ map (λ pair. pair.1.items) l.yielded;
  each : All (λ job. (job.site.now ≡ l.fn.site) × (job.worker.at.home.now ≡ g.S.Shared.home_of l.fn.site.catalog.shared.now) × (job.worker.workers ≡ l.fn.site.catalog.workload.now.workers)
      × HasRoom (length (keys_in l.fn.site.catalog.workload.now.scripts)) (get_or l.fn.site.catalog.workload.now.scripts job.worker.number []) job.room.replies job.room.pairs.items) l.jobs.items;
  capacity : l.fn.site.catalog.workload.now.workers ≤ vec_capacity l.jobs;
}
