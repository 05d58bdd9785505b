use Rattle.sync_types.specs.declared.pool_call.PoolCall.TheVariants.{Put, Get, Sweep}
use Rattle.run_record.specs.PoolKind.{pool_call}
use Rattle.thread_runner.proofs.Working.{part_as, reads}
use Rattle.thread_runner.proofs.pool.call_pool.Goals as goal

pub part_at-requires-clause-kind : goal.part_at-requires-clause-kind
part_at-requires-clause-kind g c = c.requires.parts c.args.worker.now.number c.requires.own

pub returns-in-Put-clause-works : goal.returns-in-Put-clause-works
returns-in-Put-clause-works g c = part_as (pool_call c.args.worker.now.workers c.args.worker.now.number c.args.first) _ (Put c.in-Put.item) _ _ _ c.in-Put.is (reads _ _ _ _ _ _ c.pool_done.ensures c.part_at.ensures.works)

pub returns-in-Get-clause-works : goal.returns-in-Get-clause-works
returns-in-Get-clause-works g c = part_as (pool_call c.args.worker.now.workers c.args.worker.now.number c.args.first) _ Get _ _ _ c.in-Get.is c.get.ensures.works

pub returns-in-Sweep-clause-works : goal.returns-in-Sweep-clause-works
returns-in-Sweep-clause-works g c = part_as (pool_call c.args.worker.now.workers c.args.worker.now.number c.args.first) _ Sweep _ _ _ c.in-Sweep.is c.sweep.ensures.works
