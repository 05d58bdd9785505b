use Rattle.std.proofs.Common.{refl}
use Rattle.scheduled_record.proofs.Adding.{begun_of, begun_kept}
use Rattle.scheduled_record.proofs.items.new_ledger.Goals as goal

pub returns-clause-of : goal.returns-clause-of
returns-clause-of c = begun_of c.args.workload.now _ c.in_ok-new_workers.ensures c.in_ok-new_journals.ensures c.new.ensures.items

pub returns-clause-kept : goal.returns-clause-kept
returns-clause-kept c = begun_kept c.args.workload.now _ c.in_ok-new_workers.ensures c.in_ok-new_journals.ensures refl c.in_ok-new_maps.ensures c.new.ensures.items
