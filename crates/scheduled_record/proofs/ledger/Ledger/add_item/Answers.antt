use Rattle.std.proofs.lemmas.Result.{on_ok_weaker}
use Rattle.scheduled_record.proofs.Adding.{item_adds}
use Rattle.scheduled_record.proofs.ledger.Ledger.add_item.Goals as goal

pub returns : goal.returns
returns c = on_ok_weaker c.add_deed.result (λ deeds. item_adds c.args.workload.now c.args.index c.args.item.now c.args.self.now c.add_going.new.self c.add_deed.new.self c.in_ok-add_going.ensures deeds) c.add_deed.ensures
