use Rattle.shared_table.proofs.Settles.{may_take, all_back, same_calls, same_twice, settled}
use Rattle.shared_table.proofs.table.SharedTable.settle.Goals as goal

pub hand_all_back-requires-clause-each : goal.hand_all_back-requires-clause-each
hand_all_back-requires-clause-each c =
    let g = c.gather-all.ensures in
    may_take c.args.self.now c.args.callers.now c.requires c.gather-all.result.me g.gathered c.look_at_all.new.seat.me.0 c.look_at_all.ensures.looks.1 c.gather-all.new.callers g.callers

pub returns-clause-callers : goal.returns-clause-callers
returns-clause-callers c =
    let g = c.gather-all.ensures in
    all_back c.args.self.now c.args.callers.now c.requires c.gather-all.result.me g.gathered c.look_at_all.new.seat.me.0 c.look_at_all.ensures.looks.1 c.hand_all_back.new.callers (same_twice c.args.callers.now c.gather-all.new.callers c.hand_all_back.new.callers g.callers c.hand_all_back.ensures.callers) c.hand_all_back.ensures.back

pub returns-clause-same : goal.returns-clause-same
returns-clause-same c =
    let g = c.gather-all.ensures in
    same_calls c.args.self.now c.args.callers.now c.requires c.gather-all.result.me g.gathered c.look_at_all.new.seat.me.0 c.look_at_all.ensures.looks.1 c.hand_all_back.new.callers (same_twice c.args.callers.now c.gather-all.new.callers c.hand_all_back.new.callers g.callers c.hand_all_back.ensures.callers) c.hand_all_back.ensures.back

pub returns-clause-settled : goal.returns-clause-settled
returns-clause-settled c =
    let g = c.gather-all.ensures in
    settled c.args.self.now c.args.callers.now c.requires c.gather-all.result.me g.gathered c.look_at_all.new.seat.me.0 c.look_at_all.ensures.looks.1 c.hand_all_back.new.callers (same_twice c.args.callers.now c.gather-all.new.callers c.hand_all_back.new.callers g.callers c.hand_all_back.ensures.callers) c.hand_all_back.ensures.back c.one_more_call_keeps_the_law.ensures.same
