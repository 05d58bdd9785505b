use Rattle.std.proofs.Common.{length, sym, ◌∙◌, subst}
use Rattle.shared_table.specs.MapCalls.{MayHaveMade}
use Rattle.table_rule.specs.Walking.{walk_at}
use Rattle.table_rule.specs.Writing.{lock_at}
use Rattle.shared_table.proofs.MapCalls.{made_there}
use Rattle.shared_table.proofs.table.SharedTable.make_at.Goals as goal

pub returns-in-Some-clause-made : goal.returns-in-Some-clause-made
returns-in-Some-clause-made g c =
    let left = c.leave.ensures.left in
    let writer = c.requires.writer.0 in
    let walk = walk_at c.args.map c.args.key c.args.node c.args.level (length c.args.seat.now.me.0.seen) in
    let took = c.if-not-take_lock.ensures.lock walk writer.walk in (
      left.0 ∙ c.in-Some.ensures.slots ∙ c.if-not-take_lock.ensures.slots,
      subst (λ made. MayHaveMade c.args.map c.args.call made c.args.seat.now.me.0 c.leave.new.seat.me.0) (sym c.in-Some.is)
          (made_there c.args.map c.args.call c.args.key c.args.node c.args.level c.in-Some.field-0.reply c.in-Some.field-0.words c.args.seat.now.me.0 c.take_lock.new.seat.me.0 c.make_held-made.new.seat.me.0 c.leave.new.seat.me.0 (lock_at walk took.0) left.1.0
          writer.lock writer.upper took.1 c.in-Some.ensures.made left.1.1),
    )
