use Rattle.std.proofs.Common.{refl, ap, ◌∙◌}
use Rattle.shared_table.proofs.MapCalls.{stands_first, answers_on, answers_alone}
use Rattle.shared_table.proofs.table.SharedTable.make_inside.Goals as goal

pub loop-init : goal.loop-init
loop-init g c = record { table = refl; stands = (c.args.seat.now.me.0.walk, stands_first c.args.seat.now.me c.requires.writing.leaf) }

pub returns-in-Answered-clause-made : goal.returns-in-Answered-clause-made
returns-in-Answered-clause-made g c =
    let stands = c.loop.invariant.stands in
    let reached = c.in-Answered.ensures.reached in (
      reached.0 ∙ ap (λ m. m.1) stands.1,
      answers_on c.args.map c.args.call c.in-Answered.reply 0 c.args.seat.now.me.0 c.loop.seat.me.0 c.descend.new.seat.me.0 stands.0 (ap (λ m. m.0) stands.1)
          (answers_alone c.args.map c.args.call c.in-Answered.reply 0 c.loop.seat.me.0 c.descend.new.seat.me.0 reached.1),
    )
