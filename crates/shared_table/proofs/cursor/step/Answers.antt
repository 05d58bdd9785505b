use Rattle.std.proofs.Common.{◌∙◌}
use Rattle.shared_table.proofs.Ranges.{ranging_on, steps}
use Rattle.shared_table.specs.Ranging.{moved}
use Rattle.shared_table.proofs.cursor.step.Goals as goal

pub move_on-requires-clause-cursor : goal.move_on-requires-clause-cursor
move_on-requires-clause-cursor c =
    let ranging = c.requires.cursor in (
      moved ranging.0 c.loop-shown.place,
      ranging_on c.args.words.now.table.shared.key c.args.seat.now.me ranging.0 c.args.place.now ranging.1 c.loop-shown.seat.me c.loop-shown.place c.loop-shown.invariant.on,
    )

pub returns-in-Shown-clause-stepped : goal.returns-in-Shown-clause-stepped
returns-in-Shown-clause-stepped c =
    let ranging = c.requires.cursor in (
      c.in-Shown.ensures.moved.0 ∙ c.loop-shown.invariant.on.slots,
      steps c.args.words.now.table.shared.key c.args.seat.now.me ranging.0 c.args.place.now ranging.1 c.loop-shown.seat.me c.loop-shown.place c.loop-shown.invariant.on c.move_on.new.seat.me c.move_on.new.place c.in-Shown.ensures.moved.0 c.in-Shown.shown c.in-Shown.ensures.moved.1,
    )
