use Rattle.go_map.proofs.Callers.{stays}
use Rattle.go_map.proofs.RangeLaw.{begun_by}
use Rattle.go_map.proofs.cursor.Cursor.begin.Goals as goal

pub returns-clause-stands : goal.returns-clause-stands
returns-clause-stands c =
    let called = c.begin_cursor.ensures.called in
    begun_by c.args.map.now.table.now c.begin_cursor.result c.args.map.now.number c.args.caller.now.note c.begin_cursor.new.note called.was called.own_old (c.begin_cursor.ensures.stands called.was called.own_old)

pub returns-clause-caller : goal.returns-clause-caller
returns-clause-caller c = stays c.args.map.now.table.now _ _ _ c.args.caller.now.note c.begin_cursor.new.note c.requires.0 c.begin_cursor.ensures.home c.begin_cursor.ensures.called
