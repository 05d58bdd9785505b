use Rattle.table_tests.proofs.Walkers.{walking, stands_at}
use Rattle.table_tests.proofs.maps.maps.ranges.shown.Goals as goal

pub next-requires-clause-cursor : goal.next-requires-clause-cursor
next-requires-clause-cursor c =
    let walks = c.requires.walks in
    (walks.1.0, stands_at c.args.table.now c.at.result.table.now c.at.result.number c.args.cursor.now walks.1.0 c.args.caller.now.note c.at.ensures.0 c.at.ensures.1 walks.1.1)

pub returns : goal.returns
returns c =
    let walks = c.requires.walks in
    let stood = stands_at c.args.table.now c.at.result.table.now c.at.result.number c.args.cursor.now walks.1.0 c.args.caller.now.note c.at.ensures.0 c.at.ensures.1 walks.1.1 in
    walking c.args.table.now c.at.result.table.now c.at.result.number c.next.new.self walks.1.0 c.next.new.caller c.at.ensures.0 c.at.ensures.1 c.next.ensures.caller (c.next.ensures.stands walks.1.0 stood)
