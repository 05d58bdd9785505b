use Rattle.go_map.proofs.Callers.{stays}
use Rattle.go_map.proofs.RangeLaw.{keeps_range}
use Rattle.go_map.proofs.Values.{small_shown}
use Rattle.go_map.proofs.cursor.Cursor.next.Goals as goal

pub returns-clause-called : goal.returns-clause-called
returns-clause-called c begin stands = (c.next_of_cursor.ensures.home, c.next_of_cursor.ensures.called c.args.map.now.number begin stands, c.next_of_cursor.ensures.lawful)

pub returns-clause-stands : goal.returns-clause-stands
returns-clause-stands c begin stands = c.next_of_cursor.ensures.stands c.args.map.now.number begin stands

pub returns-clause-range : goal.returns-clause-range
returns-clause-range c begin stands =
    let called = c.next_of_cursor.ensures.called c.args.map.now.number begin stands in
    keeps_range c.args.map.now.table.now c.next_of_cursor.new.cursor c.args.map.now.number begin c.next_of_cursor.new.note called.becomes called.own_new c.next_of_cursor.ensures.lawful
    (c.next_of_cursor.ensures.stands c.args.map.now.number begin stands)

pub returns-clause-caller : goal.returns-clause-caller
returns-clause-caller c = stays c.args.map.now.table.now _ _ _ c.args.caller.now.note c.next_of_cursor.new.note c.requires.caller.0 c.next_of_cursor.ensures.home (c.next_of_cursor.ensures.called c.args.map.now.number c.requires.cursor.0 c.requires.cursor.1)

pub returns-clause-found : goal.returns-clause-found
returns-clause-found c =
    let begin = c.requires.cursor.0 in
    let called = c.next_of_cursor.ensures.called c.args.map.now.number begin c.requires.cursor.1 in
    small_shown c.args.map.now.table.now c.args.map.now.number begin c.next_of_cursor.result c.args.caller.now.note c.next_of_cursor.new.note
    (keeps_range c.args.map.now.table.now c.next_of_cursor.new.cursor c.args.map.now.number begin c.next_of_cursor.new.note called.becomes called.own_new c.next_of_cursor.ensures.lawful
    (c.next_of_cursor.ensures.stands c.args.map.now.number begin c.requires.cursor.1)) called
