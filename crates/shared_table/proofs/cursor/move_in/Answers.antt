use Rattle.shared_table.proofs.Ranges.{stands_in, words_in, words_down}
use Rattle.shared_table.proofs.cursor.move_in.Goals as goal

pub sweep-requires-clause-cursor : goal.sweep-requires-clause-cursor
sweep-requires-clause-cursor c =
    let ranging = c.requires.cursor in
    (ranging.0, ranging.1.cursor, stands_in c.args.words.now.table.shared.key c.args.seat.now.me ranging.0 c.args.place.now ranging.1 c.node.result c.slot.result c.node.ensures c.slot.ensures.is)

pub sweep-requires-clause-words : goal.sweep-requires-clause-words
sweep-requires-clause-words c =
    let ranging = c.requires.cursor in
    words_in c.args.words.now.table.shared.key c.args.seat.now.me ranging.0 c.args.place.now ranging.1 c.node.result c.node.ensures

pub returns-in-Node-clause-words : goal.returns-in-Node-clause-words
returns-in-Node-clause-words c =
    let ranging = c.requires.cursor in
    words_down c.args.words.now.table.shared.key c.args.seat.now.me ranging.0 c.args.place.now ranging.1 c.go_down.new.self c.sweep.new.seat.me.0 c.in-Node.below c.go_down.ensures.nodes (c.in-Node.ensures.swept.1 ranging.0 ranging.1.cursor.spot)
