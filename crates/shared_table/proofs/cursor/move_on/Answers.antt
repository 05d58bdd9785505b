use Rattle.std.proofs.Common.{◌≡◌, ◌≢◌, length, ◌∙◌, arith}
use Rattle.trie_nodes.specs.PlaceLists.{slots_of}
use Rattle.trie_nodes.specs.Places.{last_of}
use Rattle.shared_table.proofs.Ranges.{below_root, words_up}
use Rattle.shared_table.proofs.cursor.move_on.Goals as goal

pub rise-requires-clause-cursor : goal.rise-requires-clause-cursor
rise-requires-clause-cursor c =
    let ranging = c.requires.cursor in
    let is = c.slot.ensures.is in
    let to = c.slot.ensures.to in
    let passed = c.if-slot-lt-SLOTS.false in
    let deep = c.depth.ensures in
    let below = c.if-depth-eq1.false in
    let ended : last_of (slots_of c.args.place.now) ≡ 16 = omega arith in
    let many : length (slots_of c.args.place.now) ≢ 1 = λ one. below (deep ∙ one) in
    let up = below_root c.args.words.now.table.shared.key c.args.seat.now.me ranging.0 c.args.place.now ranging.1 ended many in
    (ranging.0, up.0, up.1, up.2, up.3, ranging.1.cursor, up.4, up.5)

pub returns-clause-words : goal.returns-clause-words
returns-clause-words c =
    let ranging = c.requires.cursor in
    words_up c.args.words.now.table.shared.key c.args.seat.now.me ranging.0 c.args.place.now ranging.1 c.go_up.new.self c.go_up.ensures.nodes
