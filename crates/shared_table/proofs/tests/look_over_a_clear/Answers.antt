use Rattle.std.proofs.Common.{refl}
use Rattle.table_rule.specs.Walking.{told_at}
use Rattle.table_words.specs.Seats.{begin_of}
use Rattle.shared_table.proofs.Walks.{free_told, on_way, words_there}
use Rattle.shared_table.proofs.tests.look_over_a_clear.Goals as goal

pub look-requires-clause-way : goal.look-requires-clause-way
look-requires-clause-way g c =
    let e = c.enter-node.ensures.entered in
    on_way (begin_of c.args.table.now.words) (told_at c.first-told.result.time c.args.seat.now.me) (free_told (begin_of c.args.table.now.words) c.args.seat.now.me c.first-told.result.time c.requires.seat.1) 0 c.args.key c.enter-node.new.seat.me c.enter-node.result 0 (record { slots = e.0; view = e.1; words = e.2 })

pub look-requires-clause-call : goal.look-requires-clause-call
look-requires-clause-call g c = (refl, λ own at. tt)

pub look-requires-clause-words : goal.look-requires-clause-words
look-requires-clause-words g c =
    let e = c.enter-node.ensures.entered in
    words_there (begin_of c.args.table.now.words) (told_at c.first-told.result.time c.args.seat.now.me) (free_told (begin_of c.args.table.now.words) c.args.seat.now.me c.first-told.result.time c.requires.seat.1) 0 c.args.key c.enter-node.new.seat.me c.enter-node.result 0 (record { slots = e.0; view = e.1; words = e.2 })
