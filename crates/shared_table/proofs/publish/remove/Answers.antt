use Rattle.table_words.specs.Seats.{begin_of}
use Rattle.shared_table.proofs.Poised.{shown_none}
use Rattle.shared_table.proofs.publish.remove.Goals as goal

pub returns-clause-published : goal.returns-clause-published
returns-clause-published c = shown_none (begin_of c.args.words.now) c.args.seat.now.me c.publish.new.seat.me c.args.call c.args.map c.args.key c.args.node c.args.level c.args._next c.requires.poised c.publish.ensures.published
