use Rattle.std.proofs.Common.{length}
use Rattle.table_rule.specs.Walking.{walk_at}
use Rattle.table_words.proofs.Reading.{may_look_in}
use Rattle.table_words.proofs.words.TableWords.look_as.Goals as goal

pub load-requires : goal.load-requires
load-requires g c =
    let may = may_look_in c.args.self.now c.args.seat.now.id c.args.seat.now.me c.slot_word-word.result c.history_laws.ensures
    (walk_at c.args.map c.args.key c.args.node c.args.level (length c.args.seat.now.me.0.seen)) c.nibble.result g.C.Making.call c.requires.way c.requires.words c.nibble.ensures.is c.nibble.ensures.slot c.slot_word-word.ensures
    c.requires.call.0 c.requires.call.1 in
    (c.requires.table, may.0, may.1)
