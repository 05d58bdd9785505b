use Rattle.table_words.proofs.Prunes.{may_look_at_slot}
use Rattle.table_words.proofs.words.TableWords.look_at_slot.Goals as goal

pub load-requires : goal.load-requires
load-requires c =
    let may = may_look_at_slot c.args.self.now c.args.seat.now.id c.args.seat.now.me c.slot_word.result c.history_laws.ensures c.args.node c.args.slot c.requires.lock c.requires.words c.requires.slot c.slot_word.ensures in
    (c.requires.table, may.0, may.1)
