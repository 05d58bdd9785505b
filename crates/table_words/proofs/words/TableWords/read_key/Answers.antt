use Rattle.table_words.proofs.Reading.{may_read_key}
use Rattle.table_words.proofs.words.TableWords.read_key.Goals as goal

pub load-requires : goal.load-requires
load-requires c =
    let may = may_read_key c.args.self.now c.args.seat.now.id c.args.seat.now.me c.key_word.result c.args.place c.requires.begin c.requires.entry c.requires.words c.key_word.ensures in
    (c.requires.table, may.0, may.1)
