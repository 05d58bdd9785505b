use Rattle.std.proofs.Common.{◌∙◌}
use Rattle.table_words.proofs.Reading.{then_read_value}
use Rattle.table_words.proofs.words.TableWords.read_both.Goals as goal

pub load-value-requires : goal.load-value-requires
load-value-requires c =
    let may = then_read_value c.args.self.now c.read_key-key.new.seat.id c.read_key-key.new.seat.me c.value_word.result c.args.seat.now.me c.read_key-key.ensures.same c.args.place c.requires.begin c.requires.entry c.requires.words c.value_word.ensures in
    (c.read_key-key.ensures.table ∙ c.requires.table, may.0, may.1)
