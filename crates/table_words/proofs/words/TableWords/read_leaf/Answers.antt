use Rattle.std.proofs.Common.{Some, sym, ap, ◌∙◌}
use Rattle.table_words.proofs.Reading.{then_keep_value}
use Rattle.table_words.proofs.words.TableWords.read_leaf.Goals as goal

pub load-value-requires : goal.load-value-requires
load-value-requires c =
    let may = then_keep_value c.args.self.now c.read_key-key.new.seat.id c.read_key-key.new.seat.me c.value_word.result c.args.seat.now.me c.read_key-key.ensures.same c.args.place c.requires.begin c.requires.entry c.requires.words c.value_word.ensures in
    (c.read_key-key.ensures.table ∙ c.requires.table, may.0, may.1)

pub returns-clause-leaf : goal.returns-clause-leaf
returns-clause-leaf c =
    let at = c.requires.entry in
    let key = c.read_key-key.ensures.key at.entry at.is in
    let value = c.load-value.ensures.2.1 at.entry (ap (λ m. m.0.leaf) c.read_key-key.ensures.same ∙ at.is) in
    at.is ∙ (λ i. Some (record { place = at.place_is i; key = sym key i; value = sym value i }))
