use Rattle.std.proofs.Common.{◌+◌, ap, refl, ◌∙◌}
use Rattle.table_words.proofs.Prunes.{may_try_upper}
use Rattle.table_words.proofs.words.TableWords.try_upper.Goals as goal

pub compare_exchange-found-requires : goal.compare_exchange-found-requires
compare_exchange-found-requires c =
    let may = may_try_upper c.args.self.now c.args.seat.now.id c.args.seat.now.me c.lock_word-word.result c.history_laws.ensures c.args.parent c.held_word.result c.requires.lock c.requires.words c.lock_word-word.ensures (c.held_word.ensures ∙ ap (λ n. n + 1) c.requires.caller) in
    (c.requires.table, may.0, may.1)

pub peek-requires : goal.peek-requires
peek-requires c = (may_try_upper c.args.self.now c.args.seat.now.id c.args.seat.now.me c.lock_word-word.result c.history_laws.ensures c.args.parent (c.args.seat.now.me.0.number + 1) c.requires.lock c.requires.words c.lock_word-word.ensures refl).0
