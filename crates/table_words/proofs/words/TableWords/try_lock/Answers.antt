use Rattle.std.proofs.Common.{◌+◌, ap, refl, ◌∙◌}
use Rattle.table_words.proofs.Writes.{may_try_lock}
use Rattle.table_words.proofs.words.TableWords.try_lock.Goals as goal

pub peek-requires : goal.peek-requires
peek-requires c = (may_try_lock c.args.self.now c.args.seat.now.id c.args.seat.now.me c.lock_word-word.result c.history_laws.ensures c.args.node (c.args.seat.now.me.0.number + 1) c.requires.writer c.requires.words c.lock_word-word.ensures refl).0

pub compare_exchange-found-requires : goal.compare_exchange-found-requires
compare_exchange-found-requires c =
    let may = may_try_lock c.args.self.now c.args.seat.now.id c.args.seat.now.me c.lock_word-word.result c.history_laws.ensures c.args.node c.held_word.result c.requires.writer c.requires.words c.lock_word-word.ensures (c.held_word.ensures ∙ ap (λ n. n + 1) c.requires.caller) in
    (c.requires.table, may.0, may.1)

pub returns-clause-slots : goal.returns-clause-slots
returns-clause-slots c = (c.compare_exchange-found.ensures.2 c.requires.writer.0 c.requires.writer.2.walk).0
