use Rattle.std.proofs.Common.{◌<◌, subst, sym, arith}
use Rattle.table_words.proofs.Clears.{may_close}
use Rattle.table_words.proofs.Stepping.{gate_there}
use Rattle.table_words.proofs.words.TableWords.close_as.Goals as goal

pub peek-writers-requires : goal.peek-writers-requires
peek-writers-requires g c = subst (λ n. n < c.args.self.now.table.shared.table_id.words) (sym c.gate_word-word.ensures) (gate_there c.args.self.now c.args.map c.requires.map)

pub compare_exchange-requires : goal.compare_exchange-requires
compare_exchange-requires g c =
    let small = c.if-writers-ge-CLOSED.false in
    let may = may_close c.args.self.now c.args.seat.now.id c.args.seat.now.me c.gate_word-word.result c.history_laws.ensures c.args.map g.W.Way.map g.W.Timed.time c.peek-writers.result c.requires.free c.requires.map (omega arith) c.requires.told c.gate_word-word.ensures in
    (c.requires.table, may.0, may.1)
