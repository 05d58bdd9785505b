use Rattle.table_words.proofs.Writes.{may_go_out}
use Rattle.table_words.proofs.words.TableWords.go_out.Goals as goal

pub fetch_sub-requires : goal.fetch_sub-requires
fetch_sub-requires c = let may = may_go_out c.args.self.now c.args.seat.now.id c.args.seat.now.me c.gate_word-word.result c.history_laws.ensures c.args.map c.requires.inside c.requires.map c.gate_word-word.ensures in (c.requires.table, may.0, may.1)
