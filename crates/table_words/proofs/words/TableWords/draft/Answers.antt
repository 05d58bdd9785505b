use Rattle.std.proofs.Common.{refl, ◌+◌, arith}
use Rattle.table_words.proofs.Writes.{draft_within, may_draft, may_draft_zero}
use Rattle.table_words.proofs.words.TableWords.draft.Goals as goal

pub overflow_add-word : goal.overflow_add-word
overflow_add-word c = let has = c.requires.room in let small = draft_within c.args.self.now c.args.seat.now.me has.0 has.1 c.args.next c.args.written has.2 in omega arith

pub load-requires : goal.load-requires
load-requires c =
    let has = c.requires.room in
    let may = may_draft_zero c.args.self.now c.args.seat.now.id c.args.seat.now.me (c.args.next + c.args.written) c.history_laws.ensures has.0 has.1 c.args.next c.args.written has.2 refl in
    (c.requires.table, may.0, may.1)

pub store-requires : goal.store-requires
store-requires c =
    let has = c.requires.room in
    let may = may_draft c.args.self.now c.args.seat.now.id c.args.seat.now.me (c.args.next + c.args.written) c.history_laws.ensures has.0 has.1 c.args.next c.args.written c.args.new has.2 refl in
    (c.requires.table, may.0, may.1)
