use Rattle.std.proofs.Common.{refl, ◌∙◌, arith}
use Rattle.table_words.specs.Seats.{begin_of}
use Rattle.shared_table.proofs.Poised.{may_draft_on, none_drafted, one_drafted}
use Rattle.shared_table.proofs.publish.draft_chain.Goals as goal

pub draft-requires-clause-room : goal.draft-requires-clause-room
draft-requires-clause-room c =
    let chain = c.args.chain.now in
    let has = c.requires.room in
    let within = chain.within in
    let below_root = chain.below_root in
    let test = c.loop-index-test.true in
    may_draft_on (begin_of c.args.words.now) c.args.seat.now.me c.loop-index.seat.me has.0 has.1 chain.unit c.loop-index.index _ has.2 c.loop-index.invariant.drafted (omega arith)

pub loop-index-init : goal.loop-index-init
loop-index-init c = record { table = refl; drafted = let has = c.requires.room in none_drafted (begin_of c.args.words.now) c.args.seat.now.me _ has.0 has.1 c.args.chain.now.unit has.2 }

pub loop-index-preserved : goal.loop-index-preserved
loop-index-preserved c = record {
  table = c.draft.ensures.table ∙ c.loop-index.invariant.table;
  drafted = one_drafted c.args.seat.now.me c.loop-index.seat.me c.draft.new.seat.me c.loop-index.index c.word.result _ c.loop-index.invariant.drafted c.draft.ensures.written.0 c.draft.ensures.written.1 c.word.ensures;
}
