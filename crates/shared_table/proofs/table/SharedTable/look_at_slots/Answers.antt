use Rattle.std.proofs.Common.{◌∙◌, arith, refl}
use Rattle.shared_table.proofs.Prunings.{looks_first, looks_lock, looks_words, looks_next, looks_full, looks_all}
use Rattle.shared_table.proofs.table.SharedTable.look_at_slots.Goals as goal

pub loop-slot-init : goal.loop-slot-init
loop-slot-init c = record {
  table = c.read_parent.ensures.table;
  on = looks_first c.args.self.now.words.table.shared.key c.args.seat.now.me c.args.node c.requires.lock _ c.read_parent.result c.read_parent.new.seat.me c.read_parent.ensures.read refl refl;
}

pub look_at_slot-word-requires-clause-lock : goal.look_at_slot-word-requires-clause-lock
look_at_slot-word-requires-clause-lock c = looks_lock c.args.self.now.words.table.shared.key c.args.seat.now.me c.args.node c.requires.lock c.loop-slot.words c.loop-slot.seat.me c.loop-slot.slot c.loop-slot.invariant.on

pub look_at_slot-word-requires-clause-words : goal.look_at_slot-word-requires-clause-words
look_at_slot-word-requires-clause-words c =
    looks_words c.args.self.now.words.table.shared.key c.args.seat.now.me c.args.node c.requires.lock c.loop-slot.words c.loop-slot.seat.me c.loop-slot.slot c.loop-slot.invariant.on c.requires.words

pub returns-then-word-ne0-clause-looked : goal.returns-then-word-ne0-clause-looked
returns-then-word-ne0-clause-looked c =
    looks_full c.args.self.now.words.table.shared.key c.args.seat.now.me c.args.node c.requires.lock c.loop-slot.words c.loop-slot.seat.me c.loop-slot.slot c.loop-slot.invariant.on
    c.look_at_slot-word.result c.look_at_slot-word.new.seat.me c.look_at_slot-word.ensures.looked (let below = c.loop-slot-test.true in omega arith) c.if-word-ne0.true

pub loop-slot-preserved : goal.loop-slot-preserved
loop-slot-preserved c = record {
  table = c.look_at_slot-word.ensures.table ∙ c.loop-slot.invariant.table;
  on = looks_next c.args.self.now.words.table.shared.key c.args.seat.now.me c.args.node c.requires.lock c.loop-slot.words c.loop-slot.seat.me c.loop-slot.slot c.loop-slot.invariant.on
      c.look_at_slot-word.result c.look_at_slot-word.new.seat.me c.look_at_slot-word.ensures.looked (let below = c.loop-slot-test.true in omega arith) c.if-word-ne0.false;
}

pub returns-clause-looked : goal.returns-clause-looked
returns-clause-looked c =
    let past = c.loop-slot-test.false in
    let last = c.loop-slot.auto.slot-end in
    looks_all c.args.seat.now.me c.loop-slot.seat.me c.loop-slot.words c.loop-slot.slot c.loop-slot.invariant.on (omega arith)
