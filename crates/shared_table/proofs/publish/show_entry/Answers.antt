use Rattle.table_words.specs.Seats.{begin_of}
use Rattle.shared_table.proofs.Poised.{second_room, entry_may, entry_told}
use Rattle.shared_table.proofs.publish.show_entry.Goals as goal

pub draft-requires-2-clause-room : goal.draft-requires-2-clause-room
draft-requires-2-clause-room c =
    second_room (begin_of c.args.words.now) c.args.seat.now.me c.draft.new.seat.me c.draft.new.seat.me c.args.call c.args.map c.args.key c.args.node c.args.level c.args.next c.args.value c.requires.poised c.draft.ensures.written.0 c.draft.ensures.written.1

pub publish-requires-clause-may : goal.publish-requires-clause-may
publish-requires-clause-may c =
    entry_may (begin_of c.args.words.now) c.args.seat.now.me c.draft.new.seat.me c.draft-2.new.seat.me c.args.call c.args.map c.args.key c.args.node c.args.level c.args.next c.args.value c.requires.poised c.draft.ensures.written.0 c.draft.ensures.written.1
    c.draft-2.ensures.written.0 c.draft-2.ensures.written.1 c.to_word.result c.requires.after c.requires.free c.to_word.ensures

pub returns-clause-published : goal.returns-clause-published
returns-clause-published c =
    entry_told (begin_of c.args.words.now) c.args.seat.now.me c.draft.new.seat.me c.draft-2.new.seat.me c.args.call c.args.map c.args.key c.args.node c.args.level c.args.next c.args.value c.requires.poised c.draft.ensures.written.0 c.draft.ensures.written.1
    c.draft-2.ensures.written.0 c.draft-2.ensures.written.1 c.publish.new.seat.me c.publish.ensures.published
