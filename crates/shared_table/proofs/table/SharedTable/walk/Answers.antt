use Rattle.std.proofs.Common.{refl, ◌∙◌, subst, arith}
use Rattle.table_words.specs.Seats.{begin_of}
use Rattle.table_rule.specs.Walking.{told_at}
use Rattle.shared_table.proofs.Walks.{IsAt, on_way, words_there, goes_on, finds_none, at_entry, finds, free_told}
use Rattle.shared_table.proofs.table.SharedTable.walk.Goals as goal

pub look-requires-clause-way : goal.look-requires-clause-way
look-requires-clause-way g c =
    on_way (begin_of c.args.self.now.words) (told_at c.args.time.time c.args.seat.now.me) (free_told (begin_of c.args.self.now.words) c.args.seat.now.me c.args.time.time c.requires.free) c.args.map c.args.key c.loop-level.seat.me c.loop-level.node c.loop-level.level c.loop-level.invariant.at

pub look-requires-clause-call : goal.look-requires-clause-call
look-requires-clause-call g c = (refl, λ own at. tt)

pub look-requires-clause-words : goal.look-requires-clause-words
look-requires-clause-words g c =
    words_there (begin_of c.args.self.now.words) (told_at c.args.time.time c.args.seat.now.me) (free_told (begin_of c.args.self.now.words) c.args.seat.now.me c.args.time.time c.requires.free) c.args.map c.args.key c.loop-level.seat.me c.loop-level.node c.loop-level.level c.loop-level.invariant.at

pub returns-in-Empty-clause-called : goal.returns-in-Empty-clause-called
returns-in-Empty-clause-called g c =
    finds_none (begin_of c.args.self.now.words) (told_at c.args.time.time c.args.seat.now.me) (free_told (begin_of c.args.self.now.words) c.args.seat.now.me c.args.time.time c.requires.free) c.args.map c.args.key c.loop-level.seat.me c.look.new.seat.me c.loop-level.node c.loop-level.level c.loop-level.invariant.at
    c.in-Empty.ensures.found.0 c.in-Empty.ensures.found.1

pub read_entry-requires-clause-begin : goal.read_entry-requires-clause-begin
read_entry-requires-clause-begin g c =
    (at_entry (begin_of c.args.self.now.words) (told_at c.args.time.time c.args.seat.now.me) (free_told (begin_of c.args.self.now.words) c.args.seat.now.me c.args.time.time c.requires.free) c.args.map c.args.key c.loop-level.seat.me c.look.new.seat.me c.loop-level.node c.loop-level.level c.loop-level.invariant.at
    c.in-Entry.ensures.found.0 c.in-Entry.place c.in-Entry.ensures.found.1).2

pub read_entry-requires-clause-entry : goal.read_entry-requires-clause-entry
read_entry-requires-clause-entry g c =
    (at_entry (begin_of c.args.self.now.words) (told_at c.args.time.time c.args.seat.now.me) (free_told (begin_of c.args.self.now.words) c.args.seat.now.me c.args.time.time c.requires.free) c.args.map c.args.key c.loop-level.seat.me c.look.new.seat.me c.loop-level.node c.loop-level.level c.loop-level.invariant.at
    c.in-Entry.ensures.found.0 c.in-Entry.place c.in-Entry.ensures.found.1).0

pub returns-in-Entry-clause-called : goal.returns-in-Entry-clause-called
returns-in-Entry-clause-called g c =
    finds (begin_of c.args.self.now.words) (told_at c.args.time.time c.args.seat.now.me) (free_told (begin_of c.args.self.now.words) c.args.seat.now.me c.args.time.time c.requires.free) c.args.map c.args.key c.loop-level.seat.me c.look.new.seat.me c.loop-level.node c.loop-level.level c.loop-level.invariant.at
    c.in-Entry.ensures.found.0 c.in-Entry.place c.read_entry.result c.read_entry.new.seat.me c.in-Entry.ensures.found.1 c.read_entry.ensures.left c.read_entry.ensures.value

pub loop-level-preserved : goal.loop-level-preserved
loop-level-preserved g c =
    let one = goes_on (begin_of c.args.self.now.words) (told_at c.args.time.time c.args.seat.now.me) (free_told (begin_of c.args.self.now.words) c.args.seat.now.me c.args.time.time c.requires.free) c.args.map c.args.key c.loop-level.seat.me c.look.new.seat.me c.loop-level.node c.loop-level.level c.loop-level.invariant.at
    c.in-Node.ensures.found.0 c.in-Node.below c.in-Node.ensures.found.1 in
    let more = c.in-Node.ensures.counted in
    let cost = c.loop-level.invariant.cost in
    let below = one.1 in
    record {
      table = c.in-Node.ensures.table ∙ c.loop-level.invariant.table;
      at = subst (IsAt (told_at c.args.time.time c.args.seat.now.me) c.args.map c.args.key c.look.new.seat.me c.in-Node.below) (omega arith) one.0;
      below = omega arith;
      cost = omega arith;
    }
