use Rattle.std.proofs.Common.{Some, length, inl, sym, ap, ◌∙◌}
use Rattle.shared_table.proofs.InsideGates.{held_gate}
use Rattle.table_rule.specs.Writing.{lock_at}
use Rattle.trie_nodes.specs.Paths.{nibble}
use Rattle.table_rule.specs.Walking.{walk_at}
use Rattle.table_words.specs.Seats.{begin_of}
use Rattle.shared_table.proofs.Sights.{unit_pays, sees_below, sees_empty, knows_entry, sees_entry, sight_same}
use Rattle.shared_table.proofs.table.SharedTable.see_held.Goals as goal

pub look_held-requires-clause-call : goal.look_held-requires-clause-call
look_held-requires-clause-call c = (c.requires.call.0, unit_pays c.args.seat.now.me.0.owns c.args._next _ c.requires.unit c.requires.call.1)

pub read_leaf-requires-clause-begin : goal.read_leaf-requires-clause-begin
read_leaf-requires-clause-begin c = (knows_entry (begin_of c.args.self.now.words) c.args.seat.now.me c.look_held.new.seat.me c.args.call c.args.map c.args.key c.args.node c.args.level c.args._next (length c.args.seat.now.me.0.seen) c.requires.stands.0 c.requires.call.0 c.requires.call.1 c.requires.values c.requires.unit c.requires.stands.1 c.in-Entry.place (c.in-Entry.ensures.found.1 (walk_at c.args.map c.args.key c.args.node c.args.level (length c.args.seat.now.me.0.seen)) c.requires.stands.0 c.requires.stands.1.walk c.requires.stands.1.locked)).2

pub read_leaf-requires-clause-entry : goal.read_leaf-requires-clause-entry
read_leaf-requires-clause-entry c = (knows_entry (begin_of c.args.self.now.words) c.args.seat.now.me c.look_held.new.seat.me c.args.call c.args.map c.args.key c.args.node c.args.level c.args._next (length c.args.seat.now.me.0.seen) c.requires.stands.0 c.requires.call.0 c.requires.call.1 c.requires.values c.requires.unit c.requires.stands.1 c.in-Entry.place (c.in-Entry.ensures.found.1 (walk_at c.args.map c.args.key c.args.node c.args.level (length c.args.seat.now.me.0.seen)) c.requires.stands.0 c.requires.stands.1.walk c.requires.stands.1.locked)).0

pub read_leaf-requires-clause-words : goal.read_leaf-requires-clause-words
read_leaf-requires-clause-words c = (knows_entry (begin_of c.args.self.now.words) c.args.seat.now.me c.look_held.new.seat.me c.args.call c.args.map c.args.key c.args.node c.args.level c.args._next (length c.args.seat.now.me.0.seen) c.requires.stands.0 c.requires.call.0 c.requires.call.1 c.requires.values c.requires.unit c.requires.stands.1 c.in-Entry.place (c.in-Entry.ensures.found.1 (walk_at c.args.map c.args.key c.args.node c.args.level (length c.args.seat.now.me.0.seen)) c.requires.stands.0 c.requires.stands.1.walk c.requires.stands.1.locked)).1

pub read_leaf-requires-clause-no_load : goal.read_leaf-requires-clause-no_load
read_leaf-requires-clause-no_load c =
    let w = walk_at c.args.map c.args.key c.args.node c.args.level (length c.args.seat.now.me.0.seen) in
    inl (c.args.map, held_gate c.args.call w (lock_at w c.requires.stands.0) (nibble w.key c.args.seat.now.me.0.begin.seed w.level) c.in-Entry.place c.args.seat.now.me.0 c.look_held.new.seat.me.0 (c.in-Entry.ensures.found.1 w c.requires.stands.0 c.requires.stands.1.walk c.requires.stands.1.locked) ∙ c.requires.stands.1.inside)

pub returns-in-Node-clause-sight : goal.returns-in-Node-clause-sight
returns-in-Node-clause-sight c = (c.in-Node.ensures.found.0, sees_below (begin_of c.args.self.now.words) c.args.seat.now.me c.look_held.new.seat.me c.args.call c.args.map c.args.key c.args.node c.args.level c.args._next (length c.args.seat.now.me.0.seen) c.requires.stands.0 c.requires.call.0 c.requires.call.1 c.requires.values c.requires.unit c.requires.stands.1 c.in-Node.field-0 (c.in-Node.ensures.found.1 (walk_at c.args.map c.args.key c.args.node c.args.level (length c.args.seat.now.me.0.seen)) c.requires.stands.0 c.requires.stands.1.walk c.requires.stands.1.locked))

pub returns-in-Empty-clause-sight : goal.returns-in-Empty-clause-sight
returns-in-Empty-clause-sight c = (c.in-Empty.ensures.found.0, sees_empty (begin_of c.args.self.now.words) c.args.seat.now.me c.look_held.new.seat.me c.args.call c.args.map c.args.key c.args.node c.args.level c.args._next (length c.args.seat.now.me.0.seen) c.requires.stands.0 c.requires.call.0 c.requires.call.1 c.requires.values c.requires.unit c.requires.stands.1 (c.in-Empty.ensures.found.1 (walk_at c.args.map c.args.key c.args.node c.args.level (length c.args.seat.now.me.0.seen)) c.requires.stands.0 c.requires.stands.1.walk c.requires.stands.1.locked))

pub returns-in-Entry-clause-sight : goal.returns-in-Entry-clause-sight
returns-in-Entry-clause-sight c =
    let same = c.read_leaf.ensures.same in (
      ap (λ m. m.1) same ∙ c.in-Entry.ensures.found.0,
      sight_same (begin_of c.args.self.now.words) c.args.call c.args.map c.args.key c.args.node c.args.level c.args._next (Some c.read_leaf.result) c.args.seat.now.me.0 c.look_held.new.seat.me.0 c.read_leaf.new.seat.me.0 (sym (ap (λ m. m.0) same))
          (sees_entry (begin_of c.args.self.now.words) c.args.seat.now.me c.look_held.new.seat.me c.args.call c.args.map c.args.key c.args.node c.args.level c.args._next (length c.args.seat.now.me.0.seen) c.requires.stands.0 c.requires.call.0 c.requires.call.1 c.requires.values c.requires.unit c.requires.stands.1 c.in-Entry.place c.read_leaf.result (c.in-Entry.ensures.found.1 (walk_at c.args.map c.args.key c.args.node c.args.level (length c.args.seat.now.me.0.seen)) c.requires.stands.0 c.requires.stands.1.walk c.requires.stands.1.locked) c.read_leaf.ensures.leaf),
    )
