use Rattle.std.proofs.Common.{length, inl, ap, ◌∙◌}
use Rattle.table_rule.specs.declared.view.View.{View}
use Rattle.table_rule.specs.Walking.{walk_at}
use Rattle.table_words.specs.Seats.{begin_of}
use Rattle.shared_table.proofs.InsideGates.{found_gate}
use Rattle.shared_table.proofs.MapCalls.{ends_entry}
use Rattle.shared_table.proofs.table.SharedTable.descend.Goals as goal

pub look_uncounted-requires-clause-no_load : goal.look_uncounted-requires-clause-no_load
look_uncounted-requires-clause-no_load c = inl (c.args.map, ap (λ (u : View). u.gate) c.loop-level.invariant.at.view ∙ c.requires.writing.gate)

pub read_entry_inside-held-requires-clause-no_load : goal.read_entry_inside-held-requires-clause-no_load
read_entry_inside-held-requires-clause-no_load c = inl (
  c.args.map,
  found_gate c.args.call (walk_at c.args.map c.args.key c.loop-level.node c.loop-level.level (length c.loop-level.seat.me.0.seen)) c.in-Entry.place c.loop-level.seat.me.0 c.look_uncounted.new.seat.me.0 c.in-Entry.ensures.found.1
      ∙ ap (λ (u : View). u.gate) c.loop-level.invariant.at.view ∙ c.requires.writing.gate,
)

pub returns-in-Entry-clause-reached : goal.returns-in-Entry-clause-reached
returns-in-Entry-clause-reached c =
    let left = c.read_entry_inside-held.ensures.left in
    let loop = c.loop-level.invariant in
    let found = c.in-Entry.ensures.found in (
      left.0 ∙ found.0 ∙ loop.at.slots,
      ends_entry (begin_of c.args.self.now.words) c.args.seat.now.me c.args.map c.args.key c.requires.writing c.args.call c.loop-level.seat.me c.look_uncounted.new.seat.me c.loop-level.node c.loop-level.level loop.at found.0
          loop.below c.in-Entry.place c.read_entry_inside-held.result c.read_entry_inside-held.new.seat.me.0 found.1 left.1 c.read_entry_inside-held.ensures.value _ c.at-in-Entry.ensures,
    )
