use Rattle.std.proofs.Common.{rules, ap, ◌∙◌}
use Rattle.sync_model.specs.declared.item.SharedCall.TheVariants as calls
use Rattle.sync_model.specs.declared.item.SharedReply.TheVariants as replies
use Rattle.table_rule.specs.declared.view.View.{View}
use Rattle.shared_table.specs.Notes.{own_by}
use Rattle.shared_table.specs.Ranging.{IsCursor}
use Rattle.table_rule.specs.Views.{view_state}
use Rattle.shared_table.proofs.Calling.{note_on}
use Rattle.shared_table.proofs.CursorNotes.{of_holder, holder_of}
use Rattle.shared_table.proofs.Noting.{lawful_for}
use Rattle.shared_table.proofs.Timed.{called_by}
use Rattle.shared_table.proofs.table.SharedTable.next_of_cursor.Goals as goal

pub next-shown-requires-clause-cursor : goal.next-shown-requires-clause-cursor
next-shown-requires-clause-cursor c =
    let is = c.requires.cursor in
    (is.0, is.1, of_holder (IsCursor c.args.self.now.words c.args.cursor.now is.0 is.1) (own_by c.args.note.now) c.requires.note.1 is.2)

pub invariant_of-note : goal.invariant_of-note
invariant_of-note c =
    let is = c.requires.cursor in
    let stepped = c.next-shown.ensures.stepped is.0 is.1 (of_holder (IsCursor c.args.self.now.words c.args.cursor.now is.0 is.1) (own_by c.args.note.now) c.requires.note.1 is.2) in
    let placed = stepped.placed in
    search rules

pub returns-clause-home : goal.returns-clause-home
returns-clause-home c home at_home =
    let is = c.requires.cursor in
    let stepped = c.next-shown.ensures.stepped is.0 is.1 (of_holder (IsCursor c.args.self.now.words c.args.cursor.now is.0 is.1) (own_by c.args.note.now) c.requires.note.1 is.2) in
    note_on home c.args.note.now _ c.same.result.time (calls.Next is.1) (replies.Shown c.next-shown.result) at_home c.next-shown.ensures.table c.next-shown.ensures.slots stepped.placed

pub returns-clause-called : goal.returns-clause-called
returns-clause-called c map begin is =
    let stepped = c.next-shown.ensures.stepped map begin (of_holder (IsCursor c.args.self.now.words c.args.cursor.now map begin) (own_by c.args.note.now) c.requires.note.1 is) in
    called_by c.args.self.now c.args.note.now c.next-shown.new.seat.me.0 c.same.result.time c.time_of-note.result.time (calls.Next begin) (replies.Shown c.next-shown.result) 0 c.requires.note.0 c.same.ensures c.time_of-note.ensures stepped.placed.called

pub returns-clause-stands : goal.returns-clause-stands
returns-clause-stands c map begin is = holder_of (IsCursor c.args.self.now.words c.next-shown.new.self map begin) (view_state c.next-shown.new.seat.me.0).own
    (c.next-shown.ensures.stepped map begin (of_holder (IsCursor c.args.self.now.words c.args.cursor.now map begin) (own_by c.args.note.now) c.requires.note.1 is)).stands

pub returns-clause-lawful : goal.returns-clause-lawful
returns-clause-lawful c =
    let is = c.requires.cursor in
    let stepped = c.next-shown.ensures.stepped is.0 is.1 (of_holder (IsCursor c.args.self.now.words c.args.cursor.now is.0 is.1) (own_by c.args.note.now) c.requires.note.1 is.2) in
    lawful_for c.args.self.now _ c.next-shown.new.seat.me.0 (ap (λ (u : View). u.begin) stepped.placed.is ∙ c.requires.note.0.begin) stepped.placed.looks
