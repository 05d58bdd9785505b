use Rattle.std.proofs.Common.{ap, ◌∙◌}
use Rattle.sync_model.specs.declared.item.SharedCall.TheVariants as calls
use Rattle.sync_model.specs.declared.item.SharedReply.TheVariants as replies
use Rattle.table_rule.specs.declared.view.View.{View}
use Rattle.shared_table.proofs.Calling.{note_on}
use Rattle.shared_table.proofs.Noting.{lawful_for}
use Rattle.shared_table.proofs.Timed.{called_by}
use Rattle.shared_table.proofs.table.SharedTable.begin_cursor.Goals as goal

pub returns-clause-home : goal.returns-clause-home
returns-clause-home c home is = note_on home c.args.note.now _ c.same.result.time (calls.Begin c.args.map) replies.Begun is c.begin-cursor.ensures.table c.begin-cursor.ensures.begun.0 c.begin-cursor.ensures.begun.1.placed

pub returns-clause-lawful : goal.returns-clause-lawful
returns-clause-lawful c =
    let begun = c.begin-cursor.ensures.begun.1 in
    lawful_for c.args.self.now _ c.begin-cursor.new.seat.me.0 (ap (λ (u : View). u.begin) begun.placed.is ∙ c.requires.note.0.begin) begun.placed.looks

pub returns-clause-called : goal.returns-clause-called
returns-clause-called c = called_by c.args.self.now c.args.note.now c.begin-cursor.new.seat.me.0 c.same.result.time c.time_of-note.result.time (calls.Begin c.args.map) replies.Begun 0 c.requires.note.0 c.same.ensures c.time_of-note.ensures c.begin-cursor.ensures.begun.1.placed.called
