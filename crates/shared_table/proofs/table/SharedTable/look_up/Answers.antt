use Rattle.std.proofs.Common.{ap, ◌∙◌}
use Rattle.sync_model.specs.declared.item.SharedCall.TheVariants as calls
use Rattle.sync_model.specs.declared.item.SharedReply.TheVariants as replies
use Rattle.sync_types.specs.declared.map_object.MapCall.TheVariants.{Load}
use Rattle.sync_types.specs.declared.map_object.MapReply.TheVariants.{Found}
use Rattle.table_rule.specs.declared.view.View.{View}
use Rattle.shared_table.proofs.Calling.{note_on}
use Rattle.shared_table.proofs.Noting.{lawful_for}
use Rattle.shared_table.proofs.Timed.{called_by}
use Rattle.shared_table.proofs.table.SharedTable.look_up.Goals as goal

pub returns-clause-home : goal.returns-clause-home
returns-clause-home g c home is = note_on home c.args.note.now _ c.same.result.time (calls.Map c.args.map (Load c.args.key)) (replies.Map (Found c.walk-value.result)) is c.walk-value.ensures.table c.walk-value.ensures.called.0 c.walk-value.ensures.called.1

pub returns-clause-lawful : goal.returns-clause-lawful
returns-clause-lawful g c =
    let placed = c.walk-value.ensures.called.1 in
    lawful_for c.args.self.now _ c.walk-value.new.seat.me.0 (ap (λ (u : View). u.begin) placed.is ∙ c.requires.note.0.begin) placed.looks

pub returns-clause-called : goal.returns-clause-called
returns-clause-called g c = called_by c.args.self.now c.args.note.now c.walk-value.new.seat.me.0 c.same.result.time c.time_of-note.result.time (calls.Map c.args.map (Load c.args.key)) (replies.Map (Found c.walk-value.result)) 0 c.requires.note.0 c.same.ensures c.time_of-note.ensures c.walk-value.ensures.called.1.called
