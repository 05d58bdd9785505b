use Rattle.std.proofs.Common.{rules, ap, ◌∙◌}
use Rattle.table_rule.specs.declared.view.View.{View}
use Rattle.shared_table.proofs.Noting.{lawful_for}
use Rattle.shared_table.proofs.Payments.{has_unit, next_small}
use Rattle.sync_model.specs.declared.item.SharedCall.TheVariants as calls
use Rattle.sync_model.specs.declared.item.SharedReply.TheVariants as replies
use Rattle.sync_model.specs.Shared.{cost_of}
use Rattle.shared_table.proofs.Timed.{called_by}
use Rattle.shared_table.proofs.table.SharedTable.change_map.Goals as goal

pub make-made-requires-clause-unit : goal.make-made-requires-clause-unit
make-made-requires-clause-unit g c = has_unit c.args.note.now _ c.requires.note.1 c.requires.note.0.unwritten c.requires.call.1 c.requires.spare

pub overflow_add-note : goal.overflow_add-note
overflow_add-note g c =
    let small = next_small c.args.self.now c.args.note.now c.same.result.time c.args.map c.args.call c.make-made.result.reply c.make-made.result.words c.make-made.new.seat.me.0 c.requires.note.0 c.requires.call.1
    (has_unit c.args.note.now _ c.requires.note.1 c.requires.note.0.unwritten c.requires.call.1 c.requires.spare) c.make-made.ensures.made.1.0 c.make-made.ensures.made.1.1 c.make-made.ensures.room in
    search rules

pub returns-clause-lawful : goal.returns-clause-lawful
returns-clause-lawful g c =
    let made = c.make-made.ensures.made.1.1 in
    lawful_for c.args.self.now _ c.make-made.new.seat.me.0 (ap (λ (u : View). u.begin) made.is ∙ c.requires.note.0.begin) made.looks

pub returns-clause-called : goal.returns-clause-called
returns-clause-called g c = called_by c.args.self.now c.args.note.now c.make-made.new.seat.me.0 c.same.result.time c.time_of-note.result.time (calls.Map c.args.map c.args.call) (replies.Map c.make-made.result.reply) (cost_of c.args.call) c.requires.note.0 c.same.ensures c.time_of-note.ensures c.make-made.ensures.made.1.1.called
