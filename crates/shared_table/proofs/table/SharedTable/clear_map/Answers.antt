use Rattle.std.proofs.Common.{rules, [], ◌∷◌, refl, ap, ◌∙◌}
use Rattle.sync_types.specs.declared.map_object.MapCall.TheVariants.{Clear}
use Rattle.sync_types.specs.declared.map_object.MapReply.TheVariants.{Done}
use Rattle.table_rule.specs.declared.view.View.{View}
use Rattle.shared_table.proofs.Noting.{lawful_for}
use Rattle.shared_table.proofs.Payments.{has_unit, next_small}
use Rattle.sync_model.specs.declared.item.SharedCall.TheVariants as calls
use Rattle.sync_model.specs.declared.item.SharedReply.TheVariants as replies
use Rattle.shared_table.proofs.Timed.{called_by}
use Rattle.shared_table.proofs.table.SharedTable.clear_map.Goals as goal

pub clear-requires-clause-unit : goal.clear-requires-clause-unit
clear-requires-clause-unit g c = has_unit c.args.note.now 1 c.requires.note.1 c.requires.note.0.unwritten refl c.requires.spare

pub overflow_add-note : goal.overflow_add-note
overflow_add-note g c =
    let small = next_small c.args.self.now c.args.note.now c.same.result.time c.args.map Clear Done 18 c.clear.new.seat.me.0 c.requires.note.0 refl
    (has_unit c.args.note.now 1 c.requires.note.1 c.requires.note.0.unwritten refl c.requires.spare) (c.clear.ensures.made.1.0 ∷ []) c.clear.ensures.made.1.2 c.clear.ensures.room in
    search rules

pub returns-clause-lawful : goal.returns-clause-lawful
returns-clause-lawful g c =
    let made = c.clear.ensures.made.1.2 in
    lawful_for c.args.self.now _ c.clear.new.seat.me.0 (ap (λ (u : View). u.begin) made.is ∙ c.requires.note.0.begin) made.looks

pub returns-clause-called : goal.returns-clause-called
returns-clause-called g c = called_by c.args.self.now c.args.note.now c.clear.new.seat.me.0 c.same.result.time c.time_of-note.result.time (calls.Map c.args.map Clear) (replies.Map Done) 1 c.requires.note.0 c.same.ensures c.time_of-note.ensures c.clear.ensures.made.1.2.called
