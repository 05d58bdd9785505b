use Rattle.std.proofs.Common.{slice_get, ap, ◌∙◌}
use Rattle.sync_model.specs.declared.item.SharedCall.TheVariants.{Atomic}
use Rattle.sync_model.specs.declared.item.SharedReply.TheVariants as replies
use Rattle.sync_types.specs.SequentialAtomic.{atomic_reply}
use Rattle.sync_types.specs.WordLayout.{number_in}
use Rattle.table_rule.specs.declared.begin.Begin.{Begin}
use Rattle.table_rule.specs.declared.view.View.{View}
use Rattle.table_rule.specs.WordSteps.{word_after}
use Rattle.shared_table.proofs.Calling.{home_on, operated_on}
use Rattle.shared_table.proofs.Noting.{lawful_for}
use Rattle.shared_table.proofs.Timed.{called_by, at_end_by}
use Rattle.shared_table.proofs.table.SharedTable.operate.Goals as goal

pub returns-clause-home : goal.returns-clause-home
returns-clause-home c = home_on c.args.self.now c.args.note.now _ c.same.result.time c.args.atomic c.args.call (word_after c.args.step) c.operate-found.result c.requires.note.0 c.requires.operation c.operate-found.ensures.table c.operate-found.ensures.operated

pub returns-clause-lawful : goal.returns-clause-lawful
returns-clause-lawful c =
    let placed = (operated_on c.args.self.now c.args.note.now c.same.result.time c.args.atomic c.args.call (word_after c.args.step) c.operate-found.result c.operate-found.new.seat.me c.requires.note.0 c.requires.operation c.operate-found.ensures.operated).1 in
    lawful_for c.args.self.now _ c.operate-found.new.seat.me.0 (ap (λ (u : View). u.begin) placed.is ∙ c.requires.note.0.begin) placed.looks

pub returns-clause-called : goal.returns-clause-called
returns-clause-called c kind at =
    let told = c.operate-found.ensures.operated.1 kind (ap (λ (b : Begin). slice_get b.kinds c.args.atomic) c.requires.note.0.begin ∙ at) in (
      told.0,
      called_by c.args.self.now c.args.note.now c.operate-found.new.seat.me.0 c.same.result.time c.time_of-note.result.time (Atomic c.args.atomic c.args.call) (replies.Atomic (atomic_reply c.args.call (number_in kind c.operate-found.result))) 0 c.requires.note.0 c.same.ensures c.time_of-note.ensures told.1.called,
    )

pub returns-clause-last : goal.returns-clause-last
returns-clause-last c =
    at_end_by c.operate-found.new.seat.me.0 c.time_of-note.result.time c.time_of-note.ensures
    (operated_on c.args.self.now c.args.note.now c.same.result.time c.args.atomic c.args.call (word_after c.args.step) c.operate-found.result c.operate-found.new.seat.me c.requires.note.0 c.requires.operation c.operate-found.ensures.operated).2
