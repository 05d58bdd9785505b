use Rattle.std.proofs.Common.{sym, ap, ◌∙◌, subst, le_refl}
use Rattle.sync_model.specs.Front.{AtLeast}
use Rattle.table_rule.specs.declared.view.View.{View}
use Rattle.table_rule.specs.Views.{Looks}
use Rattle.shared_table.proofs.Noting.{merged, merged_seen, lawful_for}
use Rattle.shared_table.proofs.table.SharedTable.merge.Goals as goal

pub returns-clause-home : goal.returns-clause-home
returns-clause-home c home is = merged home c.args.note.now c.args.other _ c.join.new.seat.me is c.requires.other.1 (c.look_at_all.ensures.table ∙ c.join.ensures.joined.0) c.join.ensures.joined.1 c.join.ensures.knows.0 c.look_at_all.ensures.looks

pub returns-clause-front : goal.returns-clause-front
returns-clause-front c =
    let knows = subst (λ (u : View). AtLeast u.front c.args.note.now.seat.me.0.front × AtLeast u.front c.args.other.seat.me.0.front) (sym c.look_at_all.ensures.looks.1.is) c.join.ensures.knows in
    ((knows.0, le_refl c.args.note.now.stamp.time), knows.1)

pub returns-clause-seen : goal.returns-clause-seen
returns-clause-seen c = merged_seen c.args.note.now.seat.me.0 c.args.other.seat.me.0 c.look_at_all.new.seat.me.0 (subst (λ m. Looks m.0 c.look_at_all.new.seat.me.0) c.join.ensures.joined.1 c.look_at_all.ensures.looks.1)

pub returns-clause-lawful : goal.returns-clause-lawful
returns-clause-lawful c = lawful_for c.args.self.now _ c.join.new.seat.me.0 (ap (λ m. m.0.begin) c.join.ensures.joined.1 ∙ c.requires.note.begin) c.look_at_all.ensures.looks.1
