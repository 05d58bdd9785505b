use Rattle.std.proofs.Common.{rules, ◌∙◌, sym, subst}
use Rattle.atomic_table.specs.Table.{Joins}
use Rattle.ruled_object.specs.Rule.{Kept}
use Rattle.ruled_object.specs.Steps.{blank, joined}
use Rattle.ruled_object.proofs.Steps.{joins}
use Rattle.ruled_object.proofs.object.Object.take_in.Goals as goal

pub join_seat-requires : goal.join_seat-requires
join_seat-requires g c =
    let m = g.M.Machine in
    let n = g.N.Note in
    let begin = c.args.self.now.table.shared.key in
    let all = c.args.all.now in
    let other = c.args.pass.now.seat in
    let asked = c.requires.pass in
    let is = sym c.replace-seat.ensures.value in (
      search rules,
      search rules,
      search rules,
      search rules,
      subst (λ seat. Joins (Kept m.next m.HALTS m.frees m.takes n.front n.at g.M.Worded.tells g.M.Worded.means begin) all.id all.me.0 seat.id seat.me.0 (joined all.me.0 seat.me.0) blank) is
          (joins m.next m.HALTS m.frees m.takes n.front n.at g.M.Worded.tells g.M.Worded.means begin all.id all.me.0 other.id other.me.0 asked.turn (λ _. c.requires.order ∙ sym asked.number)),
    )
