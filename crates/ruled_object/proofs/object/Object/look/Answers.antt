use Rattle.std.proofs.Common.{rules, sym, subst}
use Rattle.atomic_table.specs.Table.{Allows}
use Rattle.ruled_object.specs.Looks.{LooksAt}
use Rattle.ruled_object.specs.Rule.{Kept}
use Rattle.ruled_object.specs.Steps.{IfBegun}
use Rattle.ruled_object.proofs.Looking.{looks}
use Rattle.ruled_object.proofs.object.Object.look.Goals as goal

pub load-requires : goal.load-requires
load-requires g c =
    let m = g.M.Machine in
    let n = g.N.Note in
    let begin = c.args.self.now.table.shared.key in
    let seat = c.args.seat.now in (
      search rules,
      search rules,
      subst (λ slots. Allows (Kept m.next m.HALTS m.frees m.takes n.front n.at g.M.Worded.tells g.M.Worded.means begin) slots seat.id seat.me 0 (λ x. x)
          (λ found after. IfBegun g.K.Origin.begun (λ b. LooksAt m.next m.HALTS m.frees m.takes n.front n.at g.M.Worded.tells g.M.Worded.means b seat.me found after))) (sym c.args.self.now.sized.1)
          (subst (λ told. Allows (Kept m.next m.HALTS m.frees m.takes n.front n.at g.M.Worded.tells g.M.Worded.means begin) 1 seat.id seat.me 0 (λ x. x)
          (λ found after. IfBegun told (λ b. LooksAt m.next m.HALTS m.frees m.takes n.front n.at g.M.Worded.tells g.M.Worded.means b seat.me found after))) (sym c.requires.begun)
          (looks m.next m.HALTS m.frees m.takes n.front n.at g.M.Worded.tells g.M.Worded.means begin seat.id seat.me c.requires.seat.1)),
    )

pub returns-clause-looked : goal.returns-clause-looked
returns-clause-looked g c =
    let m = g.M.Machine in
    let n = g.N.Note in
    subst (λ b. IfBegun b (λ begin. LooksAt m.next m.HALTS m.frees m.takes n.front n.at g.M.Worded.tells g.M.Worded.means begin c.args.seat.now.me c.load.result c.load.new.seat.me)) c.requires.begun c.load.ensures.2
