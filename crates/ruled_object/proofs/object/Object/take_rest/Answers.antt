use Rattle.std.proofs.Common.{rules, sym, subst}
use Rattle.atomic_table.specs.Table.{Allows}
use Rattle.ruled_object.specs.Rule.{Kept}
use Rattle.ruled_object.specs.Steps.{IfBegun, TakesRest}
use Rattle.ruled_object.proofs.Steps.{takes_rest}
use Rattle.ruled_object.proofs.object.Object.take_rest.Goals as goal

pub swap-requires : goal.swap-requires
swap-requires g c =
    let m = g.M.Machine in
    let n = g.N.Note in
    let begin = c.args.self.now.table.shared.key in
    let seat = c.args.seat.now in
    let all = c.requires.all in (
      search rules,
      search rules,
      subst (λ slots. Allows (Kept m.next m.HALTS m.frees m.takes n.front n.at g.M.Worded.tells g.M.Worded.means begin) slots seat.id seat.me 0 (λ _. 9223372036854775808)
          (λ found after. IfBegun g.K.Origin.begun (λ b. TakesRest m.next m.HALTS m.frees m.takes n.front n.at g.M.Worded.tells g.M.Worded.means b found seat.me after))) (sym c.args.self.now.sized.1)
          (subst (λ told. Allows (Kept m.next m.HALTS m.frees m.takes n.front n.at g.M.Worded.tells g.M.Worded.means begin) 1 seat.id seat.me 0 (λ _. 9223372036854775808)
          (λ found after. IfBegun told (λ b. TakesRest m.next m.HALTS m.frees m.takes n.front n.at g.M.Worded.tells g.M.Worded.means b found seat.me after))) (sym c.requires.begun)
          (takes_rest m.next m.HALTS m.frees m.takes n.front n.at g.M.Worded.tells g.M.Worded.means begin seat.id seat.me c.requires.seat.1 all.0 all.1 all.2 c.args.self.now.callers.1)),
    )

pub returns-clause-takes : goal.returns-clause-takes
returns-clause-takes g c =
    let m = g.M.Machine in
    let n = g.N.Note in
    subst (λ b. IfBegun b (λ begin. TakesRest m.next m.HALTS m.frees m.takes n.front n.at g.M.Worded.tells g.M.Worded.means begin c.swap.result c.args.seat.now.me c.swap.new.seat.me)) c.requires.begun c.swap.ensures.2
