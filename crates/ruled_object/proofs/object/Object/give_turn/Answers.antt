use Rattle.std.proofs.Common.{rules, ◌≡◌, ◌+◌, ◌%◌, ◌^◌, sym, subst}
use Rattle.atomic_table.specs.Table.{Allows}
use Rattle.ruled_object.specs.Rule.{Kept}
use Rattle.ruled_object.specs.Steps.{raised}
use Rattle.ruled_object.proofs.Steps.{gives_turn}
use Rattle.ruled_object.proofs.object.Object.give_turn.Goals as goal

pub fetch_add-requires : goal.fetch_add-requires
fetch_add-requires g c =
    let m = g.M.Machine in
    let n = g.N.Note in
    let begin = c.args.self.now.table.shared.key in
    let seat = c.args.seat.now in (
      search rules,
      search rules,
      subst (λ slots. Allows (Kept m.next m.HALTS m.frees m.takes n.front n.at g.M.Worded.tells g.M.Worded.means begin) slots seat.id seat.me 1 (λ n. (n + 1) % 2 ^ 64) (λ _ after. after ≡ (raised seat.me.0, seat.me.1))) (sym c.args.self.now.sized.1)
          (gives_turn m.next m.HALTS m.frees m.takes n.front n.at g.M.Worded.tells g.M.Worded.means begin seat.id seat.me c.requires.seat.1 c.requires.seat.2),
    )
