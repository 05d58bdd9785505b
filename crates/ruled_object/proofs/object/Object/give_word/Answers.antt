use Rattle.std.proofs.Common.{rules, ◌≡◌, [], sym, subst}
use Rattle.atomic_table.specs.Table.{Allows}
use Rattle.ruled_object.specs.Rule.{Kept}
use Rattle.ruled_object.specs.Steps.{gave}
use Rattle.ruled_object.proofs.Steps.{gives_word}
use Rattle.ruled_object.proofs.object.Object.give_word.Goals as goal

pub store-requires : goal.store-requires
store-requires g c =
    let m = g.M.Machine in
    let n = g.N.Note in
    let begin = c.args.self.now.table.shared.key in
    let seat = c.args.seat.now in
    let entry = g.T.Told.entry in
    let word = c.args.word in
    let may = c.requires.may in (
      search rules,
      search rules,
      subst (λ slots. Allows (Kept m.next m.HALTS m.frees m.takes n.front n.at g.M.Worded.tells g.M.Worded.means begin) slots seat.id seat.me 0 (λ _. word) (λ _ after. after ≡ (gave seat.me.0 entry, []))) (sym c.args.self.now.sized.1)
          (gives_word m.next m.HALTS m.frees m.takes n.front n.at g.M.Worded.tells g.M.Worded.means begin seat.id seat.me entry word may.0 c.requires.seat.1 may.1 c.requires.seat.2 c.requires.free may.2),
    )
