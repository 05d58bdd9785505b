use Rattle.std.proofs.Common.{rules, ◌<◌, ◌∷◌, Some, length, ap, sym, ◌∙◌, subst}
use Rattle.std.proofs.lemmas.List.{length-replicate}
use Rattle.atomic_table.specs.Table.{Allows, rest}
use Rattle.ruled_object.specs.Rule.{Kept}
use Rattle.ruled_object.specs.Steps.{made, new_own}
use Rattle.ruled_object.proofs.Steps.{makes}
use Rattle.ruled_object.proofs.object.Object.fill.Goals as goal

pub store-requires : goal.store-requires
store-requires g c =
    let m = g.M.Machine in
    let n = g.N.Note in
    let begin = c.args.self.now.table.shared.key in
    let seat = c.args.seat.now in
    let fresh = c.requires.seat.1 in (
      search rules,
      search rules,
      subst (λ slots. Allows (Kept m.next m.HALTS m.frees m.takes n.front n.at g.M.Worded.tells g.M.Worded.means begin) slots seat.id seat.me 0 (λ _. 9223372036854775808) (λ _. made seat.me)) (sym c.args.self.now.sized.1)
          (makes m.next m.HALTS m.frees m.takes n.front n.at g.M.Worded.tells g.M.Worded.means begin seat.id seat.me (ap (λ me. me.0.stage) fresh) (ap (λ me. me.1) fresh)
          (subst (λ me. 0 < length me.0.owns) (sym fresh) (subst (λ k. 0 < k) (sym (length-replicate begin.callers new_own)) c.args.self.now.callers.1))),
    )

pub give_word-requires-clause-may : goal.give_word-requires-clause-may
give_word-requires-clause-may g c =
    let cell = c.args.cell in
    let is = c.exchange.ensures.3 in
    (cell, ap (λ me. me.1) is ∙ ap (λ me. (0, Some cell) ∷ rest me.1) c.store.ensures.2, search rules)
