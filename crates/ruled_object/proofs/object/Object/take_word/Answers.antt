use Rattle.std.proofs.Common.{rules, ◌≡◌, ◌<◌, [], sym, subst, length, eqb, ◌+◌}
use prog.Atomic.{either}
use Rattle.atomic_table.specs.Table.{Allows}
use Rattle.ruled_object.specs.Rule.{Kept}
use Rattle.ruled_object.specs.Steps.{IfBegun, TakesRest, TakesWord}
use Rattle.ruled_object.proofs.Steps.{takes_word}
use Rattle.ruled_object.proofs.object.Object.take_word.Goals as goal

pub compare_exchange-requires : goal.compare_exchange-requires
compare_exchange-requires g c =
    let m = g.M.Machine in
    let n = g.N.Note in
    let begin = c.args.self.now.table.shared.key in
    let seat = c.loop.seat in
    let word = c.guess-word.result in
    let same = sym c.loop.invariant.unmoved in
    let empty = subst (λ me. me.1 ≡ []) same c.requires.seat.1 in
    let some_own = subst (λ me. 0 < length me.0.owns) same c.requires.seat.2 in (
      search rules,
      search rules,
      subst (λ slots. Allows (Kept m.next m.HALTS m.frees m.takes n.front n.at g.M.Worded.tells g.M.Worded.means begin) slots seat.id seat.me 0 (λ x. either (eqb x word) (word + 9223372036854775808) x)
          (λ found after. IfBegun g.K.Origin.begun (λ b. TakesWord m.next m.HALTS m.frees m.takes n.front n.at g.M.Worded.tells g.M.Worded.means b word seat.me found after))) (sym c.args.self.now.sized.1)
          (subst (λ told. Allows (Kept m.next m.HALTS m.frees m.takes n.front n.at g.M.Worded.tells g.M.Worded.means begin) 1 seat.id seat.me 0 (λ x. either (eqb x word) (word + 9223372036854775808) x)
          (λ found after. IfBegun told (λ b. TakesWord m.next m.HALTS m.frees m.takes n.front n.at g.M.Worded.tells g.M.Worded.means b word seat.me found after))) (sym c.requires.begun)
          (takes_word m.next m.HALTS m.frees m.takes n.front n.at g.M.Worded.tells g.M.Worded.means begin seat.id seat.me word empty some_own c.guess-word.ensures)),
    )

pub returns-then-compare_exchange-word-clause-takes : goal.returns-then-compare_exchange-word-clause-takes
returns-then-compare_exchange-word-clause-takes g c =
    let m = g.M.Machine in
    let n = g.N.Note in
    let me = c.compare_exchange.new.seat.me in
    let told = subst (λ b. IfBegun b (λ begin. TakesWord m.next m.HALTS m.frees m.takes n.front n.at g.M.Worded.tells g.M.Worded.means begin c.guess-word.result c.loop.seat.me c.compare_exchange.result me)) c.requires.begun c.compare_exchange.ensures.2 in
    let is = c.if-compare_exchange-word.true in
    subst (λ before. TakesRest m.next m.HALTS m.frees m.takes n.front n.at g.M.Worded.tells g.M.Worded.means c.args.self.now.table.shared.key c.guess-word.result before me) c.loop.invariant.unmoved
    (subst (λ found. TakesRest m.next m.HALTS m.frees m.takes n.front n.at g.M.Worded.tells g.M.Worded.means c.args.self.now.table.shared.key found c.loop.seat.me me) is (told.0 is))
