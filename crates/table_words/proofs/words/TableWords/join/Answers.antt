use Rattle.std.proofs.Common.{sym, ap, subst}
use Rattle.sync_model.specs.Front.{AtLeast}
use Rattle.table_rule.specs.declared.view.View.{View}
use Rattle.table_words.proofs.Joining.{some_word}
use Rattle.table_words.proofs.Seats.{joins, most_first, most_second}
use Rattle.table_words.proofs.words.TableWords.join.Goals as goal

pub join_seat-requires : goal.join_seat-requires
join_seat-requires c =
    let table = c.args.self.now in
    let seat = c.args.seat.now in
    let other = c.args.other in (
      c.requires.table.0,
      c.requires.table.1,
      c.requires.idle.1,
      some_word table,
      joins table.table.shared.key c.history_laws.ensures seat.id seat.me.0 other.id other.me.0 c.requires.live.0 c.requires.live.1 c.requires.idle.0 c.requires.next,
    )

pub returns-clause-knows : goal.returns-clause-knows
returns-clause-knows c =
    let v = c.args.seat.now.me.0 in
    let w = c.args.other.me.0 in
    subst (λ (u : View). AtLeast u.front v.front × AtLeast u.front w.front) (sym (ap (λ m. m.0) c.join_seat.ensures.2)) (most_first v.front w.front, most_second v.front w.front)
