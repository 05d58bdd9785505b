use Rattle.std.proofs.Common.{rules, ◌++◌, length, arith, ap, sym, ◌∙◌, subst}
use Rattle.std.proofs.lemmas.List.{append-nil}
use Rattle.sync_model.specs.Journal.{Begins}
use Rattle.ruled_object.specs.Notes.{held_of}
use Rattle.ruled_object.proofs.Holding.{nobody, sees_both, shows_after}
use Rattle.ruled_object.proofs.Steps.{joins}
use Rattle.ruled_object.proofs.object.Object.merge.Goals as goal

pub join_seat-requires : goal.join_seat-requires
join_seat-requires g c =
    let m = g.M.Machine in
    let n = g.N.Note in
    let seat = c.args.pass.now.seat in
    let other = c.args.other.seat in
    let none = ap length (nobody other.me.0.owns c.requires.other.1) in (
      search rules,
      search rules,
      search rules,
      search rules,
      joins m.next m.HALTS m.frees m.takes n.front n.at g.M.Worded.tells g.M.Worded.means c.args.self.now.table.shared.key seat.id seat.me.0 other.id other.me.0 c.requires.other.0.turn (λ some_own. absurd (omega arith)),
    )

pub returns-clause-held : goal.returns-clause-held
returns-clause-held g c =
    let v = c.args.pass.now.seat.me.0 in
    let w = c.args.other.seat.me.0 in
    let is = ap (λ me. me.0.owns) c.look.ensures.looked.1 ∙ ap (λ me. me.0.owns) c.join_seat.ensures.2 in
    ap held_of (is ∙ (ap (λ owns. v.owns ++ owns) (nobody w.owns c.requires.other.1) ∙ append-nil v.owns))

pub returns-clause-seen : goal.returns-clause-seen
returns-clause-seen g c =
    let m = g.M.Machine in
    let n = g.N.Note in
    let found = c.look.ensures.looked in
    let is = ap (λ me. me.0) c.join_seat.ensures.2 in
    let both = sees_both m.next m.HALTS m.frees m.takes n.front n.at g.M.Worded.tells g.M.Worded.means c.args.self.now.table.shared.key c.args.pass.now.seat.me.0 c.args.other.seat.me.0 found.0
    (rw is at found.2) in
    let seen = sym (ap (λ me. me.0.seen) found.1) in
    (subst (λ journal. Begins journal c.args.pass.now.seat.me.0.seen) seen both.0, subst (λ journal. Begins journal c.args.other.seat.me.0.seen) seen both.1)

pub returns-clause-shows : goal.returns-clause-shows
returns-clause-shows g c =
    let m = g.M.Machine in
    let n = g.N.Note in
    let found = c.look.ensures.looked in
    let v = c.join_seat.new.seat.me in
    shows_after m.next m.HALTS m.frees m.takes n.front n.at g.M.Worded.tells g.M.Worded.means c.args.self.now.table.shared.key record { number = c.args.pass.now.number; left = c.args.pass.now.left; turns = c.args.pass.now.turns; seat = c.look.new.seat } v.0 v.1 found.0 found.1
    (ap (λ me. me.0.number) c.join_seat.ensures.2 ∙ c.requires.pass.number) found.2
