use Rattle.std.proofs.Common.{rules, arith, length, ◌≡◌, [], ◌∷◌, ◌++◌, Some, refl, sym, ap, ◌∙◌, subst}
use Rattle.sync_model.specs.Journal.{by, Right}
use Rattle.ruled_object.specs.Cells.{deed_of}
use Rattle.ruled_object.specs.Growth.{IsAlone}
use Rattle.ruled_object.specs.Steps.{counted}
use Rattle.ruled_object.proofs.Calls.{entry, learned, places, sized_turns, still_its}
use Rattle.ruled_object.proofs.Growth.{makes_with, makes_one, needs_none}
use Rattle.ruled_object.proofs.Journals.{never_halted}
use Rattle.ruled_object.proofs.object.Object.call_with.Goals as goal

pub act-answer-requires-clause-held : goal.act-answer-requires-clause-held
act-answer-requires-clause-held g c =
    let took = c.take_for-word.ensures.takes in
    let home = c.requires.home in
    let lies = took.3.lies in
    (took.1, ap (λ me. me.1) took.2, (lies.home c.args.home.now home.0, lies.told ∙ ap g.M.Worded.tells (sym lies.state)))

pub give_entry-requires-clause-may : goal.give_entry-requires-clause-may
give_entry-requires-clause-may g c =
    let m = g.M.Machine in
    let n = g.N.Note in
    let pass = c.args.pass.now in
    let took = c.take_for-word.ensures.takes in
    let acts = c.act-answer.ensures.acts in
    let turns = c.act-answer.ensures.seat.1.0 in
    let placed = places m.next m.HALTS m.frees m.takes n.front n.at g.M.Worded.tells g.M.Worded.means c.args.self.now.table.shared.key pass _ _ took acts.0 _ _ _ _ turns _ acts.2.0 acts.1 acts.2.2.0 acts.2.2.1 c.deed-deed.ensures c.requires.pass.number
    c.requires.pass.one (c.act-answer.ensures.seat.1.1 ∙ ap (λ me. counted turns me.0) took.2) in
    (acts.2.0, acts.2.1, placed.may)

pub give_entry-requires-clause-seat : goal.give_entry-requires-clause-seat
give_entry-requires-clause-seat g c =
    let pass = c.args.pass.now in
    let seat = c.act-answer.ensures.seat in
    let turns = seat.1.0 in
    let view = seat.1.1 ∙ ap (λ me. counted turns me.0) c.take_for-word.ensures.takes.2 in
    let one = ap (λ v. length v.owns) view ∙ (sized_turns turns pass.seat.me.0.owns ∙ c.requires.pass.one) in
    (search rules, ap (λ v. v.stage) view, omega arith)

pub returns-clause-pass : goal.returns-clause-pass
returns-clause-pass g c =
    let seat = c.act-answer.ensures.seat in
    let turns = seat.1.0 in
    let took = c.take_for-word.ensures.takes in
    let new = c.act-answer.new.pass in (
      still_its c.args.self.now c.args.pass.now record { number = new.number; left = new.left; turns = new.turns; seat = c.give_entry.new.seat } took.0 turns new.seat.me.0 _ c.requires.pass (search rules) c.act-answer.ensures.pass.0 c.act-answer.ensures.pass.2
          (seat.1.1 ∙ ap (λ me. counted turns me.0) took.2) c.give_entry.ensures.gave,
      search rules,
    )

pub returns-clause-entry : goal.returns-clause-entry
returns-clause-entry g c =
    let m = g.M.Machine in
    let n = g.N.Note in
    let pass = c.args.pass.now in
    let took = c.take_for-word.ensures.takes in
    let acts = c.act-answer.ensures.acts in
    let new = c.act-answer.new.pass in
    let turns = c.act-answer.ensures.seat.1.0 in
    let placed = places m.next m.HALTS m.frees m.takes n.front n.at g.M.Worded.tells g.M.Worded.means c.args.self.now.table.shared.key pass _ _ took acts.0 _ _ _ _ turns _ acts.2.0 acts.1 acts.2.2.0 acts.2.2.1 c.deed-deed.ensures c.requires.pass.number
    c.requires.pass.one (c.act-answer.ensures.seat.1.1 ∙ ap (λ me. counted turns me.0) took.2) in
    (_, placed.shows record { number = new.number; left = new.left; turns = new.turns; seat = c.give_entry.new.seat } c.give_entry.ensures.gave, c.deed-deed.ensures, refl)

pub returns-clause-makes : goal.returns-clause-makes
returns-clause-makes g c =
    let m = g.M.Machine in
    let n = g.N.Note in
    let pass = c.args.pass.now in
    let begin = c.args.self.now.table.shared.key in
    let took = c.take_for-word.ensures.takes in
    let new = c.act-answer.new.pass in
    let turns = c.act-answer.ensures.seat.1.0 in
    let view = c.act-answer.ensures.seat.1.1 ∙ ap (λ me. counted turns me.0) took.2 in
    let added = returns-clause-entry g c in
    let made = makes_one m.next m.HALTS begin.state m.frees m.takes pass record { number = new.number; left = new.left; turns = new.turns; seat = c.give_entry.new.seat } added.0 c.take_for-word.result.1 c.act-answer.result.0 (n.front c.args.note.now) (n.front c.act-answer.new.note) added.1 c.act-answer.ensures.pass.0 added.2 added.3 c.act-answer.ensures.note.1 in
    let chosen = c.take_for-word.ensures.chosen in
    let learns = learned m.next m.HALTS m.frees m.takes n.front n.at g.M.Worded.tells g.M.Worded.means begin c.take_for-word.result.0 pass.seat.me c.take_for-word.new.seat.me chosen.0 took chosen.1 in
    let e = entry pass.number c.deed-deed.result (n.front c.act-answer.new.note) new.seat.me.0.knew in
    makes_with m.next m.HALTS begin.state (g.K.EventSource.may c.args.source.now) (g.K.EventSource.refused c.args.source.now) pass record { number = new.number; left = new.left; turns = new.turns; seat = c.give_entry.new.seat } took.0 e c.take_for-word.result.1 c.act-answer.result.0 (n.front c.args.note.now) (n.front c.act-answer.new.note) _ _ made
    (ap (λ me. me.0.seen) c.give_entry.ensures.gave ∙ ap (λ v. v.seen ++ e ∷ []) view) learns.lies.halted learns.lies.state chosen.2

pub returns-clause-journal : goal.returns-clause-journal
returns-clause-journal g c = let adds = (returns-clause-entry g c).1 in record { own = adds.all ∙ ap (λ number. by number c.give_entry.new.seat.me.0.seen) (sym c.act-answer.ensures.pass.0); follows = adds.follows; edges = adds.edges; times = adds.times }

pub returns-clause-halts : goal.returns-clause-halts
returns-clause-halts g c never misuse is =
    let m = g.M.Machine in
    let n = g.N.Note in
    let begin = c.args.self.now.table.shared.key in
    let word = c.take_for-word.result.0 in
    let took = c.take_for-word.ensures.takes in
    let acts = c.act-answer.ensures.acts in
    let old = acts.0 in
    let learns = learned m.next m.HALTS m.frees m.takes n.front n.at g.M.Worded.tells g.M.Worded.means begin word c.args.pass.now.seat.me c.take_for-word.new.seat.me old took acts.1 in
    let none = never_halted m.next m.HALTS begin.state took.0 never learns.lawful.follows in
    let right : old.halted ≡ Some misuse = subst (λ r. Right m.next m.HALTS (g.M.Worded.means old.state word) old.halted c.args.pass.now.number (deed_of c.take_for-word.result.1 r)) is acts.2.2.0.right in
    let left = learns.lies.halted in
    (cc)

pub returns-clause-quick : goal.returns-clause-quick
returns-clause-quick g c =
    let m = g.M.Machine in
    let n = g.N.Note in
    let begin = c.args.self.now.table.shared.key in
    let pass = c.args.pass.now in
    let new = c.act-answer.new.pass in
    let word = c.take_for-word.result.0 in
    let took = c.take_for-word.ensures.takes in
    let acts = c.act-answer.ensures.acts in
    let old = acts.0 in
    let learns = learned m.next m.HALTS m.frees m.takes n.front n.at g.M.Worded.tells g.M.Worded.means begin word pass.seat.me c.take_for-word.new.seat.me old took acts.1 in
    let view = c.act-answer.ensures.seat.1.1 ∙ ap (λ me. counted c.act-answer.ensures.seat.1.0 me.0) took.2 in
    let e = entry pass.number c.deed-deed.result (n.front c.act-answer.new.note) new.seat.me.0.knew in
    needs_none m.next m.HALTS g.M.Worded.alone begin.state pass record { number = new.number; left = new.left; turns = new.turns; seat = c.give_entry.new.seat } took.0 e (n.front c.args.note.now) (n.front c.act-answer.new.note)
    (ap (λ me. me.0.seen) c.give_entry.ensures.gave ∙ ap (λ v. v.seen ++ e ∷ []) view)
    (λ alone.
    let at_cell = subst (λ state. IsAlone g.M.Worded.alone state pass.number c.deed-deed.result) (sym learns.lies.state) alone in
    acts.2.2.2 (subst (λ deed. IsAlone g.M.Worded.alone (g.M.Worded.means old.state word) pass.number deed) c.deed-deed.ensures at_cell))
