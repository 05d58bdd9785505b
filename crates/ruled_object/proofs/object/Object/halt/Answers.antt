use Rattle.std.proofs.Common.{refl, sym, ap, ◌∙◌}
use Rattle.sync_model.specs.declared.journal.Deed.TheVariants.{Halt}
use Rattle.ruled_object.proofs.Calls.{places}
use Rattle.ruled_object.proofs.object.Object.halt.Goals as goal

pub act_halt-requires-clause-held : goal.act_halt-requires-clause-held
act_halt-requires-clause-held g c =
    let took = c.take_word-word.ensures.takes in
    let lies = took.3.lies in
    (took.1, ap (λ me. me.1) took.2, lies.told ∙ ap g.M.Worded.tells (sym lies.state))

pub give_entry-requires-clause-may : goal.give_entry-requires-clause-may
give_entry-requires-clause-may g c =
    let m = g.M.Machine in
    let n = g.N.Note in
    let pass = c.args.pass.now in
    let took = c.take_word-word.ensures.takes in
    let acts = c.act_halt.ensures.acts in
    let placed = places m.next m.HALTS m.frees m.takes n.front n.at g.M.Worded.tells g.M.Worded.means c.args.self.now.table.shared.key pass _ _ took acts.0 _ (Halt c.args.misuse) _ _ 0 _ acts.2.0 acts.1 (acts.2.2.0 pass.number) acts.2.2.1 refl c.requires.pass.number
    c.requires.pass.one (c.act_halt.ensures.seat.1 ∙ ap (λ me. me.0) took.2) in
    (acts.2.0, acts.2.1, placed.may)

pub returns-clause-entry : goal.returns-clause-entry
returns-clause-entry g c =
    let m = g.M.Machine in
    let n = g.N.Note in
    let pass = c.args.pass.now in
    let took = c.take_word-word.ensures.takes in
    let acts = c.act_halt.ensures.acts in
    let placed = places m.next m.HALTS m.frees m.takes n.front n.at g.M.Worded.tells g.M.Worded.means c.args.self.now.table.shared.key pass _ _ took acts.0 _ (Halt c.args.misuse) _ _ 0 _ acts.2.0 acts.1 (acts.2.2.0 pass.number) acts.2.2.1 refl c.requires.pass.number
    c.requires.pass.one (c.act_halt.ensures.seat.1 ∙ ap (λ me. me.0) took.2) in
    (_, placed.shows record { number = pass.number; left = pass.left; turns = pass.turns; seat = c.give_entry.new.seat } c.give_entry.ensures.gave, refl, refl)
