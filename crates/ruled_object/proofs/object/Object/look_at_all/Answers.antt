use Rattle.std.proofs.Common.{rules, None, refl, ap, sym, ◌∙◌, subst}
use Rattle.std.proofs.lemmas.Option.{slice_get_within}
use Rattle.ruled_object.specs.Gathered.{Dealing}
use Rattle.ruled_object.specs.Rule.{Lies}
use Rattle.ruled_object.specs.Steps.{gave, taken}
use Rattle.ruled_object.proofs.Calls.{learned}
use Rattle.ruled_object.proofs.Gathering.{dealing_all, whole}
use Rattle.ruled_object.proofs.object.Object.look_at_all.Goals as goal

pub halted_in-halted-requires-clause-held : goal.halted_in-halted-requires-clause-held
halted_in-halted-requires-clause-held g c = let took = c.take_rest-word.ensures.takes in (took.1, ap (λ me. me.1) took.2, tt)

pub give_word-requires-clause-may : goal.give_word-requires-clause-may
give_word-requires-clause-may g c =
    let m = g.M.Machine in
    let n = g.N.Note in
    let begin = c.args.self.now.table.shared.key in
    let took = c.take_rest-word.ensures.takes in
    let same = c.halted_in-halted.ensures.seat.1 ∙ took.2 in
    (took.1, ap (λ me. me.1) same, subst (λ me. Lies m.next m.HALTS m.frees m.takes n.front n.at g.M.Worded.tells g.M.Worded.means begin me.0.seen c.take_rest-word.result took.1) (sym same) took.3.lies)

pub returns : goal.returns
returns g c passes brought all =
    let m = g.M.Machine in
    let n = g.N.Note in
    let begin = c.args.self.now.table.shared.key in
    let v = c.args.all.now.seat.me.0 in
    let took = c.take_rest-word.ensures.takes in
    let journal = took.0 in
    let held = c.halted_in-halted.ensures.halted in
    let learns = learned m.next m.HALTS m.frees m.takes n.front n.at g.M.Worded.tells g.M.Worded.means begin c.take_rest-word.result c.args.all.now.seat.me c.take_rest-word.new.seat.me held.0 took held.1 in
    let d = brought.gathered in
    let is = ap (λ me. me.0) c.give_word.ensures.gave ∙ ap (λ me. gave me.0 None) (c.halted_in-halted.ensures.seat.1 ∙ took.2) in (
      journal,
      held.2 ∙ learns.lies.halted,
      whole m.next m.HALTS m.frees m.takes n.front n.at g.M.Worded.tells g.M.Worded.means begin passes v journal c.take_rest-word.result held.0 all.count d learns,
      record {
        table = search rules;
        empty = ap (λ me. me.1) c.give_word.ensures.gave;
        passes_are = all;
        owns = v.owns;
        sized = d.count;
        own = λ i pass at_i. d.owns i pass (slice_get_within passes i pass at_i) at_i;
        turns = brought.turns;
        dealing = subst (Dealing 0 journal v.owns) (sym is) (dealing_all (gave (taken v journal) None) refl d.number);
      },
    )
