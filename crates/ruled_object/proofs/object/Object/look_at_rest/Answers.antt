use Rattle.std.proofs.Common.{None, ap, sym, ◌∙◌, subst}
use Rattle.std.proofs.lemmas.Option.{slice_get_within}
use Rattle.ruled_object.specs.Gathered.{HaveCounted, IsDealt}
use Rattle.ruled_object.specs.Rule.{Lies}
use Rattle.ruled_object.specs.Steps.{gave}
use Rattle.ruled_object.proofs.Calls.{learned}
use Rattle.ruled_object.proofs.Gathering.{have_counted, same_through, turns_through, same_own, still_numbered, whole, seen_again}
use Rattle.ruled_object.proofs.object.Object.look_at_rest.Goals as goal

pub halted_in-halted-requires-clause-held : goal.halted_in-halted-requires-clause-held
halted_in-halted-requires-clause-held g c = let took = c.take_rest-word.ensures.takes in (took.1, ap (λ me. me.1) took.2, tt)

pub give_word-requires-clause-may : goal.give_word-requires-clause-may
give_word-requires-clause-may g c =
    let m = g.M.Machine in
    let n = g.N.Note in
    let begin = c.args.self.now.table.shared.key in
    let took = c.take_rest-word.ensures.takes in
    let same = c.halted_in-halted.ensures.seat.1 ∙ took.2 in
    (took.1, ap (λ me. me.1) same, subst (λ me. Lies m.next m.HALTS m.frees m.takes n.front n.at g.M.Worded.tells g.M.Worded.means begin me.0.seen c.take_rest-word.result took.1) (sym same) took.3.lies)

pub deal_out-requires-clause-order : goal.deal_out-requires-clause-order
deal_out-requires-clause-order g c = still_numbered c.args.self.now c.args.passes.now c.gather-all.new.passes c.requires c.gather-all.ensures.passes

pub deal_out-requires-clause-counted : goal.deal_out-requires-clause-counted
deal_out-requires-clause-counted g c =
    let took = c.take_rest-word.ensures.takes in
    let is = ap (λ me. me.0) c.give_word.ensures.gave ∙ ap (λ me. gave me.0 None) (c.halted_in-halted.ensures.seat.1 ∙ took.2) in
    subst (λ v. HaveCounted v.owns c.gather-all.new.passes) (sym is)
    (have_counted c.args.self.now c.args.passes.now c.gather-all.new.passes c.gather-all.result.me.0.owns c.requires c.gather-all.ensures.passes.count c.gather-all.ensures.turns
    (λ i pass at_i. c.gather-all.ensures.gathered.owns i pass (slice_get_within c.args.passes.now i pass at_i) at_i))

pub returns-clause-passes : goal.returns-clause-passes
returns-clause-passes g c =
    let same = same_through c.args.passes.now c.gather-all.new.passes c.deal_out.new.passes c.gather-all.ensures.passes c.deal_out.ensures.passes in
    (record { count = same.count ∙ c.requires.count; each = λ i pass at_i. let d = c.deal_out.ensures.dealt i pass at_i in (d.is, d.number) }, same)

pub returns-clause-one_journal : goal.returns-clause-one_journal
returns-clause-one_journal g c =
    let m = g.M.Machine in
    let n = g.N.Note in
    let object = c.args.self.now in
    let begin = object.table.shared.key in
    let v = c.gather-all.result.me.0 in
    let took = c.take_rest-word.ensures.takes in
    let journal = took.0 in
    let held = c.halted_in-halted.ensures.halted in
    let cell = held.0 in
    let learns = learned m.next m.HALTS m.frees m.takes n.front n.at g.M.Worded.tells g.M.Worded.means begin c.take_rest-word.result c.gather-all.result.me c.take_rest-word.new.seat.me cell took held.1 in
    let is = ap (λ me. me.0) c.give_word.ensures.gave ∙ ap (λ me. gave me.0 None) (c.halted_in-halted.ensures.seat.1 ∙ took.2) in
    let passes = c.deal_out.new.passes in
    let count = c.deal_out.ensures.passes.count ∙ c.gather-all.ensures.passes.count ∙ c.requires.count in (
      journal,
      learns.lies.told,
      held.2 ∙ learns.lies.halted,
      whole m.next m.HALTS m.frees m.takes n.front n.at g.M.Worded.tells g.M.Worded.means begin c.args.passes.now v journal c.take_rest-word.result cell c.requires.count c.gather-all.ensures.gathered learns,
      seen_again m.next m.HALTS m.frees m.takes n.front n.at g.M.Worded.tells g.M.Worded.means begin object passes v journal c.take_rest-word.result cell count c.gather-all.ensures.gathered.number
          (λ i pass at_i. subst (λ w. IsDealt object i w.seen w.owns pass) is (c.deal_out.ensures.dealt i pass at_i)) learns,
    )

pub returns-clause-own : goal.returns-clause-own
returns-clause-own g c =
    let m = g.M.Machine in
    let one = returns-clause-one_journal g c in
    same_own m.next m.HALTS m.frees m.takes c.args.self.now.table.shared.key.state one.0 c.args.passes.now c.deal_out.new.passes (returns-clause-passes g c).1 one.3 one.4.whole

pub returns-clause-free : goal.returns-clause-free
returns-clause-free g c = c.take_rest-word.ensures.takes.4

pub returns-clause-turns : goal.returns-clause-turns
returns-clause-turns g c = turns_through c.args.passes.now c.gather-all.new.passes c.deal_out.new.passes c.deal_out.ensures.passes.count c.gather-all.ensures.turns c.deal_out.ensures.turns
