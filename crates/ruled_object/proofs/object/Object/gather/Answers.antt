use Rattle.std.proofs.Common.{rules, ◌<◌, ◌+◌, length, length-set, sym, ◌∙◌, subst, arith, le_refl}
use Rattle.std.proofs.lemmas.Option.{slice_get-get_or}
use Rattle.ruled_object.specs.Gathered.{Gathered}
use Rattle.ruled_object.proofs.Gathering.{gathered_on, same_on, turns_on, get_set_other}
use Rattle.ruled_object.proofs.object.Object.gather.Goals as goal

pub take_in-requires-clause-pass : goal.take_in-requires-clause-pass
take_in-requires-clause-pass g c =
    let i = c.loop-pass.pass-index in
    let count = c.loop-pass.invariant.same.count in
    let inside = c.loop-pass-test.true in
    let below : i < length c.loop-pass.passes = omega arith in
    let here = slice_get-get_or c.loop-pass.passes i c.pass-item.result below in
    let at_i = sym (c.loop-pass.invariant.rest i (le_refl i)) ∙ here in
    (c.requires.each i _ at_i).0

pub take_in-requires-clause-order : goal.take_in-requires-clause-order
take_in-requires-clause-order g c =
    let i = c.loop-pass.pass-index in
    let count = c.loop-pass.invariant.same.count in
    let inside = c.loop-pass-test.true in
    let below : i < length c.loop-pass.passes = omega arith in
    let here = slice_get-get_or c.loop-pass.passes i c.pass-item.result below in
    let at_i = sym (c.loop-pass.invariant.rest i (le_refl i)) ∙ here in
    let number = (c.requires.each i _ at_i).1 in
    let first = c.loop-pass.invariant.gathered.number in
    let owns = c.loop-pass.invariant.gathered.count in
    omega arith

pub loop-pass-preserved : goal.loop-pass-preserved
loop-pass-preserved g c =
    let i = c.loop-pass.pass-index in
    let passes = c.loop-pass.passes in
    let count = c.loop-pass.invariant.same.count in
    let inside = c.loop-pass-test.true in
    let below : i < length passes = omega arith in
    let here = slice_get-get_or passes i c.pass-item.result below in
    let at_i = sym (c.loop-pass.invariant.rest i (le_refl i)) ∙ here in
    let asked = (c.requires.each i _ at_i).0 in
    let after = c.take_in.new.pass in
    record {
      table = search rules;
      empty = search rules;
      gathered = subst (λ me. Gathered (i + 1) c.args.passes.now me.0) (sym c.take_in.ensures.all.1) (gathered_on i c.args.passes.now _ c.loop-pass.all.me.0 at_i asked.one c.loop-pass.invariant.gathered);
      turns = turns_on c.args.passes.now passes i _ after at_i c.take_in.ensures.turns c.loop-pass.invariant.turns;
      same = same_on c.args.passes.now passes i _ after at_i c.take_in.ensures.pass (length-set passes i after) c.loop-pass.invariant.same;
      rest = λ k past. get_set_other passes i k after (λ e. omega arith) ∙ c.loop-pass.invariant.rest k (omega arith);
    }
