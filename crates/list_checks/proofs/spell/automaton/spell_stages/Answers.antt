use Rattle.std.proofs.Common.{◌<◌, length, refl, arith}
use Rattle.std.proofs.lemmas.Option.{slice_get_read}
use Rattle.sync_model.specs.declared.answer.Answer.TheVariants.{Done, Halted}
use Rattle.std.proofs.Common.{Ok, Err}
use Rattle.list_checks.proofs.SpellStages.{on, ends}
use Rattle.list_checks.proofs.spell.automaton.spell_stages.Goals as goal

pub returns-in-Done : goal.returns-in-Done
returns-in-Done g c =
    let inside : c.loop-next.next < length c.args.items.now = omega arith in
    let there = slice_get_read c.args.items.now (length c.args.items.now) c.loop-next.next c.index-items-next.result refl inside c.index-items-next.is in
    record {
      is = ends g.A.Automaton.moves c.args.object c.args.items.now c.args.from c.args.stage c.loop-next.next c.loop-next.at c.index-items-next.result there c.loop-next.invariant.from c.loop-next.invariant.is (Done (Ok c.in-Done.outcome)) c.in-Done.ensures;
      ends = (let along = c.loop-next.invariant.from in omega arith, omega arith);
    }

pub returns-in-Misused : goal.returns-in-Misused
returns-in-Misused g c =
    let inside : c.loop-next.next < length c.args.items.now = omega arith in
    let there = slice_get_read c.args.items.now (length c.args.items.now) c.loop-next.next c.index-items-next.result refl inside c.index-items-next.is in
    record {
      is = ends g.A.Automaton.moves c.args.object c.args.items.now c.args.from c.args.stage c.loop-next.next c.loop-next.at c.index-items-next.result there c.loop-next.invariant.from c.loop-next.invariant.is (Done (Err c.in-Misused.misuse)) c.in-Misused.ensures;
      ends = (let along = c.loop-next.invariant.from in omega arith, omega arith);
    }

pub returns-in-Halted : goal.returns-in-Halted
returns-in-Halted g c =
    let inside : c.loop-next.next < length c.args.items.now = omega arith in
    let there = slice_get_read c.args.items.now (length c.args.items.now) c.loop-next.next c.index-items-next.result refl inside c.index-items-next.is in
    record {
      is = ends g.A.Automaton.moves c.args.object c.args.items.now c.args.from c.args.stage c.loop-next.next c.loop-next.at c.index-items-next.result there c.loop-next.invariant.from c.loop-next.invariant.is (Halted c.in-Halted.misuse) c.in-Halted.ensures;
      ends = (let along = c.loop-next.invariant.from in omega arith, omega arith);
    }

pub loop-next-preserved : goal.loop-next-preserved
loop-next-preserved g c =
    let inside : c.loop-next.next < length c.args.items.now = omega arith in
    let there = slice_get_read c.args.items.now (length c.args.items.now) c.loop-next.next c.index-items-next.result refl inside c.index-items-next.is in
    record {
      from = let along = c.loop-next.invariant.from in omega arith;
      is = on g.A.Automaton.moves c.args.object c.args.items.now c.args.from c.args.stage c.loop-next.next c.loop-next.at c.index-items-next.result there c.loop-next.invariant.from c.loop-next.invariant.is c.in-On.later c.in-On.ensures;
    }
