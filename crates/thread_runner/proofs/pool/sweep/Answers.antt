use Rattle.std.proofs.Common.{arith, rules}
use Rattle.thread_objects.specs.Passes.{owns_of}
use Rattle.thread_objects.specs.Working.{Desk, desk_with}
use Rattle.thread_runner.proofs.PoolLooks.{swept_on, sweep_halted, swept_all}
use Rattle.thread_runner.proofs.pool.sweep.Goals as goal

pub part_at-requires-clause-kind : goal.part_at-requires-clause-kind
part_at-requires-clause-kind g c = c.requires.parts c.loop-part.part c.loop-part-test.true

pub loop-part-preserved : goal.loop-part-preserved
loop-part-preserved g c =
    let start : Desk = desk_with g.N.Note.own g.N.Note.front (owns_of c.args.passes.now) c.args.note.now in
    let now : Desk = desk_with g.N.Note.own g.N.Note.front (owns_of c.loop-part.passes) c.loop-part.note in
    let later : Desk = desk_with g.N.Note.own g.N.Note.front (owns_of c.part_at.new.passes) c.part_at.new.note in
    let did = rw c.in-Done-Ok.field-0-is at c.in-Done-Ok.ensures.works in
    record {
      seats = search rules;
      note = search rules;
      all = swept_on c.args.worker.now.workers c.args.first c.loop-part.part start now later c.loop-part.invariant.all c.loop-part-test.true c.moves.ensures.none c.moves.ensures.joined _ did;
    }

pub returns-in-Halted-clause-works : goal.returns-in-Halted-clause-works
returns-in-Halted-clause-works g c =
    let start : Desk = desk_with g.N.Note.own g.N.Note.front (owns_of c.args.passes.now) c.args.note.now in
    let now : Desk = desk_with g.N.Note.own g.N.Note.front (owns_of c.loop-part.passes) c.loop-part.note in
    let later : Desk = desk_with g.N.Note.own g.N.Note.front (owns_of c.part_at.new.passes) c.part_at.new.note in
    sweep_halted c.args.worker.now.workers c.args.first c.loop-part.part start now later c.loop-part.invariant.all c.loop-part-test.true c.moves.ensures.none c.moves.ensures.joined c.in-Halted.misuse c.in-Halted.ensures.works

pub returns-clause-works : goal.returns-clause-works
returns-clause-works g c =
    let start : Desk = desk_with g.N.Note.own g.N.Note.front (owns_of c.args.passes.now) c.args.note.now in
    let now : Desk = desk_with g.N.Note.own g.N.Note.front (owns_of c.loop-part.passes) c.loop-part.note in
    swept_all c.args.worker.now.workers c.args.first c.moves.ensures.none c.loop-part.part start now c.loop-part.invariant.all (omega (arith, c.loop-part-test.false, c.loop-part.auto.part-end))
