use Rattle.std.proofs.Common.{◌*◌, ◌<◌, arith, rules, Ok}
use Rattle.sync_model.specs.declared.answer.Answer.TheVariants.{Done, Halted}
use Rattle.protocols.specs.declared.pool.PoolOutcome.TheVariants.{Item, Nothing}
use Rattle.thread_objects.specs.Passes.{owns_of}
use Rattle.thread_objects.specs.Working.{Desk, desk_with}
use Rattle.thread_runner.proofs.PoolLooks.{looked_by, looked_on, took, halted, found_none}
use Rattle.thread_runner.proofs.pool.get.Goals as goal

pub part_at-requires-clause-kind : goal.part_at-requires-clause-kind
part_at-requires-clause-kind g c = c.requires.parts c.part_named-part.result (omega (arith, c.part_named-part.ensures, c.look_stage-stage.ensures.there))

pub loop-nth-preserved : goal.loop-nth-preserved
loop-nth-preserved g c =
    let start : Desk = desk_with g.N.Note.own g.N.Note.front (owns_of c.args.passes.now) c.args.note.now in
    let now : Desk = desk_with g.N.Note.own g.N.Note.front (owns_of c.loop-nth.passes) c.loop-nth.note in
    let later : Desk = desk_with g.N.Note.own g.N.Note.front (owns_of c.part_at.new.passes) c.part_at.new.note in
    let workers = c.args.worker.now.workers in
    let worker = c.args.worker.now.number in
    let within : c.loop-nth.nth < 2 * workers = omega (arith, c.loop-nth-test.true, c.from-nth-end.ensures) in
    let given = rw c.in-Done-Ok-Nothing.field-0-is at c.in-Done-Ok-Nothing.ensures.works in
    let did = rw c.in-Done-Ok-Nothing.field-0-0-is at given in
    record {
      seats = search rules;
      note = search rules;
      all = looked_on workers worker c.args.first c.loop-nth.nth start now later c.loop-nth.invariant.all c.moves.ensures.none c.moves.ensures.joined within (looked_by workers worker c.args.first c.loop-nth.nth start now later c.loop-nth.invariant.all c.part_named-part.result c.look_stage-stage.result (Done (Ok Nothing)) c.part_named-part.ensures c.look_stage-stage.ensures.stage did);
    }

pub returns-in-Done-Ok-Item-clause-works : goal.returns-in-Done-Ok-Item-clause-works
returns-in-Done-Ok-Item-clause-works g c =
    let start : Desk = desk_with g.N.Note.own g.N.Note.front (owns_of c.args.passes.now) c.args.note.now in
    let now : Desk = desk_with g.N.Note.own g.N.Note.front (owns_of c.loop-nth.passes) c.loop-nth.note in
    let later : Desk = desk_with g.N.Note.own g.N.Note.front (owns_of c.part_at.new.passes) c.part_at.new.note in
    let workers = c.args.worker.now.workers in
    let worker = c.args.worker.now.number in
    let within : c.loop-nth.nth < 2 * workers = omega (arith, c.loop-nth-test.true, c.from-nth-end.ensures) in
    let given = rw c.in-Done-Ok-Item.field-0-is at c.in-Done-Ok-Item.ensures.works in
    let did = rw c.in-Done-Ok-Item.field-0-0-is at given in
    took workers worker c.args.first c.loop-nth.nth start now later c.loop-nth.invariant.all c.moves.ensures.none c.moves.ensures.joined within c.in-Done-Ok-Item.item
    (looked_by workers worker c.args.first c.loop-nth.nth start now later c.loop-nth.invariant.all c.part_named-part.result c.look_stage-stage.result (Done (Ok (Item c.in-Done-Ok-Item.item))) c.part_named-part.ensures c.look_stage-stage.ensures.stage did)

pub returns-in-Halted-clause-works : goal.returns-in-Halted-clause-works
returns-in-Halted-clause-works g c =
    let start : Desk = desk_with g.N.Note.own g.N.Note.front (owns_of c.args.passes.now) c.args.note.now in
    let now : Desk = desk_with g.N.Note.own g.N.Note.front (owns_of c.loop-nth.passes) c.loop-nth.note in
    let later : Desk = desk_with g.N.Note.own g.N.Note.front (owns_of c.part_at.new.passes) c.part_at.new.note in
    let workers = c.args.worker.now.workers in
    let worker = c.args.worker.now.number in
    let within : c.loop-nth.nth < 2 * workers = omega (arith, c.loop-nth-test.true, c.from-nth-end.ensures) in
    halted workers worker c.args.first c.loop-nth.nth start now later c.loop-nth.invariant.all c.moves.ensures.none c.moves.ensures.joined within c.in-Halted.misuse
    (looked_by workers worker c.args.first c.loop-nth.nth start now later c.loop-nth.invariant.all c.part_named-part.result c.look_stage-stage.result (Halted c.in-Halted.misuse) c.part_named-part.ensures c.look_stage-stage.ensures.stage c.in-Halted.ensures.works)

pub returns-clause-works : goal.returns-clause-works
returns-clause-works g c =
    let start : Desk = desk_with g.N.Note.own g.N.Note.front (owns_of c.args.passes.now) c.args.note.now in
    let now : Desk = desk_with g.N.Note.own g.N.Note.front (owns_of c.loop-nth.passes) c.loop-nth.note in
    found_none c.args.worker.now.workers c.args.worker.now.number c.args.first c.moves.ensures.none c.loop-nth.nth start now c.loop-nth.invariant.all (omega (arith, c.loop-nth-test.false, c.loop-nth.auto.nth-end, c.from-nth-end.ensures))
