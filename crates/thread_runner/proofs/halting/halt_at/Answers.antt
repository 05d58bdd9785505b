use Rattle.std.proofs.Common.{length, Ok, refl, sym, ap, ◌∙◌, arith}
use Rattle.std.proofs.lemmas.Option.{same_Some, slice_get_read}
use Rattle.sync_model.specs.declared.answer.Answer.TheVariants.{Done}
use Rattle.thread_objects.specs.declared.object.AnyObject.{AnyObject}
use Rattle.thread_runner.specs.Halting.{halted_one, halting}
use Rattle.thread_runner.proofs.HaltLemmas.{halted_any, halts_as}
use Rattle.thread_runner.proofs.Slots.{in_slot, seats_kept}
use Rattle.thread_runner.proofs.halting.halt_at.Goals as goal

pub returns-clause-seats : goal.returns-clause-seats
returns-clause-seats g c =
    let all = c.args.objects.now in
    let here = slice_get_read all (length all) c.args.number c.index-objects-number.result refl c.requires.there c.index-objects-number.is in
    seats_kept g.N.Note.at c.args.worker.now.at.home.now c.args.worker.now.workers c.args.worker.now.number all c.args.passes.now c.args.number c.index-objects-number.result c.halt_any.new.pass here c.halt_any.ensures.seat c.requires.seats

pub returns-clause-halted : goal.returns-clause-halted
returns-clause-halted g c = λ object at.
    let all = c.args.objects.now in
    let number = c.args.number in
    let misuse = c.args.misuse in
    let was = c.args.note.now in
    let note = c.halt_any.new.note in
    let here = slice_get_read all (length all) number c.index-objects-number.result refl c.requires.there c.index-objects-number.is in
    let done = halted_any g.N.Note.own g.N.Note.front was note (g.met.N.Note.counted _ _ c.requires.note) c.halt_any.ensures.note.kept number misuse _ _ c.moves.ensures.none c.a_note_counts_its_calls.ensures c.index-objects-number.result c.halt_any.ensures.halted in
    halts_as misuse _ (halted_one number object) _ _ (ap (λ (o : AnyObject _ _). halted_one number o) (same_Some c.index-objects-number.result object (sym here ∙ at))) (in_slot c.args.passes.now number c.index-passes-number.result c.halt_any.new.pass (omega (arith, c.requires.there, c.requires.seats.count)) (halting misuse (halted_one number c.index-objects-number.result)) g.N.Note.own g.N.Note.front was note (Done (Ok tt)) done)
