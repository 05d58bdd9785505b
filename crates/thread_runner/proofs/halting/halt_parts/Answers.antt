use Rattle.std.proofs.Common.{◌≡◌, ◌+◌, [], ◌∷◌, Ok, refl, ap, arith}
use Rattle.std.specs.List.{range_with_len}
use Rattle.sync_model.specs.declared.answer.Answer.TheVariants.{Done}
use Rattle.thread_runner.specs.Halting.{halting}
use Rattle.thread_runner.proofs.HaltLemmas.{halts_as, halts_on, halts_part, part_more}
use Rattle.thread_runner.proofs.Working.{keeps, keeps_on, rests}
use Rattle.thread_runner.proofs.halting.halt_parts.Goals as goal

pub loop-part-init : goal.loop-part-init
loop-part-init g c = record { seats = c.requires.seats; note = keeps g.N.Note.at g.N.Note.own g.N.Note.front c.args.note.now; halted = rests c.moves.ensures.none (halting c.args.misuse (range_with_len c.args.first 0)) _ (Done (Ok tt)) (tt, refl, refl) }

pub halt_at-requires-clause-note : goal.halt_at-requires-clause-note
halt_at-requires-clause-note g c = c.loop-part.invariant.note.home _ c.requires.note

pub loop-part-preserved : goal.loop-part-preserved
loop-part-preserved g c =
    let misuse = c.args.misuse in
    let first = c.args.first in
    let part = c.loop-part.part in
    let found = c.requires.parts part c.loop-part-test.true in
    let here = halts_as misuse _ ((first + part) ∷ []) _ _ (halts_part (first + part) found.0 found.2) (c.halt_at.ensures.halted found.0 found.1) in
    record {
      seats = c.halt_at.ensures.seats;
      note = keeps_on g.N.Note.at g.N.Note.own g.N.Note.front _ _ _ c.loop-part.invariant.note c.halt_at.ensures.note;
      halted = halts_as misuse _ (range_with_len first (part + 1)) _ _ (part_more first part) (halts_on c.moves.ensures.joined misuse (range_with_len first part) ((first + part) ∷ []) _ _ _ c.loop-part.invariant.halted here);
    }

pub returns-clause-halted : goal.returns-clause-halted
returns-clause-halted g c =
    let end : c.loop-part.part ≡ c.args.worker.now.workers = omega (arith, c.loop-part-test.false, c.loop-part.auto.part-end) in
    halts_as c.args.misuse _ (range_with_len c.args.first c.args.worker.now.workers) _ _ (ap (range_with_len c.args.first) end) c.loop-part.invariant.halted
