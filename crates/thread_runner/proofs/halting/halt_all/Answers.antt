use Rattle.std.proofs.Common.{◌+◌, List, [], ◌∷◌, length, take, ap, arith}
use Rattle.std.proofs.lemmas.Option.{slice_get_within}
use Rattle.workload.specs.declared.object.ObjectLine.{ObjectLine}
use Rattle.run_record.specs.Halts.{halted_at, halted_starts, halted_with_stop}
use Rattle.run_record.specs.Record.{stop}
use Rattle.thread_runner.proofs.HaltLemmas.{all_halted, halted_more, halted_none, halts_as, halts_on, halts_stop, line_at}
use Rattle.thread_runner.proofs.Working.{keeps_on}
use Rattle.thread_runner.proofs.halting.halt_all.Goals as goal

pub halt_at-requires-clause-there : goal.halt_at-requires-clause-there
halt_at-requires-clause-there g c =
    let found = c.stop_is_the_first_object.ensures c.args.worker.now.at.home.now c.args.workload.now c.args.objects.now c.requires.declared in
    slice_get_within c.args.objects.now stop found.0 found.1

pub halt_starts-requires-clause-note : goal.halt_starts-requires-clause-note
halt_starts-requires-clause-note g c = c.halt_at.ensures.note.home _ c.requires.note

pub loop-place-init : goal.loop-place-init
loop-place-init g c =
    let plan = c.args.workload.now in
    let found = c.stop_is_the_first_object.ensures c.args.worker.now.at.home.now c.args.workload.now c.args.objects.now c.requires.declared in
    record {
      seats = c.halt_starts.ensures.seats;
      note = keeps_on g.N.Note.at g.N.Note.own g.N.Note.front _ _ _ c.halt_at.ensures.note c.halt_starts.ensures.note;
      next = omega (arith, ap (λ (l : List ObjectLine). length l) c.objects-lines.ensures.objects);
      halted = halts_as c.args.misuse _ (halted_with_stop plan []) _ _ (halted_none plan)
          (halts_on c.moves.ensures.joined c.args.misuse (stop ∷ []) (halted_starts plan) _ _ _ (halts_as c.args.misuse _ (stop ∷ []) _ _ (halts_stop stop found.0 found.2) (c.halt_at.ensures.halted found.0 found.1)) c.halt_starts.ensures.halted);
    }

pub halt_declared-first-requires-clause-note : goal.halt_declared-first-requires-clause-note
halt_declared-first-requires-clause-note g c = c.loop-place.invariant.note.home _ c.requires.note

pub loop-place-preserved : goal.loop-place-preserved
loop-place-preserved g c =
    let plan = c.args.workload.now in
    let place = c.loop-place.place in
    let found = line_at plan.objects place (omega (arith, c.loop-place-test.true, ap (λ (l : List ObjectLine). length l) c.objects-lines.ensures.objects)) in
    record {
      seats = c.halt_declared-first.ensures.seats;
      note = keeps_on g.N.Note.at g.N.Note.own g.N.Note.front _ _ _ c.loop-place.invariant.note c.halt_declared-first.ensures.note;
      next = c.halt_declared-first.ensures.next;
      halted = halts_as c.args.misuse _ (halted_with_stop plan (take (place + 1) plan.objects)) _ _ (halted_more plan place found.0 found.1)
          (halts_on c.moves.ensures.joined c.args.misuse (halted_with_stop plan (take place plan.objects)) (halted_at plan place found.0.kind) _ _ _ c.loop-place.invariant.halted (c.halt_declared-first.ensures.halted found.0 found.1));
    }

pub returns-clause-halted : goal.returns-clause-halted
returns-clause-halted g c = all_halted c.args.workload.now c.args.misuse c.loop-place.place _ _ (omega (arith, c.loop-place-test.false, ap (λ (l : List ObjectLine). length l) c.objects-lines.ensures.objects)) c.loop-place.invariant.halted
