use Rattle.std.proofs.Common.{◌-◌, ◌∷◌, [], length, Ok, refl, sym, ap, ◌∙◌}
use Rattle.sync_model.specs.declared.answer.Answer.TheVariants.{Done}
use Rattle.run_record.specs.Halts.{halted_starts}
use Rattle.thread_runner.specs.Halting.{halted_one, halting}
use Rattle.thread_runner.proofs.HaltLemmas.{halts_as, halts_starts, no_starts_halted, starts_halted}
use Rattle.thread_runner.proofs.LastObject.{number_is, starts_there, within}
use Rattle.thread_runner.proofs.Working.{keeps, rests}
use Rattle.thread_runner.proofs.halting.halt_starts.Goals as goal

pub returns-then-not-has_dormant-clause-note : goal.returns-then-not-has_dormant-clause-note
returns-then-not-has_dormant-clause-note g c = keeps g.N.Note.at g.N.Note.own g.N.Note.front c.args.note.now

pub returns-then-not-has_dormant-clause-halted : goal.returns-then-not-has_dormant-clause-halted
returns-then-not-has_dormant-clause-halted g c =
    halts_as c.args.misuse [] _ _ _ (no_starts_halted c.args.workload.now (sym c.has_dormant.ensures ∙ c.if-not-has_dormant.true)) (rests c.moves.ensures.none (halting c.args.misuse []) _ (Done (Ok tt)) (tt, refl, refl))

pub halt_at-requires-clause-there : goal.halt_at-requires-clause-there
halt_at-requires-clause-there g c =
    let plan = c.args.workload.now in
    let objects = c.args.objects.now in
    let last = c.starts_is_the_last_object.ensures c.args.worker.now.at.home.now plan objects c.requires.declared (sym c.has_dormant.ensures ∙ c.if-not-has_dormant.false) in
    within plan objects last

pub returns-clause-halted : goal.returns-clause-halted
returns-clause-halted g c =
    let plan = c.args.workload.now in
    let objects = c.args.objects.now in
    let has = sym c.has_dormant.ensures ∙ c.if-not-has_dormant.false in
    let last = c.starts_is_the_last_object.ensures c.args.worker.now.at.home.now plan objects c.requires.declared has in
    let number = length objects - 1 in
    halts_as c.args.misuse (halted_one number last.1.0) (halted_starts plan) _ _ (halts_starts number last.1.0 last.1.2 ∙ ap (λ n. n ∷ []) (number_is plan objects last) ∙ starts_halted plan has) (c.halt_at.ensures.halted last.1.0 (starts_there plan objects last))
