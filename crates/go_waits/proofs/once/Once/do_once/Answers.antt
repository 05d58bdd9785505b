use Rattle.std.proofs.Common.{inl, [], ◌∷◌, ap, ◌∙◌}
use Rattle.sync_model.specs.declared.answer.Answer.TheVariants.{Done, Halted}
use Rattle.sync_model.specs.declared.journal.Deed.TheVariants.{Event, Refused}
use Rattle.wait_cores.specs.declared.once.OnceEvent.TheVariants.{Begin, End}
use Rattle.wait_cores.specs.declared.once.OnceReply.TheVariants.{Run, Ended}
use Rattle.go_waits.proofs.OnceRunning.{has_begun, ran}
use Rattle.go_waits.proofs.once.Once.do_once.Goals as goal

pub function-outcome-requires : goal.function-outcome-requires
function-outcome-requires g c =
    let is = c.in-Done-Run.field-0-is in
    let stands = rw is at c.in-Done-Run.ensures.pass in
    c.requires.function c.begin.new.pass (has_begun (rw is at c.in-Done-Run.ensures.events) stands.0.0 stands.1 c.begin.ensures.once)

pub returns-in-Done-clause-events : goal.returns-in-Done-clause-events
returns-in-Done-clause-events g c =
    let ran = ran (c.growth.ensures.both _) c.growth.ensures.halted (rw c.in-Done-Run.field-0-is at c.in-Done-Run.ensures.events) (Event (End c.kept_of-kept.result) Ended) (Done Ended) c.in-Done.ensures.events in
    (ran.0, ran.1, (c.function-outcome.ensures, ran.2 ∙ ap (λ v. Event Begin Run ∷ (Event (End v) Ended ∷ [])) c.kept_of-kept.ensures), ran.3)

pub returns-in-Halted-end-clause-events : goal.returns-in-Halted-end-clause-events
returns-in-Halted-end-clause-events g c =
    let ran = ran (c.growth.ensures.both _) c.growth.ensures.halted (rw c.in-Done-Run.field-0-is at c.in-Done-Run.ensures.events) (Refused (End c.kept_of-kept.result) c.in-Halted-end.misuse) (Halted c.in-Halted-end.misuse) c.in-Halted-end.ensures.events in
    (ran.0, ran.1, inl (c.function-outcome.result, c.function-outcome.ensures, ran.2 ∙ ap (λ v. Event Begin Run ∷ (Refused (End v) c.in-Halted-end.misuse ∷ [])) c.kept_of-kept.ensures), ran.3)
