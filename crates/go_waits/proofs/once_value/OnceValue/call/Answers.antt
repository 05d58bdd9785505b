use Rattle.std.proofs.Common.{inl, sym}
use Rattle.sync_model.specs.declared.answer.Answer.TheVariants.{Done, Halted}
use Rattle.sync_model.specs.declared.journal.Deed.TheVariants.{Event, Refused}
use Rattle.wait_cores.specs.declared.once.OnceEvent.TheVariants.{End}
use Rattle.wait_cores.specs.declared.once.OnceReply.TheVariants.{Ended}
use Rattle.go_waits.proofs.OnceRunning.{has_begun, ran}
use Rattle.go_waits.proofs.once_value.OnceValue.call.Goals as goal

pub take-function-requires : goal.take-function-requires
take-function-requires g c = (rw c.in-Done-Run.field-0-is at c.in-Done-Run.ensures.pass).0.0

pub function-value-requires : goal.function-value-requires
function-value-requires g c =
    let is = c.in-Done-Run.field-0-is in
    let stands = rw is at c.in-Done-Run.ensures.pass in
    rw (sym c.take-function.ensures) at (c.requires.function c.begin.new.pass (has_begun (rw is at c.in-Done-Run.ensures.events) stands.0.0 stands.1 c.begin.ensures.once))

pub returns-in-Done-clause-events : goal.returns-in-Done-clause-events
returns-in-Done-clause-events g c =
    let ran = ran (c.growth.ensures.both _) c.growth.ensures.halted (rw c.in-Done-Run.field-0-is at c.in-Done-Run.ensures.events) (Event (End c.function-value.result) Ended) (Done Ended) c.in-Done.ensures.events in
    (ran.0, ran.1, inl (rw c.take-function.ensures at c.function-value.ensures, ran.2), ran.3)

pub returns-in-Halted-end-clause-events : goal.returns-in-Halted-end-clause-events
returns-in-Halted-end-clause-events g c =
    let ran = ran (c.growth.ensures.both _) c.growth.ensures.halted (rw c.in-Done-Run.field-0-is at c.in-Done-Run.ensures.events) (Refused (End c.function-value.result) c.in-Halted-end.misuse) (Halted c.in-Halted-end.misuse) c.in-Halted-end.ensures.events in
    (ran.0, ran.1, inl (c.function-value.result, rw c.take-function.ensures at c.function-value.ensures, ran.2), ran.3)
