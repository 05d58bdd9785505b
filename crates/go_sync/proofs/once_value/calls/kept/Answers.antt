use Rattle.std.proofs.Common.{inl, refl}
use Rattle.sync_model.specs.declared.answer.Answer.TheVariants.{Done, Halted}
use Rattle.sync_model.specs.declared.journal.Deed.TheVariants.{Event, Refused}
use Rattle.wait_cores.specs.declared.once.OnceEvent.TheVariants.{End}
use Rattle.wait_cores.specs.declared.once.OnceReply.TheVariants.{Ended}
use Rattle.go_sync.proofs.Composed.{made_two}
use Rattle.go_sync.proofs.Running.{may_run}
use Rattle.go_sync.proofs.once_value.calls.kept.Goals as goal

pub function-value-requires : goal.function-value-requires
function-value-requires g c =
    let is = c.in-Done-Run.field-0-is in
    let begun = rw is at c.in-Done-Run.ensures.events in
    let stands = rw is at c.in-Done-Run.ensures.pass in
    let runner = c.begin.new.pass in
    c.requires.function runner (may_run _ _ runner runner _ _ c.new-note.ensures (begun.0, begun.1, begun.2) stands.0.0 c.begin.ensures.once)

pub returns-in-Done-clause-made : goal.returns-in-Done-clause-made
returns-in-Done-clause-made g c =
    let begun = rw c.in-Done-Run.field-0-is at c.in-Done-Run.ensures.events in
    made_two (c.growth.ensures.both _) c.growth.ensures.halted c.new-note.ensures (begun.0, begun.1, begun.2) (Event (End c.function-value.result) Ended) (Done Ended) c.in-Done.ensures.events (λ es meets. meets) (inl (c.function-value.ensures, refl))

pub returns-in-Halted-end-clause-made : goal.returns-in-Halted-end-clause-made
returns-in-Halted-end-clause-made g c =
    let begun = rw c.in-Done-Run.field-0-is at c.in-Done-Run.ensures.events in
    made_two (c.growth.ensures.both _) c.growth.ensures.halted c.new-note.ensures (begun.0, begun.1, begun.2) (Refused (End c.function-value.result) c.in-Halted-end.misuse) (Halted c.in-Halted-end.misuse) c.in-Halted-end.ensures.events (λ es meets. meets) (inl (c.function-value.result, c.function-value.ensures, refl))
