use Rattle.std.proofs.Common.{refl, sym, subst}
use Rattle.wait_cores.specs.declared.notify.NotifyEvent.TheVariants as event
use Rattle.protocols.specs.declared.cond.CondStage.TheVariants as stage
use Rattle.go_waits.specs.Conds.{start_of, IsMutexLawful}
use Rattle.go_waits.specs.CondCalls.{no_ticket, ticket, not_held, not_unlocked, unlocked}
use Rattle.go_waits.proofs.CondSpelling.{made_by}
use Rattle.go_waits.proofs.cond.Cond.wait.Goals as goal

pub returns-in-Halted-clause-events : goal.returns-in-Halted-clause-events
returns-in-Halted-clause-events g c =
    let front = g.N.Note.front in
    let call = c.call in
    let took = made_by (start_of c.args.self.now) (g.C.Clock.shows c.args.at.now.clock.now) c.args.pass.now call.new.pass (front c.args.note.now) (front call.new.note) call.result stage.Ticket event.Ticket (λ now. refl) (λ r. refl) (λ outcome. refl) _ c.in-Halted.ensures call.ensures.events call.ensures.no_edge in
    (c.spend_within.new.pass, c.spend_within.ensures.1, no_ticket c.in-Halted.misuse call.new.pass (front call.new.note) took)

pub returns-in-Halted-clause-journal : goal.returns-in-Halted-clause-journal
returns-in-Halted-clause-journal g c = (
  c.call.ensures.journal,
  (λ lawful. subst (λ pass. IsMutexLawful c.args.mutex.now pass) (sym c.spend_within.ensures.1.1) (record { own = lawful.own; follows = lawful.follows; edges = lawful.edges; times = lawful.times })),
)

pub returns-in-Halted-unlock_within-clause-events : goal.returns-in-Halted-unlock_within-clause-events
returns-in-Halted-unlock_within-clause-events g c =
    let front = g.N.Note.front in
    let call = c.call in
    let took = made_by (start_of c.args.self.now) (g.C.Clock.shows c.args.at.now.clock.now) c.args.pass.now call.new.pass (front c.args.note.now) (front call.new.note) call.result stage.Ticket event.Ticket (λ now. refl) (λ r. refl) (λ outcome. refl) _ c.in-Done.ensures call.ensures.events call.ensures.no_edge in
    let unlock = c.unlock_within in
    let gave = not_unlocked c.in-Halted-unlock_within.misuse unlock.new.pass (front unlock.new.note) (c.in-Halted-unlock_within.ensures.events, unlock.ensures.no_edge) in
    (c.spend_within.new.pass, c.spend_within.ensures.1, ticket call.new.pass (front call.new.note) _ call.new.pass unlock.new.pass (front unlock.new.note) took gave)

pub returns-in-Done-Err-clause-events : goal.returns-in-Done-Err-clause-events
returns-in-Done-Err-clause-events g c =
    let front = g.N.Note.front in
    let call = c.call in
    let took = made_by (start_of c.args.self.now) (g.C.Clock.shows c.args.at.now.clock.now) c.args.pass.now call.new.pass (front c.args.note.now) (front call.new.note) call.result stage.Ticket event.Ticket (λ now. refl) (λ r. refl) (λ outcome. refl) _ c.in-Done.ensures call.ensures.events call.ensures.no_edge in
    let unlock = c.unlock_within in
    let did = rw c.in-Done-Err.field-0-is at c.in-Done-Err.ensures.events in
    let gave = not_held c.in-Done-Err.misuse unlock.new.pass (front unlock.new.note) (did, unlock.ensures.no_edge) in
    (c.spend_within.new.pass, c.spend_within.ensures.1, ticket call.new.pass (front call.new.note) _ call.new.pass unlock.new.pass (front unlock.new.note) took gave)

pub returns-in-Done-Ok-clause-events : goal.returns-in-Done-Ok-clause-events
returns-in-Done-Ok-clause-events g c =
    let front = g.N.Note.front in
    let call = c.call in
    let took = made_by (start_of c.args.self.now) (g.C.Clock.shows c.args.at.now.clock.now) c.args.pass.now call.new.pass (front c.args.note.now) (front call.new.note) call.result stage.Ticket event.Ticket (λ now. refl) (λ r. refl) (λ outcome. refl) _ c.in-Done.ensures call.ensures.events call.ensures.no_edge in
    let unlock = c.unlock_within in
    let back = c.come_back in
    let did = rw c.in-Done-Ok.field-0-is at c.in-Done-Ok.ensures.events in
    let gave = unlocked unlock.new.pass (front unlock.new.note) back.result back.new.pass back.new.mutex_pass (front back.new.note) (did, unlock.ensures.no_edge) back.ensures.events in
    (c.spend_within.new.pass, c.spend_within.ensures.1, ticket call.new.pass (front call.new.note) back.result back.new.pass back.new.mutex_pass (front back.new.note) took gave)
