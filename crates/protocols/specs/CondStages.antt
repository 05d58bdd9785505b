-- The calls of a cond's list of waiters, stage by stage. A cond's `wait` is two of them, with its mutex's `unlock` between and its `lock` behind.
use Rattle.std.specs.Prelude.{◌≡◌, ℕ, Bool, true, false, Option, None, Result, Ok, Err}
use Rattle.sync_types.specs.declared.misuse.Misuse.{Misuse}
use Rattle.wait_cores.specs.declared.notify.NotifyEvent.{NotifyEvent}
use Rattle.wait_cores.specs.declared.notify.NotifyEvent.TheVariants as event
use Rattle.wait_cores.specs.declared.notify.NotifyReply.{NotifyReply}
use Rattle.wait_cores.specs.declared.notify.NotifyReply.TheVariants as reply
use Rattle.wait_cores.specs.NotifyMachine.{NotifyState, start}
use Rattle.protocols.specs.declared.step.Step.{Step}
use Rattle.protocols.specs.declared.step.Step.TheVariants.{Finished, Waits, Never}
use Rattle.protocols.specs.declared.cond.CondStage.{CondStage}
use Rattle.protocols.specs.declared.cond.CondStage.TheVariants as stage

-- the event that a stage makes
abbrev pub cond_event : CondStage → ℕ → NotifyEvent
cond_event stage.Ticket now = event.Ticket
cond_event stage.Leave now = event.Leave
cond_event stage.Signal now = event.Signal
cond_event stage.Broadcast now = event.Broadcast

-- a ticket, a signal and a broadcast are one event each
abbrev pub at_once_meaning : NotifyReply → Step CondStage (Unit {0})
at_once_meaning reply.Done = Finished tt
at_once_meaning reply.Still = Never

-- a caller leaves where its ticket is notified, and else sleeps on
abbrev pub leave_meaning : NotifyReply → Step CondStage (Unit {0})
leave_meaning reply.Done = Finished tt
leave_meaning reply.Still = Waits stage.Leave

abbrev pub cond_meaning : CondStage → NotifyReply → Step CondStage (Unit {0})
cond_meaning stage.Ticket reply = at_once_meaning reply
cond_meaning stage.Leave reply = leave_meaning reply
cond_meaning stage.Signal reply = at_once_meaning reply
cond_meaning stage.Broadcast reply = at_once_meaning reply

-- Nothing is asked of a caller: one whose wait was cut short by a halted mutex keeps its ticket, and may wait anew.
abbrev pub cond_stands : (Unit {0}) → NotifyEvent → NotifyReply → (Unit {0})
cond_stands stand event reply = tt

abbrev pub cond_allows : NotifyState → (Unit {0}) → CondStage → Bool
cond_allows start stand stage = true

-- no call is a misuse
abbrev pub cond_gives : CondStage → Result (Unit {0}) Misuse → Bool
cond_gives stage (Ok outcome) = true
cond_gives stage (Err misuse) = false

-- what the call knew that notified a ticket is known once its caller has left
abbrev pub cond_gains : CondStage → (Unit {0}) → Bool
cond_gains stage.Ticket outcome = false
cond_gains stage.Leave outcome = true
cond_gains stage.Signal outcome = false
cond_gains stage.Broadcast outcome = false

-- nobody has a ticket
abbrev pub CondBegins : ℕ → NotifyState → Type 0
CondBegins callers state = state ≡ start callers

-- no event carries a moment
abbrev pub cond_moment : NotifyEvent → Option ℕ
cond_moment event = None
