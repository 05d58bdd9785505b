-- The calls of a once, stage by stage.
use Rattle.std.specs.Prelude.{◌≡◌, ℕ, Bool, true, false, Option, None, Result, Ok, Err}
use Rattle.sync_types.specs.declared.misuse.Misuse.{Misuse}
use Rattle.wait_cores.specs.declared.once.OnceEvent.{OnceEvent}
use Rattle.wait_cores.specs.declared.once.OnceEvent.TheVariants as event
use Rattle.wait_cores.specs.declared.once.OnceReply.{OnceReply}
use Rattle.wait_cores.specs.declared.once.OnceReply.TheVariants as reply
use Rattle.wait_cores.specs.OnceMachine.{OnceState, start}
use Rattle.wait_cores.specs.OnceStanding.{waits_after, runs_after}
use Rattle.protocols.specs.declared.step.Step.{Step}
use Rattle.protocols.specs.declared.step.Step.TheVariants.{Finished, Waits, Never}
use Rattle.protocols.specs.declared.once.OnceOutcome.{OnceOutcome}
use Rattle.protocols.specs.declared.once.OnceOutcome.TheVariants.{Run, Already, Ended}
use Rattle.protocols.specs.declared.once.OnceStage.{OnceStage}
use Rattle.protocols.specs.declared.once.OnceStage.TheVariants as stage

module _ {T : Type 0} where
  -- the event that a stage makes
  abbrev pub once_event : OnceStage T → ℕ → OnceEvent T
  once_event stage.Begin now = event.Begin
  once_event (stage.End kept) now = event.End kept
  once_event stage.Leave now = event.Leave

  -- the first caller is to run the function; later ones have what it came to, or sleep until it has ended
  abbrev pub begin_meaning : OnceReply T → Step (OnceStage T) (OnceOutcome T)
  begin_meaning reply.Run = Finished Run
  begin_meaning (reply.Done kept) = Finished (Already kept)
  begin_meaning reply.Queued = Waits stage.Leave
  begin_meaning reply.Ended = Never
  begin_meaning (reply.Left kept) = Never
  begin_meaning reply.Still = Never

  -- the caller that ran the function ends it
  abbrev pub end_meaning : OnceReply T → Step (OnceStage T) (OnceOutcome T)
  end_meaning reply.Ended = Finished Ended
  end_meaning reply.Run = Never
  end_meaning reply.Queued = Never
  end_meaning (reply.Done kept) = Never
  end_meaning (reply.Left kept) = Never
  end_meaning reply.Still = Never

  -- a caller that was released takes what the function came to; any other sleeps on
  abbrev pub leave_meaning : OnceReply T → Step (OnceStage T) (OnceOutcome T)
  leave_meaning (reply.Left kept) = Finished (Already kept)
  leave_meaning reply.Still = Waits stage.Leave
  leave_meaning reply.Run = Never
  leave_meaning reply.Queued = Never
  leave_meaning (reply.Done kept) = Never
  leave_meaning reply.Ended = Never

  abbrev pub once_meaning : OnceStage T → OnceReply T → Step (OnceStage T) (OnceOutcome T)
  once_meaning stage.Begin reply = begin_meaning reply
  once_meaning (stage.End kept) reply = end_meaning reply
  once_meaning stage.Leave reply = leave_meaning reply

  -- whether a caller waits, and whether it runs the function, after an answer of its own
  abbrev pub once_stands : Bool × Bool → OnceEvent T → OnceReply T → Bool × Bool
  once_stands stand event reply = (waits_after stand.0 reply, runs_after stand.1 reply)

  -- one that is to run the function runs it from then on
  abbrev pub once_left : OnceOutcome T → Bool × Bool
  once_left Run = (false, true)
  once_left (Already kept) = (false, false)
  once_left Ended = (false, false)

  -- a caller that runs the function ends it, one that waits leaves, and any other may begin
  abbrev pub may_be : Bool → Bool → OnceStage T → Bool
  may_be false false stage.Begin = true
  may_be false false (stage.End kept) = false
  may_be false false stage.Leave = false
  may_be false true stage.Begin = false
  may_be false true (stage.End kept) = true
  may_be false true stage.Leave = false
  may_be true false stage.Begin = false
  may_be true false (stage.End kept) = false
  may_be true false stage.Leave = true
  may_be true true stage.Begin = false
  may_be true true (stage.End kept) = false
  may_be true true stage.Leave = false

  abbrev pub once_allows : OnceState T → Bool × Bool → OnceStage T → Bool
  once_allows start stand stage = may_be stand.0 stand.1 stage

  -- no call is a misuse
  abbrev pub once_gives : OnceStage T → Result (OnceOutcome T) Misuse → Bool
  once_gives stage.Begin (Ok Run) = true
  once_gives stage.Begin (Ok (Already kept)) = true
  once_gives stage.Begin (Ok Ended) = false
  once_gives stage.Begin (Err misuse) = false
  once_gives (stage.End kept) (Ok Ended) = true
  once_gives (stage.End kept) (Ok Run) = false
  once_gives (stage.End kept) (Ok (Already other)) = false
  once_gives (stage.End kept) (Err misuse) = false
  once_gives stage.Leave (Ok (Already kept)) = true
  once_gives stage.Leave (Ok Run) = false
  once_gives stage.Leave (Ok Ended) = false
  once_gives stage.Leave (Err misuse) = false

  -- what the function's end knew is known to each who has what it came to
  abbrev pub once_gains : OnceStage T → OnceOutcome T → Bool
  once_gains stage Run = false
  once_gains stage (Already kept) = true
  once_gains stage Ended = false

  -- it begins not run, and nobody waits
  abbrev pub OnceBegins : ℕ → OnceState T → Type 0
  OnceBegins callers state = state ≡ start callers

  -- no event carries a moment
  abbrev pub once_moment : OnceEvent T → Option ℕ
  once_moment event = None
