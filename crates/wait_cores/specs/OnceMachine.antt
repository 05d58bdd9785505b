-- The machine of `sync.Once` and of OnceFunc and OnceValue, of which Go's documentation says: no call returns until the one
-- call to f returns.
use Rattle.std.specs.Prelude.{ℕ, ◌==◌, Bool, true, false, nat_lt, if◌then◌else◌, List, length, replicate, slice_get, slice_set, Option, Some, None}
use Rattle.wait_cores.specs.declared.once.OnceEvent.{OnceEvent}
use Rattle.wait_cores.specs.declared.once.OnceEvent.TheVariants.{Begin, End, Leave}
use Rattle.wait_cores.specs.declared.once.OnceReply.{OnceReply}
use Rattle.wait_cores.specs.declared.once.OnceReply.TheVariants as reply
use Rattle.wait_cores.specs.declared.once.Beginning.{Beginning}
use Rattle.wait_cores.specs.declared.once.Beginning.TheVariants.{Run, Queued, Done}
use Rattle.wait_cores.specs.declared.once.OnceProgress.{OnceProgress}
use Rattle.wait_cores.specs.declared.once.OnceProgress.TheVariants.{NotRun, Running, Ended}
use Rattle.wait_cores.specs.declared.once.OncePlace.{OncePlace}
use Rattle.wait_cores.specs.declared.once.OncePlace.TheVariants.{Out, Waiting, Released}

-- not run, running by a caller, or ended with what is kept; and which callers wait for that end, or have it to take
pub record OnceState (T : Type 0) : Type 0 where
  pub progress : OnceProgress T
  pub waits : List Bool

module _ {T : Type 0} where
  -- it hasn't run, and nobody waits
  abbrev pub start : ℕ → OnceState T
  start callers = record { progress = NotRun; waits = replicate callers false }

  -- how many callers the once is for
  abbrev pub callers_of : OnceState T → ℕ
  callers_of state = length state.waits

  -- the caller that runs the function
  abbrev pub runner_in : OnceProgress T → Option ℕ
  runner_in NotRun = None
  runner_in (Running caller) = Some caller
  runner_in (Ended kept) = None

  abbrev pub runner_of : OnceState T → Option ℕ
  runner_of state = runner_in state.progress

  -- whoever waits is released by the end
  abbrev pub waiting_in : OnceProgress T → OncePlace
  waiting_in NotRun = Waiting
  waiting_in (Running caller) = Waiting
  waiting_in (Ended kept) = Released

  abbrev pub place_in : OnceProgress T → Option Bool → OncePlace
  place_in progress (Some true) = waiting_in progress
  place_in progress (Some false) = Out
  place_in progress None = Out

  -- where a caller stands
  abbrev pub place_of : OnceState T → ℕ → OncePlace
  place_of state caller = place_in state.progress (slice_get state.waits caller)

  -- the first to come runs the function, then all wait, the one that runs it too; once it has ended it is done at once
  abbrev pub come_to : OnceProgress T → OnceState T → ℕ → OnceState T × OnceReply T
  come_to NotRun state caller = (record state { progress = Running caller }, reply.Run)
  come_to (Running other) state caller = (record state { waits = slice_set state.waits caller true }, reply.Queued)
  come_to (Ended kept) state caller = (state, reply.Done kept)

  abbrev pub begin_from : OncePlace → OnceState T → ℕ → OnceState T × OnceReply T
  begin_from Out state caller = come_to state.progress state caller
  begin_from Waiting state caller = (state, reply.Still)
  begin_from Released state caller = (state, reply.Still)

  -- the one that runs the function ends it, and what it came to is kept
  abbrev pub end_by : Option ℕ → OnceState T → ℕ → T → OnceState T × OnceReply T
  end_by (Some runner) state caller kept = if runner == caller then (record state { progress = Ended kept }, reply.Ended) else (state, reply.Still)
  end_by None state caller kept = (state, reply.Still)

  -- whoever waits takes what is kept, and nobody does before the end
  abbrev pub leave_with : OnceProgress T → Option Bool → OnceState T → ℕ → OnceState T × OnceReply T
  leave_with (Ended kept) (Some true) state caller = (record state { waits = slice_set state.waits caller false }, reply.Left kept)
  leave_with (Ended kept) (Some false) state caller = (state, reply.Still)
  leave_with (Ended kept) None state caller = (state, reply.Still)
  leave_with NotRun waits state caller = (state, reply.Still)
  leave_with (Running other) waits state caller = (state, reply.Still)

  -- what each event of one of the callers does
  abbrev pub made : OnceState T → ℕ → OnceEvent T → OnceState T × OnceReply T
  made state caller Begin = begin_from (place_of state caller) state caller
  made state caller (End kept) = end_by (runner_of state) state caller kept
  made state caller Leave = leave_with state.progress (slice_get state.waits caller) state caller

  -- the state and the reply after an event. A caller that isn't one of the once's changes nothing
  abbrev pub next : OnceState T → ℕ → OnceEvent T → OnceState T × OnceReply T
  next state caller event = if nat_lt caller (callers_of state) then made state caller event else (state, reply.Still)

  -- the machine's reply that an answer of `begin` is
  abbrev pub reply_of : Beginning T → OnceReply T
  reply_of Run = reply.Run
  reply_of Queued = reply.Queued
  reply_of (Done kept) = reply.Done kept
