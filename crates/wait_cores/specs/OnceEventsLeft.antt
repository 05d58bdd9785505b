-- What the callers of a once can still do there without a call returning: come to wait, or begin the function.
use Rattle.std.specs.Prelude.{ℕ, ◌+◌, Bool, true, false, sum_by}
use Rattle.wait_cores.specs.declared.once.OnceProgress.{OnceProgress}
use Rattle.wait_cores.specs.declared.once.OnceProgress.TheVariants.{NotRun, Running, Ended}
use Rattle.wait_cores.specs.declared.once.OnceReply.{OnceReply}
use Rattle.wait_cores.specs.declared.once.OnceReply.TheVariants as onced
use Rattle.wait_cores.specs.OnceMachine.{OnceState}

-- one for a caller that doesn't wait, and may come to
abbrev pub left_by : Bool → ℕ
left_by false = 1
left_by true = 0

module _ {T : Type 0} where
  -- one where nobody has begun the function
  abbrev pub left_in : OnceProgress T → ℕ
  left_in NotRun = 1
  left_in (Running caller) = 0
  left_in (Ended kept) = 0

  abbrev pub once_left : OnceState T → ℕ
  once_left state = left_in state.progress + sum_by left_by state.waits

  -- what an answer uses up of it: the caller is to run the function, or waits
  abbrev pub once_used : OnceReply T → ℕ
  once_used onced.Run = 1
  once_used onced.Queued = 1
  once_used (onced.Done kept) = 0
  once_used onced.Ended = 0
  once_used (onced.Left kept) = 0
  once_used onced.Still = 0

  -- what an answer gives back of it: the caller has left
  abbrev pub once_given : OnceReply T → ℕ
  once_given (onced.Left kept) = 1
  once_given onced.Run = 0
  once_given onced.Queued = 0
  once_given (onced.Done kept) = 0
  once_given onced.Ended = 0
  once_given onced.Still = 0
