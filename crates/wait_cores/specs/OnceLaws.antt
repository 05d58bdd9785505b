-- What is said of the logs of a once.
use Rattle.std.specs.Prelude.{ℕ, Bool, true, false, List, [], ◌∷◌, Option, Some, None}
use Rattle.std.specs.Option.{option_or}
use Rattle.wait_cores.specs.declared.once.OnceEvent.{OnceEvent}
use Rattle.wait_cores.specs.declared.once.OnceEvent.TheVariants.{Begin, End, Leave}
use Rattle.wait_cores.specs.declared.once.OnceReply.{OnceReply}
use Rattle.wait_cores.specs.declared.once.OnceReply.TheVariants.{Run, Done, Ended, Left}
use Rattle.sync_model.specs.Log.{Entry, Follows}
use Rattle.wait_cores.specs.OnceMachine.{start, next}

abbrev pub OnceEntry : Type 0 → Type 0
OnceEntry T = Entry (OnceEvent T) (OnceReply T)

abbrev pub Log : Type 0 → Type 0
Log T = List (OnceEntry T)

module _ {T : Type 0} where
  -- the log is one of a once for so many callers, from its start on
  abbrev pub IsLog : ℕ → Log T → Type 0
  IsLog callers log = Follows next (start callers) log

  -- the caller is to run the function
  abbrev pub is_run : OnceReply T → Bool
  is_run Run = true
  is_run _ = false

  abbrev pub begins : OnceEntry T → Bool
  begins e = is_run e.reply

  -- the function has ended
  abbrev pub is_ended : OnceReply T → Bool
  is_ended Ended = true
  is_ended _ = false

  abbrev pub ends : OnceEntry T → Bool
  ends e = is_ended e.reply

  -- the value that a call returns with
  abbrev pub returned_in : OnceReply T → Option T
  returned_in (Done value) = Some value
  returned_in (Left value) = Some value
  returned_in _ = None

  -- the value that the function has come to, where it ended
  abbrev pub kept_if : OnceReply T → T → Option T
  kept_if Ended value = Some value
  kept_if _ value = None

  abbrev pub kept_in : OnceEvent T → OnceReply T → Option T
  kept_in (End value) reply = kept_if reply value
  kept_in Begin reply = None
  kept_in Leave reply = None

  -- what the function has come to in a log: the value of its first end
  abbrev pub kept_by : Log T → Option T
  kept_by [] = None
  kept_by (e ∷ log) = option_or (kept_in e.event e.reply) (kept_by log)
