-- What a caller of a once knows from its own answers of where it stands.
use Rattle.std.specs.Prelude.{ℕ, ◌==◌, Bool, true, false, ◌&&◌, nat_lt, slice_get, unwrap_or}
use Rattle.wait_cores.specs.declared.once.OnceEvent.{OnceEvent}
use Rattle.wait_cores.specs.declared.once.OnceEvent.TheVariants.{Begin, End, Leave}
use Rattle.wait_cores.specs.declared.once.OnceReply.{OnceReply}
use Rattle.wait_cores.specs.declared.once.OnceReply.TheVariants as reply
use Rattle.wait_cores.specs.declared.once.OnceProgress.{OnceProgress}
use Rattle.wait_cores.specs.declared.once.OnceProgress.TheVariants.{NotRun, Running, Ended}
use Rattle.wait_cores.specs.declared.once.OncePlace.{OncePlace}
use Rattle.wait_cores.specs.declared.once.OncePlace.TheVariants.{Out, Waiting, Released}
use Rattle.wait_cores.specs.OnceMachine.{OnceState, callers_of, place_of}

module _ {T : Type 0} where
  -- it waits, or was released and hasn't left
  abbrev pub waits_at : OnceState T → ℕ → Bool
  waits_at state caller = unwrap_or (slice_get state.waits caller) false

  abbrev pub runs_in : OnceProgress T → ℕ → Bool
  runs_in NotRun caller = false
  runs_in (Running runner) caller = runner == caller
  runs_in (Ended kept) caller = false

  -- it runs the function
  abbrev pub runs_at : OnceState T → ℕ → Bool
  runs_at state caller = runs_in state.progress caller

  -- whether it waits after an event of its own, by whether it waited before
  abbrev pub waits_after : Bool → OnceReply T → Bool
  waits_after waits reply.Queued = true
  waits_after waits (reply.Left kept) = false
  waits_after waits reply.Run = waits
  waits_after waits (reply.Done kept) = waits
  waits_after waits reply.Ended = waits
  waits_after waits reply.Still = waits

  -- whether it runs the function, by whether it ran it before
  abbrev pub runs_after : Bool → OnceReply T → Bool
  runs_after runs reply.Run = true
  runs_after runs reply.Ended = false
  runs_after runs reply.Queued = runs
  runs_after runs (reply.Left kept) = runs
  runs_after runs (reply.Done kept) = runs
  runs_after runs reply.Still = runs

  -- one that is out is to run the function, or is queued, or returns at once; one that isn't can't begin
  abbrev pub answers_begin : Bool → OnceReply T → Bool
  answers_begin false reply.Run = true
  answers_begin false reply.Queued = true
  answers_begin false (reply.Done kept) = true
  answers_begin false (reply.Left kept) = false
  answers_begin false reply.Ended = false
  answers_begin false reply.Still = false
  answers_begin true reply.Still = true
  answers_begin true reply.Run = false
  answers_begin true reply.Queued = false
  answers_begin true (reply.Done kept) = false
  answers_begin true (reply.Left kept) = false
  answers_begin true reply.Ended = false

  -- the one that runs the function ends it, and nobody else does
  abbrev pub answers_end : Bool → OnceReply T → Bool
  answers_end true reply.Ended = true
  answers_end true reply.Run = false
  answers_end true reply.Queued = false
  answers_end true (reply.Done kept) = false
  answers_end true (reply.Left kept) = false
  answers_end true reply.Still = false
  answers_end false reply.Still = true
  answers_end false reply.Run = false
  answers_end false reply.Queued = false
  answers_end false (reply.Done kept) = false
  answers_end false (reply.Left kept) = false
  answers_end false reply.Ended = false

  abbrev pub answers_leaving : OnceReply T → Bool
  answers_leaving (reply.Left kept) = true
  answers_leaving reply.Still = true
  answers_leaving reply.Run = false
  answers_leaving reply.Queued = false
  answers_leaving (reply.Done kept) = false
  answers_leaving reply.Ended = false

  -- what an event of a caller of the once may be answered, by whether it waits and whether it runs the function
  abbrev pub answers : Bool → Bool → OnceEvent T → OnceReply T → Bool
  answers waits runs Begin reply = answers_begin waits reply
  answers waits runs (End kept) reply = answers_end runs reply
  answers waits runs Leave reply = answers_leaving reply

  -- whether it is where the event needs it, by its place and whether it runs the function
  abbrev pub is_needed : OnceEvent T → OncePlace → Bool → Bool
  is_needed Begin Out runs = true
  is_needed Begin Waiting runs = false
  is_needed Begin Released runs = false
  is_needed (End kept) place runs = runs
  is_needed Leave Released runs = true
  is_needed Leave Out runs = false
  is_needed Leave Waiting runs = false

  -- whether the caller may make the event: it is one of the once's, and where the event needs it
  abbrev pub may_make : OnceState T → ℕ → OnceEvent T → Bool
  may_make state caller event = nat_lt caller (callers_of state) && is_needed event (place_of state caller) (runs_at state caller)
