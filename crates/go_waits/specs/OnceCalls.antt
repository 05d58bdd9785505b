-- Which events each call of a once makes, in order, and how it answers by them.
use Rattle.std.specs.Prelude.{◌≡◌, ◌⊎◌, ℕ, ◌≤◌, List, [], ◌∷◌, ◌++◌, replicate, count_by}
use Rattle.sync_model.specs.declared.answer.Answer.{Answer}
use Rattle.sync_model.specs.declared.answer.Answer.TheVariants.{Done, Halted}
use Rattle.sync_model.specs.declared.journal.Deed.{Deed}
use Rattle.sync_model.specs.declared.journal.Deed.TheVariants.{Event, Refused}
use Rattle.sync_model.specs.Front.{Front}
use Rattle.sync_model.specs.Journal.{log_of}
use Rattle.wait_cores.specs.declared.once.OnceEvent.{OnceEvent}
use Rattle.wait_cores.specs.declared.once.OnceEvent.TheVariants.{Begin, End, Leave}
use Rattle.wait_cores.specs.declared.once.OnceReply.{OnceReply}
use Rattle.wait_cores.specs.declared.once.OnceReply.TheVariants as reply
use Rattle.wait_cores.specs.OnceLaws.{begins}
use Rattle.ruled_object.specs.Growth.{Placed, deeds_of}
use Rattle.ruled_object.specs.Passes as object
use Rattle.go_waits.specs.declared.once_begun.OnceBegun.{OnceBegun}
use Rattle.go_waits.specs.declared.once_begun.OnceBegun.TheVariants.{Run, Already}
use Rattle.go_waits.specs.declared.once.Once.{Once}
use Rattle.go_waits.specs.Onces.{OncePass, OnceGrows, IsPassOf, IsRunnerOf}

abbrev pub OnceDeeds : Type 0 → Type 0
OnceDeeds T = List (Deed (OnceEvent T) (OnceReply T))

module _ {T : Type 0} where
  -- a caller was queued, tried any number of times to leave before it was released, and left by this deed
  abbrev pub LeavesBy : Deed (OnceEvent T) (OnceReply T) → OnceDeeds T → Type 0
  LeavesBy last deeds = (tries : ℕ) × (deeds ≡ Event Begin reply.Queued ∷ (replicate tries (Event Leave reply.Still) ++ last ∷ []))

  -- A beginning is one event, and where that queues the leaving after it. The caller is to run the function exactly where the event says so.
  abbrev pub Begins : OnceDeeds T → Answer (OnceBegun T) → Type 0
  Begins deeds (Done (Run running)) = deeds ≡ Event Begin reply.Run ∷ []
  Begins deeds (Done (Already kept)) = (deeds ≡ Event Begin (reply.Done kept) ∷ []) ⊎ LeavesBy (Event Leave (reply.Left kept)) deeds
  Begins deeds (Halted misuse) = (deeds ≡ Refused Begin misuse ∷ []) ⊎ LeavesBy (Refused Leave misuse) deeds

  -- an end is one event, which keeps what the function came to
  abbrev pub EndsFunction : T → OnceDeeds T → Answer Unit → Type 0
  EndsFunction kept deeds (Done done) = deeds ≡ Event (End kept) reply.Ended ∷ []
  EndsFunction kept deeds (Halted misuse) = deeds ≡ Refused (End kept) misuse ∷ []

  -- so far as the caller has seen, the function was begun at most once
  abbrev pub RunsOnce : {N : Type 0} → OncePass T N → Type 0
  RunsOnce pass = count_by begins (log_of (object.seen_by pass)) ≤ 1

-- The pass shows that its caller, which came with `old`, runs the function: its beginning was answered so, nobody else's was so far as it has seen, and it hasn't ended the function.
pub record HasBegun {T N H : Type 0} (once : Once T N H) (old : OncePass T N) (from : Front) (pass : OncePass T N) : Type 0 where
  pub runs : IsRunnerOf once pass
  pub alone : RunsOnce pass
  pub less : object.IsOneLess old pass
  pub front : Front
  pub entries : List (Placed (OnceEvent T) (OnceReply T))
  pub grows : OnceGrows once old from entries pass front
  pub deeds : deeds_of entries ≡ Event Begin reply.Run ∷ []

-- Where the caller stands after `begin`: it runs the function where it is to run it, and else it is between two calls.
abbrev pub StandsAs : {T N H : Type 0} → Once T N H → OncePass T N → Answer (OnceBegun T) → Type 0
StandsAs once pass (Done (Run running)) = IsRunnerOf once pass × (running.caller ≡ object.number_of pass)
StandsAs once pass (Done (Already kept)) = IsPassOf once pass
StandsAs once pass (Halted misuse) = IsPassOf once pass

-- What a stored function's call does and answers. Where the call runs the function, a result of it is kept and answered; else the answer is what is kept.
abbrev pub Gives : {T : Type 0} → (T → Type 0) → OnceDeeds T → Answer T → Type 0
Gives result deeds (Done value) = (result value × (deeds ≡ Event Begin reply.Run ∷ (Event (End value) reply.Ended ∷ []))) ⊎ Begins deeds (Done (Already value))
Gives {T} result deeds (Halted misuse) = ((value : T) × result value × (deeds ≡ Event Begin reply.Run ∷ (Refused (End value) misuse ∷ []))) ⊎ Begins {T = T} deeds (Halted misuse)
