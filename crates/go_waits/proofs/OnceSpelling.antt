-- The calls of a once's protocol, in the words of this crate.
use Rattle.std.proofs.Common.{◌≡◌, ◌≢◌, inl, inr, ◌⊎◌, ℕ, suc, Bool, true, false, ◌≤◌, List, [], ◌∷◌, ◌++◌, replicate, None, Ok, Err, refl, sym, ap, ◌∙◌, subst}
use Rattle.std.specs.Prelude.{count_by}
use Rattle.std.proofs.lemmas.Bool.{false≢true}
use Rattle.sync_model.specs.declared.answer.Answer.{Answer}
use Rattle.sync_model.specs.declared.answer.Answer.TheVariants.{Done, Halted}
use Rattle.sync_model.specs.declared.journal.Deed.{Deed}
use Rattle.sync_model.specs.declared.journal.Deed.TheVariants.{Event, Refused, Halt}
use Rattle.sync_model.specs.Journal.{log_of, state_after, Follows}
use Rattle.sync_model.specs.Log as log
use Rattle.wait_cores.specs.declared.once.OnceEvent.{OnceEvent}
use Rattle.wait_cores.specs.declared.once.OnceEvent.TheVariants.{Begin, End, Leave}
use Rattle.wait_cores.specs.declared.once.OnceReply.{OnceReply}
use Rattle.wait_cores.specs.declared.once.OnceReply.TheVariants as reply
use Rattle.wait_cores.specs.OnceLaws.{Log, IsLog, begins}
use Rattle.wait_cores.specs.OnceMachine.{OnceState, next}
use Rattle.wait_cores.specs.OnceStanding.{waits_after, runs_after}
use Rattle.ruled_object.specs.Growth.{Placed, MeetsHalt}
use Rattle.ruled_object.specs.Passes as object
use Rattle.ruled_object.specs.Standing.{stand_next, stand_from, stand_by}
use Rattle.protocols.specs.declared.once.OnceOutcome.{OnceOutcome}
use Rattle.protocols.specs.declared.once.OnceOutcome.TheVariants as outcome
use Rattle.protocols.specs.declared.once.OnceStage.TheVariants as stage
use Rattle.protocols.specs.OnceStages.{once_event, once_meaning, once_stands, once_left, once_gives, once_gains}
use Rattle.protocols.specs.Spelling.{CallAnswer, Spells}
use Rattle.call_loop.specs.Calls.{IsGiven, left_in, has_gained}
use Rattle.go_waits.specs.declared.once.Once.{Once}
use Rattle.go_waits.specs.declared.once_begun.OnceBegun.{OnceBegun}
use Rattle.go_waits.specs.declared.once_begun.OnceBegun.TheVariants.{Run, Already}
use Rattle.go_waits.specs.Answers.{done_answer, IsBegunBy}
use Rattle.go_waits.specs.OnceCalls.{OnceDeeds, LeavesBy, Begins, EndsFunction, RunsOnce, StandsAs}
use Rattle.go_waits.specs.Onces.{OnceJournal, OncePass, waits_by, runs_by, IsOnceLawful}
use Rattle.go_waits.proofs.Calling.{ends, once_more}

module _ {T : Type 0} where
  -- a beginning, by what its protocol gives
  abbrev Comes : OnceDeeds T → CallAnswer (OnceOutcome T) → Type 0
  Comes deeds (Done (Ok outcome.Run)) = deeds ≡ Event Begin reply.Run ∷ []
  Comes deeds (Done (Ok (outcome.Already kept))) = (deeds ≡ Event Begin (reply.Done kept) ∷ []) ⊎ LeavesBy (Event Leave (reply.Left kept)) deeds
  Comes deeds (Done (Ok outcome.Ended)) = ⊥
  Comes deeds (Done (Err misuse)) = ⊥
  Comes deeds (Halted misuse) = (deeds ≡ Refused Begin misuse ∷ []) ⊎ LeavesBy (Refused Leave misuse) deeds

  -- a caller so far that was queued, and tried to leave
  abbrev tried : ℕ → OnceDeeds T
  tried count = Event Begin reply.Queued ∷ replicate count (Event Leave reply.Still)

  leaves_by : (count : ℕ) (deeds : OnceDeeds T) (answer : CallAnswer (OnceOutcome T)) → Spells once_event once_meaning stage.Leave deeds answer → Comes (tried count ++ deeds) answer
  leaves_by count [] answer spelt = absurd spelt
  leaves_by count (Event e (reply.Left kept) ∷ rest) answer (of, on) = ends Comes (tried count) (λ x. Event x (reply.Left kept)) e Leave rest answer (Done (Ok (outcome.Already kept))) of.1 on.0 on.1 (inr (count, refl))
  leaves_by count (Event e reply.Still ∷ rest) answer (of, on) =
      let more : Comes (tried count ++ Event Leave reply.Still ∷ rest) answer = subst (λ (ds : OnceDeeds T). Comes (Event Begin reply.Queued ∷ ds) answer) (once_more count (Event Leave reply.Still) rest) (leaves_by (suc count) rest answer on) in
      subst (λ (x : OnceEvent T). Comes (tried count ++ Event x reply.Still ∷ rest) answer) (sym of.1) more
  leaves_by count (Event e reply.Run ∷ rest) answer (of, on) = absurd on
  leaves_by count (Event e reply.Queued ∷ rest) answer (of, on) = absurd on
  leaves_by count (Event e (reply.Done kept) ∷ rest) answer (of, on) = absurd on
  leaves_by count (Event e reply.Ended ∷ rest) answer (of, on) = absurd on
  leaves_by count (Refused e m ∷ rest) answer (of, none, is) = ends Comes (tried count) (λ x. Refused x m) e Leave rest answer (Halted m) of.1 none is (inr (count, refl))
  leaves_by count (Halt m ∷ rest) answer spelt = absurd spelt

  comes_by : (deeds : OnceDeeds T) (answer : CallAnswer (OnceOutcome T)) → Spells once_event once_meaning stage.Begin deeds answer → Comes deeds answer
  comes_by [] answer spelt = absurd spelt
  comes_by (Event e reply.Run ∷ rest) answer (of, on) = ends Comes [] (λ x. Event x reply.Run) e Begin rest answer (Done (Ok outcome.Run)) of.1 on.0 on.1 refl
  comes_by (Event e (reply.Done kept) ∷ rest) answer (of, on) = ends Comes [] (λ x. Event x (reply.Done kept)) e Begin rest answer (Done (Ok (outcome.Already kept))) of.1 on.0 on.1 (inl refl)
  comes_by (Event e reply.Queued ∷ rest) answer (of, on) = subst (λ (x : OnceEvent T). Comes (Event x reply.Queued ∷ rest) answer) (sym of.1) (leaves_by 0 rest answer on)
  comes_by (Event e reply.Ended ∷ rest) answer (of, on) = absurd on
  comes_by (Event e (reply.Left kept) ∷ rest) answer (of, on) = absurd on
  comes_by (Event e reply.Still ∷ rest) answer (of, on) = absurd on
  comes_by (Refused e m ∷ rest) answer (of, none, is) = ends Comes [] (λ x. Refused x m) e Begin rest answer (Halted m) of.1 none is (inl refl)
  comes_by (Halt m ∷ rest) answer spelt = absurd spelt

  -- a beginning
  pub begins_by : (deeds : OnceDeeds T) (answer : CallAnswer (OnceOutcome T)) (caller : ℕ) (result : Answer (OnceBegun T)) → IsBegunBy answer caller result → Spells once_event once_meaning stage.Begin deeds answer → Begins deeds result
  begins_by deeds answer caller (Done (Run running)) is spelt = subst (Comes deeds) is.0 (comes_by deeds answer spelt)
  begins_by deeds answer caller (Done (Already kept)) is spelt = subst (Comes deeds) is (comes_by deeds answer spelt)
  begins_by deeds answer caller (Halted misuse) is spelt = subst (Comes deeds) is (comes_by deeds answer spelt)

  pub begun_meets : (es : List (Placed (OnceEvent T) (OnceReply T))) (answer : CallAnswer (OnceOutcome T)) (caller : ℕ) (result : Answer (OnceBegun T)) → IsBegunBy answer caller result → MeetsHalt es answer → MeetsHalt es result
  begun_meets es answer caller (Done (Run running)) is meets = subst (MeetsHalt es) is.0 meets
  begun_meets es answer caller (Done (Already kept)) is meets = subst (MeetsHalt es) is meets
  begun_meets es answer caller (Halted misuse) is meets = subst (MeetsHalt es) is meets

  -- it gains only where the function has ended
  pub begun_gains : (answer : CallAnswer (OnceOutcome T)) (caller : ℕ) (result : Answer (OnceBegun T)) → IsBegunBy answer caller result → ((kept : T) → result ≢ Done (Already kept)) → has_gained (once_gains stage.Begin) answer ≡ false
  begun_gains answer caller (Done (Run running)) is other = ap (has_gained (once_gains stage.Begin)) is.0
  begun_gains answer caller (Done (Already kept)) is other = absurd (other kept refl)
  begun_gains answer caller (Halted misuse) is other = ap (has_gained (once_gains stage.Begin)) is

  -- an end
  pub ends_by : (kept : T) (deeds : OnceDeeds T) (answer : CallAnswer (OnceOutcome T)) → Spells once_event once_meaning (stage.End kept) deeds answer → EndsFunction kept deeds (done_answer answer)
  ends_by kept [] answer spelt = absurd spelt
  ends_by kept (Event e reply.Ended ∷ rest) answer (of, on) = ends (λ ds a. EndsFunction kept ds (done_answer a)) [] (λ x. Event x reply.Ended) e (End kept) rest answer (Done (Ok outcome.Ended)) of.1 on.0 on.1 refl
  ends_by kept (Event e reply.Run ∷ rest) answer (of, on) = absurd on
  ends_by kept (Event e reply.Queued ∷ rest) answer (of, on) = absurd on
  ends_by kept (Event e (reply.Done other) ∷ rest) answer (of, on) = absurd on
  ends_by kept (Event e (reply.Left other) ∷ rest) answer (of, on) = absurd on
  ends_by kept (Event e reply.Still ∷ rest) answer (of, on) = absurd on
  ends_by kept (Refused e m ∷ rest) answer (of, none, is) = ends (λ ds a. EndsFunction kept ds (done_answer a)) [] (λ x. Refused x m) e (End kept) rest answer (Halted m) of.1 none is refl
  ends_by kept (Halt m ∷ rest) answer spelt = absurd spelt

  -- it leaves its caller out, and gains nothing
  pub ended_out : (kept : T) (answer : CallAnswer (OnceOutcome T)) → IsGiven (once_gives (stage.End kept)) answer → (left_in (false, false) once_left answer ≡ (false, false)) × (has_gained (once_gains (stage.End kept)) answer ≡ false)
  ended_out kept (Done (Ok outcome.Run)) given = absurd (false≢true given)
  ended_out kept (Done (Ok (outcome.Already other))) given = absurd (false≢true given)
  ended_out kept (Done (Ok outcome.Ended)) given = (refl, refl)
  ended_out kept (Done (Err misuse)) given = absurd (false≢true given)
  ended_out kept (Halted misuse) given = (refl, refl)

  -- a caller's two marks, each by itself
  abbrev Marked : OnceJournal T → Bool → Bool → Type 0
  Marked own waits runs = stand_from (false, false) once_stands (waits, runs) own ≡ (stand_from false (λ w event reply. waits_after w reply) waits own, stand_from false (λ r event reply. runs_after r reply) runs own)

  marks_next : (waits runs : Bool) (xs : OnceJournal T) (d : Deed (OnceEvent T) (OnceReply T)) → ((w r : Bool) → Marked xs w r)
      → stand_from (false, false) once_stands (stand_next (false, false) once_stands (waits, runs) d) xs
      ≡ (stand_from false (λ w event reply. waits_after w reply) (stand_next false (λ w event reply. waits_after w reply) waits d) xs, stand_from false (λ r event reply. runs_after r reply) (stand_next false (λ r event reply. runs_after r reply) runs d) xs)
  marks_next waits runs xs (Event e r) on = on (waits_after waits r) (runs_after runs r)
  marks_next waits runs xs (Refused e m) on = on false false
  marks_next waits runs xs (Halt m) on = on waits runs

  marks_from : (own : OnceJournal T) (waits runs : Bool) → Marked own waits runs
  marks_from [] waits runs = refl
  marks_from (x ∷ xs) waits runs = marks_next waits runs xs x.deed (marks_from xs)

  pub marks_by : (own : OnceJournal T) → stand_by (false, false) once_stands own ≡ (waits_by own, runs_by own)
  marks_by own = marks_from own false false

module _ {T N H : Type 0} (once : Once T N H) (pass : OncePass T N) where
  -- where a beginning leaves its caller
  pub stands_as : (answer : CallAnswer (OnceOutcome T)) (caller : ℕ) (result : Answer (OnceBegun T)) → IsBegunBy answer caller result → object.IsPassOf once.object pass → object.number_of pass ≡ caller
      → stand_by (false, false) once_stands (object.own_by pass) ≡ left_in (false, false) once_left answer → StandsAs once pass result
  stands_as answer caller (Done (Run running)) is of mine at = (record { of = of; runs = at ∙ ap (left_in (false, false) once_left) is.0 }, is.1 ∙ sym mine)
  stands_as answer caller (Done (Already kept)) is of mine at = record { of = of; stands = at ∙ ap (left_in (false, false) once_left) is }
  stands_as answer caller (Halted misuse) is of mine at = record { of = of; stands = at ∙ ap (left_in (false, false) once_left) is }

  -- what it has seen is a log of the machine's, by which the function was begun at most once
  pub runs_at_most_once : ((begin : OnceState T) (journal : OnceJournal T) → Follows next true begin None journal → log.Follows next begin (log_of journal) × (log.after next begin (log_of journal) ≡ state_after next begin journal))
      → ((callers : ℕ) (entries : Log T) → IsLog callers entries → count_by begins entries ≤ 1) → IsOnceLawful once pass → RunsOnce pass
  runs_at_most_once is_log law lawful =
      let seen = object.seen_by pass in
      law (object.callers_of once.object) (log_of seen) (subst (λ (s : OnceState T). log.Follows next s (log_of seen)) once.begins (is_log (object.start_of once.object) seen lawful.follows).0)
