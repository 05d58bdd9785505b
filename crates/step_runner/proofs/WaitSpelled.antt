-- A turn at a once spells its stage.
use Rattle.std.proofs.Common.{◌≡◌, ◌≢◌, ℕ, ◌<◌, Bool, true, false, List, [], ◌∷◌, ◌++◌, refl, sym, ap, ◌∙◌, subst}
use Rattle.std.specs.Prelude.{Result, Ok, slice_get, unwrap_or, Option, Some, None}
use Rattle.sync_model.specs.declared.answer.Answer.TheVariants.{Done}
use Rattle.script_calls.specs.declared.call.Reply.{Reply}
use Rattle.wait_cores.specs.OnceMachine as once
use Rattle.wait_cores.specs.OnceStanding as once_standing
use Rattle.wait_cores.specs.declared.once.OnceEvent.{OnceEvent}
use Rattle.wait_cores.specs.declared.once.OncePlace.{OncePlace}
use Rattle.wait_cores.specs.declared.once.OncePlace.TheVariants as once_place
use Rattle.wait_cores.specs.declared.once.OnceProgress.{OnceProgress}
use Rattle.wait_cores.specs.declared.once.OnceProgress.TheVariants.{NotRun, Running, Ended as HasEnded}
use Rattle.wait_cores.specs.declared.once.OnceReply.{OnceReply}
use Rattle.wait_cores.specs.declared.once.OnceReply.TheVariants as once_reply
use Rattle.protocols.specs.OnceStages.{once_event, once_meaning}
use Rattle.protocols.specs.Spelling.{CallAnswer}
use Rattle.protocols.specs.declared.once.OnceOutcome.{OnceOutcome}
use Rattle.protocols.specs.declared.once.OnceOutcome.TheVariants.{Run, Already, Ended}
use Rattle.protocols.specs.declared.once.OnceStage.{OnceStage}
use Rattle.protocols.specs.declared.once.OnceStage.TheVariants as once_stage
use Rattle.protocols.specs.declared.step.Step.TheVariants.{Finished, Waits}
use Rattle.run_record.specs.Parts.{Part, stages}
use Rattle.run_record.specs.Record.{object_number}
use Rattle.run_record.specs.declared.entered.ObjectEvent.{ObjectEvent}
use Rattle.run_record.specs.declared.entered.ObjectReply.{ObjectReply}
use Rattle.run_record.specs.declared.made.Made.{Made}
use Rattle.workload.specs.Plan.{Plan}
use Rattle.step_runner.specs.declared.turns.answer.Answer.{Answer}
use Rattle.step_runner.specs.Due.{once_due, ran_or}
use Rattle.step_runner.specs.Stages.{outcome_of, make, answer_by}
use Rattle.step_runner.specs.Left.{once_left}
use Rattle.step_runner.specs.Recorded.{recorded_reply}
use Rattle.step_runner.specs.Tells.{Tells}
use Rattle.step_runner.specs.Within.{IsOutOfOnce, StandsAtOnce}
use Rattle.step_runner.specs.MachinesStand.{OnceStands}
use Rattle.step_runner.proofs.SpellingLaws.{may}
use Rattle.step_runner.proofs.KindTurns.{Behind}
use Rattle.step_runner.proofs.Refuted.{no}
use Rattle.step_runner.proofs.Spelled.{event_made, says}

-- ---- a once

abbrev pub once_waits : OncePlace → Bool
once_waits once_place.Out = false
once_waits once_place.Waiting = true
once_waits once_place.Released = true

module _ {T : Type 0} where
  abbrev pub OnceBehind : ℕ → once.OnceState T → Answer → Type 0
  OnceBehind x o a = Behind (StandsAtOnce x o) (IsOutOfOnce o x) a

  waits_in : (progress : OnceProgress T) (w : Option Bool) → unwrap_or w false ≡ once_waits (once.place_in progress w)
  waits_in progress None = refl
  waits_in progress (Some false) = refl
  waits_in NotRun (Some true) = refl
  waits_in (Running runner) (Some true) = refl
  waits_in (HasEnded kept) (Some true) = refl

  -- it waits by its place
  pub waits_where : (o : once.OnceState T) (x : ℕ) → once_standing.waits_at o x ≡ once_waits (once.place_of o x)
  waits_where o x = waits_in o.progress (slice_get o.waits x)

-- what the function does comes before its end
abbrev pub before_end : {T : Type 0} → List Made → Result (OnceOutcome T) Answer → List Made
before_end ended (Ok Ended) = ended
before_end ended made = []

-- the event of the stage that is due, in a record
abbrev pub due_made : {T : Type 0} → (OnceEvent T → ObjectEvent) → (OnceReply T → ObjectReply) → ℕ → ℕ → ℕ → Option (OnceStage T) → once.OnceState T → List Made
due_made event answer place worker moment None o = []
due_made event answer place worker moment (Some stage) o = event_made event answer once_event once_meaning (object_number place) worker (once_event stage moment) (once.next o worker (once_event stage moment)).1 ∷ []

module _ {T : Type 0} (event : OnceEvent T → ObjectEvent) (answer : OnceReply T → ObjectReply) (law : OnceStands T) (plan : Plan) (place worker moment : ℕ) (function : Part T) (ran returned : T → Reply ℕ) (value : T)
    (ran_reply : Reply (List ℕ)) (had : T → Reply (List ℕ)) (reads_ran : recorded_reply plan ran_reply ≡ ran value) (reads_had : (kept : T) → recorded_reply plan (had kept) ≡ returned kept)
    (ended : List Made) (is_run : function ended (Done (Ok value))) where
  abbrev part : OnceStage T → Part (OnceOutcome T)
  part stage = stages event answer once_event once_meaning (object_number place) stage

  abbrev left : Bool → Bool → Part (Reply ℕ)
  left runs waits = once_left part function ran returned runs waits

  abbrev made_of : OnceStage T → OnceReply T → Made
  made_of stage r = event_made event answer once_event once_meaning (object_number place) worker (once_event stage moment) r

  said : (stage : OnceStage T) (r : OnceReply T) (outcome : OnceOutcome T) → once_meaning stage r ≡ Finished outcome → part stage (made_of stage r ∷ []) (Done (Ok outcome))
  said stage r outcome is = says event answer once_event once_meaning (object_number place) worker stage moment r (Finished outcome) is

  abbrev OnceTells : OnceStage T → Bool → Bool → once.OnceState T → OnceReply T → Type 0
  OnceTells stage runs w n r =
      Tells plan (left runs w) (left (once_standing.runs_at n worker) (once_standing.waits_at n worker)) (before_end ended (outcome_of (once_meaning stage r)) ++ made_of stage r ∷ []) (answer_by (ran_or ran_reply had) (outcome_of (once_meaning stage r)))
      × OnceBehind worker n (answer_by (ran_or ran_reply had) (outcome_of (once_meaning stage r)))

  abbrev At : once.OnceState T → Bool → Bool → OnceReply T → Type 0
  At n runs w r = (once_standing.runs_at n worker ≡ once_standing.runs_after runs r) × (once_standing.waits_at n worker ≡ once_standing.waits_after w r)

  new_left : (n : once.OnceState T) (runs w : Bool) → once_standing.runs_at n worker ≡ runs → once_standing.waits_at n worker ≡ w → (rest : List Made) (given : CallAnswer (Reply ℕ))
      → left (once_standing.runs_at n worker) (once_standing.waits_at n worker) rest given → left runs w rest given
  new_left n runs w is waits rest given l = subst (λ (b : Bool). left b w rest given) is (subst (λ (b : Bool). left (once_standing.runs_at n worker) b rest given) waits l)

  clash : {A : Type 0} (b : Bool) → b ≡ false → b ≡ true → A
  clash b is other = no (sym is ∙ other)

  begin_tells : (n : once.OnceState T) (r : OnceReply T) → once_standing.answers_begin false r ≡ true → At n false false r → OnceTells once_stage.Begin false false n r
  begin_tells n once_reply.Run is at = (
    λ rest given l. (made_of once_stage.Begin once_reply.Run ∷ [], rest, Done (Ok Run), refl, said once_stage.Begin once_reply.Run Run refl, new_left n true false at.0 at.1 rest given l),
    λ runs. at.1,
  )
  begin_tells n (once_reply.Done kept) is at = (
    (made_of once_stage.Begin (once_reply.Done kept) ∷ [], [], Done (Ok (Already kept)), refl, said once_stage.Begin (once_reply.Done kept) (Already kept) refl, (refl, ap (λ (y : Reply ℕ). Done (Ok y)) (reads_had kept))),
    (at.1, at.0),
  )
  begin_tells n once_reply.Queued is at = (
    λ rest given l.
        let y = new_left n false true at.0 at.1 rest given l in (
          made_of once_stage.Begin once_reply.Queued ∷ y.0,
          y.1,
          y.2,
          ap (λ (l : List Made). made_of once_stage.Begin once_reply.Queued ∷ l) y.3,
          says event answer once_event once_meaning (object_number place) worker once_stage.Begin moment once_reply.Queued (Waits once_stage.Leave) refl y.0 y.2 y.4,
          y.5,
        ),
    λ runs. clash (once_standing.runs_at n worker) at.0 runs,
  )
  begin_tells n r is at = no is

  end_tells : (n : once.OnceState T) (r : OnceReply T) → once_standing.answers_end true r ≡ true → At n true false r → OnceTells (once_stage.End value) true false n r
  end_tells n once_reply.Ended is at = (
    (ended, made_of (once_stage.End value) once_reply.Ended ∷ [], Done (Ok value), refl, is_run, (Done (Ok Ended), said (once_stage.End value) once_reply.Ended Ended refl, ap (λ (y : Reply ℕ). Done (Ok y)) reads_ran)),
    (at.1, at.0),
  )
  end_tells n r is at = no is

  leave_tells : (n : once.OnceState T) (r : OnceReply T) → once_standing.answers_leaving r ≡ true → r ≢ once_reply.Still → At n false true r → OnceTells once_stage.Leave false true n r
  leave_tells n (once_reply.Left kept) is made at = (
    (made_of once_stage.Leave (once_reply.Left kept) ∷ [], [], Done (Ok (Already kept)), refl, said once_stage.Leave (once_reply.Left kept) (Already kept) refl, (refl, ap (λ (y : Reply ℕ). Done (Ok y)) (reads_had kept))),
    (at.1, at.0),
  )
  leave_tells n once_reply.Still is made at = absurd (made refl)
  leave_tells n r is made at = no is

  abbrev OnceTurn : Bool → OncePlace → once.OnceState T → Type 0
  OnceTurn runs p o =
      let made = make once.next once_event once_meaning worker moment (once_due value runs p) o in
      Tells plan (left runs (once_waits p)) (left (once_standing.runs_at made.0 worker) (once_standing.waits_at made.0 worker)) (before_end ended made.1 ++ due_made event answer place worker moment (once_due value runs p) o) (answer_by (ran_or ran_reply had) made.1)
      × OnceBehind worker made.0 (answer_by (ran_or ran_reply had) made.1)

  moved : (stage : OnceStage T) (o : once.OnceState T) (runs w : Bool) → once_standing.runs_at o worker ≡ runs → once_standing.waits_at o worker ≡ w
      → let n = once.next o worker (once_event stage moment) in At n.0 runs w n.1
  moved stage o runs w is waits =
      let n = once.next o worker (once_event stage moment) in (
        law.own_run o worker (once_event stage moment) ∙ ap (λ (b : Bool). once_standing.runs_after b n.1) is,
        law.own_wait o worker (once_event stage moment) ∙ ap (λ (b : Bool). once_standing.waits_after b n.1) waits,
      )

  is_answered : (stage : OnceStage T) (o : once.OnceState T) (runs w : Bool) → once_standing.runs_at o worker ≡ runs → once_standing.waits_at o worker ≡ w → worker < once.callers_of o
      → once_standing.answers w runs (once_event stage moment) (once.next o worker (once_event stage moment)).1 ≡ true
  is_answered stage o runs w is waits below =
      let r = (once.next o worker (once_event stage moment)).1 in
      subst (λ (b : Bool). once_standing.answers w b (once_event stage moment) r ≡ true) is
      (subst (λ (b : Bool). once_standing.answers b (once_standing.runs_at o worker) (once_event stage moment) r ≡ true) waits (law.uses.answers o worker (once_event stage moment) below))

  once_by : (runs : Bool) (p : OncePlace) (o : once.OnceState T) → once_standing.runs_at o worker ≡ runs → once.place_of o worker ≡ p → StandsAtOnce worker o → worker < once.callers_of o → OnceTurn runs p o
  once_by true once_place.Out o is at stands below =
      let waits = waits_where o worker ∙ ap once_waits at in
      let n = once.next o worker (once_event (once_stage.End value) moment) in
      end_tells n.0 n.1 (is_answered (once_stage.End value) o true false is waits below) (moved (once_stage.End value) o true false is waits)
  once_by false once_place.Out o is at stands below =
      let waits = waits_where o worker ∙ ap once_waits at in
      let n = once.next o worker (once_event once_stage.Begin moment) in
      begin_tells n.0 n.1 (is_answered once_stage.Begin o false false is waits below) (moved once_stage.Begin o false false is waits)
  once_by runs once_place.Waiting o is at stands below = (refl, stands)
  once_by true once_place.Released o is at stands below = let waits = waits_where o worker ∙ ap once_waits at in absurd (clash (once_standing.waits_at o worker) (stands is) waits)
  once_by false once_place.Released o is at stands below =
      let waits = waits_where o worker ∙ ap once_waits at in
      let e = once_event once_stage.Leave moment in
      let n = once.next o worker e in
      leave_tells n.0 n.1 (is_answered once_stage.Leave o false true is waits below)
      (law.uses.made o worker e (may worker (once.callers_of o) (once_standing.is_needed e (once.place_of o worker) (once_standing.runs_at o worker)) below (ap (λ (p : OncePlace). once_standing.is_needed e p (once_standing.runs_at o worker)) at)))
      (moved once_stage.Leave o false true is waits)

  pub once_tells : (o : once.OnceState T) → StandsAtOnce worker o → worker < once.callers_of o
      → let due = once_due value (once_standing.runs_at o worker) (once.place_of o worker) in
      let made = make once.next once_event once_meaning worker moment due o in
      Tells plan (left (once_standing.runs_at o worker) (once_standing.waits_at o worker)) (left (once_standing.runs_at made.0 worker) (once_standing.waits_at made.0 worker)) (before_end ended made.1 ++ due_made event answer place worker moment due o) (answer_by (ran_or ran_reply had) made.1)
      × OnceBehind worker made.0 (answer_by (ran_or ran_reply had) made.1)
  once_tells o stands below =
      let due = once_due value (once_standing.runs_at o worker) (once.place_of o worker) in
      let made = make once.next once_event once_meaning worker moment due o in
      subst (λ (b : Bool). Tells plan (left (once_standing.runs_at o worker) b) (left (once_standing.runs_at made.0 worker) (once_standing.waits_at made.0 worker)) (before_end ended made.1 ++ due_made event answer place worker moment due o) (answer_by (ran_or ran_reply had) made.1)
      × OnceBehind worker made.0 (answer_by (ran_or ran_reply had) made.1)) (sym (waits_where o worker))
      (once_by (once_standing.runs_at o worker) (once.place_of o worker) o refl refl stands below)
