-- One stage of a protocol, in what was left of a call.
use Rattle.std.proofs.Common.{◌≡◌, ℕ, List, [], ◌∷◌, map, refl, sym, ap, subst}
use Rattle.std.specs.Prelude.{Ok, Err}
use Rattle.sync_model.specs.declared.answer.Answer.TheVariants.{Done, Halted}
use Rattle.script_calls.specs.declared.call.Reply.{Reply}
use Rattle.sync_model.specs.declared.journal.Deed.{Deed}
use Rattle.sync_model.specs.declared.journal.Deed.TheVariants.{Event, Refused}
use Rattle.sync_model.specs.declared.journal.Entry.{Entry}
use Rattle.sync_types.specs.declared.misuse.Misuse.TheVariants.{UnlockOfUnlockedMutex}
use Rattle.protocols.specs.Spelling.{CallAnswer, Rest, Spells}
use Rattle.protocols.specs.declared.step.Step.{Step}
use Rattle.protocols.specs.declared.step.Step.TheVariants.{Finished, Misused, Waits, Next, Never}
use Rattle.run_record.specs.Parts.{Part, read_as, stages}
use Rattle.run_record.specs.declared.entered.ObjectEvent.{ObjectEvent}
use Rattle.run_record.specs.declared.entered.ObjectReply.{ObjectReply}
use Rattle.run_record.specs.declared.made.Made.{Made}
use Rattle.run_record.specs.declared.made.Made.TheVariants.{Entered}
use Rattle.workload.specs.Plan.{Plan}
use Rattle.step_runner.specs.declared.turns.answer.Answer.TheVariants as answers
use Rattle.step_runner.specs.Stages.{outcome_of, answer_by}
use Rattle.step_runner.specs.Recorded.{recorded_reply}
use Rattle.step_runner.specs.Tells.{Tells}

module _ {G O E R : Type 0} (event : E → ObjectEvent) (answer : R → ObjectReply) (event_of : G → ℕ → E) (meaning : G → R → Step G O) (object worker : ℕ) where
  abbrev from : G → Part O
  from stage = stages event answer event_of meaning object stage

  -- an event of the worker, in a record
  abbrev pub event_made : E → R → Made
  event_made e r = Entered object (record { caller = worker; deed = Event (event e) (answer r); front = []; knew = 0; time = 0 })

  abbrev own : E → R → Entry E R
  own e r = record { caller = worker; deed = Event e r; front = []; knew = 0; time = 0 }

  -- what the event spells, by what its answer means
  abbrev pub Says : G → Made → Step G O → Type 0
  Says stage made (Finished outcome) = from stage (made ∷ []) (Done (Ok outcome))
  Says stage made (Misused misuse) = from stage (made ∷ []) (Done (Err misuse))
  Says stage made (Waits later) = (rest : List Made) (given : CallAnswer O) → from later rest given → from stage (made ∷ rest) given
  Says stage made (Next later) = (rest : List Made) (given : CallAnswer O) → from later rest given → from stage (made ∷ rest) given
  Says stage made Never = Unit {0}

  says_on : (stage later : G) (now : ℕ) (r : R) (step : Step G O) → meaning stage r ≡ step
      → ((deeds : List (Deed E R)) (given : CallAnswer O) → Spells event_of meaning later deeds given → Rest step deeds (λ (g : G). Spells event_of meaning g deeds given) given)
      → (rest : List Made) (given : CallAnswer O) → from later rest given → from stage (event_made (event_of stage now) r ∷ rest) given
  says_on stage later now r step is on rest given (entries, are, spells) = (
    own (event_of stage now) r ∷ entries,
    ap (λ (l : List Made). event_made (event_of stage now) r ∷ l) are,
    ((now, refl), subst (λ (s : Step G O). Rest {E = E} {R = R} s (map (λ e. e.deed) entries) (λ (g : G). Spells event_of meaning g (map (λ e. e.deed) entries) given) given) (sym is) (on (map (λ e. e.deed) entries) given spells)),
  )

  pub says : (stage : G) (now : ℕ) (r : R) (step : Step G O) → meaning stage r ≡ step → Says stage (event_made (event_of stage now) r) step
  says stage now r (Finished outcome) is =
      (own (event_of stage now) r ∷ [], refl, ((now, refl), subst (λ (s : Step G O). Rest {E = E} {R = R} s [] (λ (g : G). Spells event_of meaning g [] (Done (Ok outcome))) (Done (Ok outcome))) (sym is) (refl, refl)))
  says stage now r (Misused misuse) is =
      (own (event_of stage now) r ∷ [], refl, ((now, refl), subst (λ (s : Step G O). Rest {E = E} {R = R} s [] (λ (g : G). Spells event_of meaning g [] (Done (Err misuse))) (Done (Err misuse))) (sym is) (refl, refl)))
  says stage now r (Waits later) is = says_on stage later now r (Waits later) is (λ deeds given spells. spells)
  says stage now r (Next later) is = says_on stage later now r (Next later) is (λ deeds given spells. spells)
  says stage now r Never is = tt

  -- what any part of stages may be: refused by a halt
  pub refused : (stage : G) → (rest : List Made) × from stage rest (Halted UnlockOfUnlockedMutex)
  refused stage =
      let e : Entry E R = record { caller = worker; deed = Refused (event_of stage 0) UnlockOfUnlockedMutex; front = []; knew = 0; time = 0 } in
      (Entered object (record { caller = worker; deed = Refused (event (event_of stage 0)) UnlockOfUnlockedMutex; front = []; knew = 0; time = 0 }) ∷ [], (e ∷ [], refl, ((0, refl), refl, refl)))

  module _ (plan : Plan) (f : O → Reply (List ℕ)) (reply : O → Reply ℕ) (reads : (outcome : O) → recorded_reply plan (f outcome) ≡ reply outcome) where
    -- what is left behind the stage is what its later stage spells
    abbrev pub Continues : Part (Reply ℕ) → Step G O → Type 0
    Continues new (Finished outcome) = Unit {0}
    Continues new (Misused misuse) = Unit {0}
    Continues new (Waits later) = (rest : List Made) (given : CallAnswer (Reply ℕ)) → new rest given → read_as reply (from later) rest given
    Continues new (Next later) = (rest : List Made) (given : CallAnswer (Reply ℕ)) → new rest given → read_as reply (from later) rest given
    Continues new Never = ⊥

    tells_by : (stage : G) (made : Made) (new : Part (Reply ℕ)) (step : Step G O) → Says stage made step → Continues new step
        → Tells plan (read_as reply (from stage)) new (made ∷ []) (answer_by (λ o. answers.Completed (f o)) (outcome_of step))
    tells_by stage made new (Finished outcome) said on = (Done (Ok outcome), said, ap (λ (y : Reply ℕ). Done (Ok y)) (reads outcome))
    tells_by stage made new (Misused misuse) said on = (Done (Err misuse), said, refl)
    tells_by stage made new (Waits later) said on = λ rest given left. let y = on rest given left in (y.0, said rest y.0 y.1, y.2)
    tells_by stage made new (Next later) said on = λ rest given left. let y = on rest given left in (y.0, said rest y.0 y.1, y.2)
    tells_by stage made new Never said on = absurd on

    pub stage_tells : (stage : G) (now : ℕ) (r : R) (new : Part (Reply ℕ)) → Continues new (meaning stage r)
        → Tells plan (read_as reply (from stage)) new (event_made (event_of stage now) r ∷ []) (answer_by (λ o. answers.Completed (f o)) (outcome_of (meaning stage r)))
    stage_tells stage now r new on = tells_by stage (event_made (event_of stage now) r) new (meaning stage r) (says stage now r (meaning stage r) refl) on
