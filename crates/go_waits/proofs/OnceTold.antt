-- What the ends tell that a call of a once makes.
use Rattle.std.proofs.Common.{◌≡◌, inl, inr, [], ◌∷◌, ◌++◌, replicate, refl, sym, subst}
use Rattle.std.specs.Prelude.{All, Contains, Result}
use Rattle.std.proofs.lemmas.List.Elements.{All-nil, All-cons, All-append, All-replicate, All-contains}
use Rattle.sync_model.specs.declared.answer.Answer.{Answer}
use Rattle.sync_model.specs.declared.answer.Answer.TheVariants.{Done, Halted}
use Rattle.sync_model.specs.declared.journal.Deed.{Deed}
use Rattle.sync_model.specs.declared.journal.Deed.TheVariants.{Event, Refused}
use Rattle.wait_cores.specs.declared.once.OnceEvent.{OnceEvent}
use Rattle.wait_cores.specs.declared.once.OnceEvent.TheVariants.{Begin, End, Leave}
use Rattle.wait_cores.specs.declared.once.OnceReply.{OnceReply}
use Rattle.wait_cores.specs.declared.once.OnceReply.TheVariants as reply
use Rattle.go_waits.specs.declared.once_begun.OnceBegun.{OnceBegun}
use Rattle.go_waits.specs.declared.once_begun.OnceBegun.TheVariants as begun
use Rattle.go_waits.specs.declared.once_run.OnceRun.{OnceRun}
use Rattle.go_waits.specs.declared.once_run.OnceRun.TheVariants.{Ran, Already}
use Rattle.go_waits.specs.OnceCalls.{OnceDeeds, LeavesBy, Begins, Gives}
use Rattle.go_waits.specs.OnceRuns.{Runs}

module _ {T : Type 0} (told : T → Type 0) where
  -- an end tells so
  abbrev Tells : Deed (OnceEvent T) (OnceReply T) → Type 0
  Tells deed = (value : T) (r : OnceReply T) → deed ≡ Event (End value) r → told value

  one : (deed : Deed (OnceEvent T) (OnceReply T)) → Tells deed → All Tells (deed ∷ [])
  one deed tells = All-cons Tells deed [] tells (All-nil Tells)

  behind : (e : OnceReply T) (last : Deed (OnceEvent T) (OnceReply T)) → Tells last → (deeds : OnceDeeds T) → deeds ≡ Event Begin e ∷ (last ∷ []) → All Tells deeds
  behind e last tells deeds is = subst (All Tells) (sym is) (All-cons Tells (Event Begin e) (last ∷ []) (λ v r no. (cc)) (one last tells))

  left : (last : Deed (OnceEvent T) (OnceReply T)) → Tells last → (deeds : OnceDeeds T) → LeavesBy last deeds → All Tells deeds
  left last tells deeds (tries, is) =
      let stills = All-replicate Tells tries (Event Leave reply.Still) (λ v r no. (cc)) in
      subst (All Tells) (sym is) (All-cons Tells (Event Begin reply.Queued) (replicate tries (Event Leave reply.Still) ++ last ∷ []) (λ v r no. (cc)) (All-append Tells (replicate tries (Event Leave reply.Still)) (last ∷ []) stills (one last tells)))

  -- a beginning makes no end
  begun_all : (deeds : OnceDeeds T) (answer : Answer (OnceBegun T)) → Begins deeds answer → All Tells deeds
  begun_all deeds (Done (begun.Run running)) is = subst (All Tells) (sym is) (one (Event Begin reply.Run) (λ v r no. (cc)))
  begun_all deeds (Done (begun.Already kept)) (inl is) = subst (All Tells) (sym is) (one (Event Begin (reply.Done kept)) (λ v r no. (cc)))
  begun_all deeds (Done (begun.Already kept)) (inr leaves) = left (Event Leave (reply.Left kept)) (λ v r no. (cc)) deeds leaves
  begun_all deeds (Halted misuse) (inl is) = subst (All Tells) (sym is) (one (Refused Begin misuse) (λ v r no. (cc)))
  begun_all deeds (Halted misuse) (inr leaves) = left (Refused Leave misuse) (λ v r no. (cc)) deeds leaves

  same_value : (value v : T) (s r : OnceReply T) → Event (End value) s ≡ Event (End v) r → value ≡ v
  same_value value v s r is = cc

  tells_so : (value : T) → told value → Tells (Event (End value) reply.Ended)
  tells_so value so v r is = subst told (same_value value v reply.Ended r is) so

  found : (deeds : OnceDeeds T) → All Tells deeds → (value : T) (r : OnceReply T) → Contains deeds (Event (End value) r) → told value
  found deeds all value r has = All-contains Tells deeds (Event (End value) r) all has value r refl

module _ {T E : Type 0} (kept : Result Unit E → T) (result : Result Unit E → Type 0) where
  abbrev Told : T → Type 0
  Told value = (outcome : Result Unit E) × result outcome × (value ≡ kept outcome)

  runs_all : (deeds : OnceDeeds T) (answer : Answer (OnceRun E)) → Runs kept result deeds answer → All (Tells Told) deeds
  runs_all deeds (Done (Ran outcome)) (of, is) = behind Told reply.Run (Event (End (kept outcome)) reply.Ended) (tells_so Told (kept outcome) (outcome, of, refl)) deeds is
  runs_all deeds (Done Already) (value, begins) = begun_all Told deeds (Done (begun.Already value)) begins
  runs_all deeds (Halted misuse) (inl (outcome, of, is)) = behind Told reply.Run (Refused (End (kept outcome)) misuse) (λ v r no. (cc)) deeds is
  runs_all deeds (Halted misuse) (inr begins) = begun_all Told deeds (Halted misuse) begins

  pub runs_tell : (deeds : OnceDeeds T) (answer : Answer (OnceRun E)) → Runs kept result deeds answer → (value : T) (r : OnceReply T) → Contains deeds (Event (End value) r) → (outcome : Result Unit E) × result outcome × (value ≡ kept outcome)
  runs_tell deeds answer runs = found Told deeds (runs_all deeds answer runs)

module _ {T : Type 0} (result : T → Type 0) where
  gives_all : (deeds : OnceDeeds T) (answer : Answer T) → Gives result deeds answer → All (Tells result) deeds
  gives_all deeds (Done value) (inl (of, is)) = behind result reply.Run (Event (End value) reply.Ended) (tells_so result value of) deeds is
  gives_all deeds (Done value) (inr begins) = begun_all result deeds (Done (begun.Already value)) begins
  gives_all deeds (Halted misuse) (inl (value, of, is)) = behind result reply.Run (Refused (End value) misuse) (λ v r no. (cc)) deeds is
  gives_all deeds (Halted misuse) (inr begins) = begun_all result deeds (Halted misuse) begins

  pub gives_tell : (deeds : OnceDeeds T) (answer : Answer T) → Gives result deeds answer → (value : T) (r : OnceReply T) → Contains deeds (Event (End value) r) → result value
  gives_tell deeds answer gives = found result deeds (gives_all deeds answer gives)
