-- A caller's own entries say where it stands, as the log of what the machine took does, where no halt stands.
use Rattle.std.proofs.Common.{◌≡◌, ℕ, Bool, true, false, cond, List, [], ◌∷◌, ◌++◌, Option, Some, None, refl, sym, ap, subst, ◌∙◌}
use Rattle.std.specs.Prelude.{◌==◌, if◌then◌else◌}
use Rattle.sync_types.specs.declared.misuse.Misuse.{Misuse}
use Rattle.sync_model.specs.declared.answer.Answer.TheVariants.{Done}
use Rattle.sync_model.specs.declared.journal.Deed.{Deed}
use Rattle.sync_model.specs.declared.journal.Deed.TheVariants.{Event, Refused, Halt}
use Rattle.sync_model.specs.declared.journal.Entry.{Entry}
use Rattle.sync_model.specs.Front.{Front}
use Rattle.sync_model.specs.Log as log
use Rattle.sync_model.specs.Journal.{halt_next, halt_after, halt_of, by, logged, log_of, state_next, state_after, Right, Follows}
use Rattle.ruled_object.specs.declared.pass.Pass.{Pass}
use Rattle.ruled_object.specs.Growth.{Makes}
use Rattle.ruled_object.specs.Passes.{number_of, own_by}
use Rattle.ruled_object.specs.Standing.{stand_next, stand_from, stand_by}
use Rattle.protocols.specs.declared.step.Step.{Step}
use Rattle.protocols.specs.declared.step.Step.TheVariants.{Finished, Misused, Waits, Next, Never}
use Rattle.protocols.specs.Spelling.{IsEventOf}
use Rattle.protocols.specs.Stands as stands
use Rattle.protocols.specs.Steps.{IsExpected, GainsAtItsEnd}
use Rattle.call_loop.specs.Stages.{acquires_by}

module _ {E R : Type 0} where
  halt_stays : (m : Misuse) (xs : List (Entry E R)) → halt_after (Some m) xs ≡ Some m
  halt_stays m [] = refl
  halt_stays m (x ∷ xs) = halt_stays m xs

module _ {S E R W : Type 0} (next : S → ℕ → E → S × R) (halts : Bool) (out : W) (move : W → E → R → W) where
  logged_on : (s : S) (c : ℕ) (w : W) (x : Entry E R) (d : Deed E R) (xs : List (Entry E R)) → x.deed ≡ d → Right next halts s None x.caller d → halt_after (halt_next None d) xs ≡ None
      → (halt_next None d ≡ None → (v : W) → stands.stand_from move v c (log_of xs) ≡ stand_from out move v (by c xs)) → stands.stand_from move w c (logged x.caller d (log_of xs)) ≡ stand_from out move w (cond (x.caller == c) (x ∷ by c xs) (by c xs))
  logged_on s c w x (Event e r) xs is right unhalted on = by_test (x.caller == c)
    where
      by_test : (b : Bool) → stands.stand_from move (if b then move w e r else w) c (log_of xs) ≡ stand_from out move w (cond b (x ∷ by c xs) (by c xs))
      by_test true = on refl (move w e r) ∙ ap (λ (z : Deed E R). stand_from out move (stand_next out move w z) (by c xs)) (sym is)
      by_test false = on refl w
  logged_on s c w x (Refused e m) xs is right unhalted on = (cc)
  logged_on s c w x (Halt m) xs is right unhalted on = let k = halt_stays m xs in (cc)

  pub stand_log : (s : S) (c : ℕ) (w : W) (l : List (Entry E R)) → Follows next halts s None l → halt_after None l ≡ None → stands.stand_from move w c (log_of l) ≡ stand_from out move w (by c l)
  stand_log s c w [] follows unhalted = refl
  stand_log s c w (x ∷ xs) follows unhalted =
      let rest : List (Entry E R) = xs in
      logged_on s c w x x.deed rest refl follows.0 unhalted
      (λ opens v. stand_log (state_next next s x.caller x.deed) c v xs (subst (λ (h : Option Misuse). Follows next halts (state_next next s x.caller x.deed) h rest) opens follows.1) (subst (λ (h : Option Misuse). halt_after h rest ≡ None) opens unhalted))

  -- where a caller stands behind one entry more
  pub stand_on : (own new : List (Entry E R)) (x : Entry E R) (e : E) (r : R) → new ≡ own ++ x ∷ [] → x.deed ≡ Event e r → stand_from out move out (own ++ x ∷ []) ≡ stand_next out move (stand_from out move out own) x.deed → stand_by out move new ≡ move (stand_by out move own) e r
  stand_on own new x e r is deed law = ap (λ (z : List (Entry E R)). stand_by out move z) is ∙ (law ∙ ap (λ (d : Deed E R). stand_next out move (stand_by out move own) d) deed)

module _ {S N E R G O W : Type 0} (next : S → ℕ → E → S × R) (halts : Bool) (start : S) (event_of : G → ℕ → E) (meaning : G → R → Step G O) (out : W) (move : W → E → R → W) (allows : W → G → Bool) where
  -- the answer to the event of a stage that is allowed is one that it may get
  pub comes : (stage : G) (old new : Pass S N E R) (from to : Front) (event : E) (reply : R) → Makes next halts start old from event (Done reply) new to → (of : IsEventOf event_of stage event)
      → ((before : List (Entry E R)) → Follows next halts start None before → log.Follows next start (log_of before) × (log.after next start (log_of before) ≡ state_after next start before))
      → ((entries : List (log.Entry E R)) → log.Follows next start entries → allows (stands.stand_from move out (number_of old) entries) stage ≡ true → IsExpected (meaning stage (next (log.after next start entries) (number_of old) (event_of stage of.0)).1))
      → allows (stand_by out move (own_by old)) stage ≡ true → IsExpected (meaning stage reply)
  comes stage old new from to event reply made of is_log law allowed =
      let c : ℕ = number_of old in
      let before : List (Entry E R) = made.one.before in
      let entries : List (log.Entry E R) = log_of before in
      let right = subst (λ (d : Deed E R). Right next halts (state_after next start before) (halt_of before) c d) made.deed made.grows.right.0.1 in
      let logged = is_log before made.follows in
      let stand : stands.stand_from move out c entries ≡ stand_by out move (own_by old) = stand_log next halts out move start c out before made.follows right.0 ∙ ap (λ (z : List (Entry E R)). stand_by out move z) (sym made.own) in
      let may = subst (λ (w : W). allows w stage ≡ true) (sym stand) allowed in
      let same : (next (log.after next start entries) c (event_of stage of.0)).1 ≡ reply = ap (λ (t : S). (next t c (event_of stage of.0)).1) logged.1 ∙ (ap (λ (e : E). (next (state_after next start before) c e).1) (sym of.1) ∙ sym right.1) in
      subst (λ (r : R). IsExpected (meaning stage r)) same (law entries logged.0 may)

module _ {G O : Type 0} where
  -- an event that doesn't end the call with an outcome that gains acquires nothing
  pub quiet : (gains : G → O → Bool) (stage : G) (acquired : Bool) (step : Step G O) → IsExpected step → GainsAtItsEnd gains stage acquired step → acquires_by (gains stage) (Done step) ≡ false → acquired ≡ false
  quiet gains stage acquired (Finished outcome) expected law none = law ∙ none
  quiet gains stage acquired (Misused misuse) expected law none = law
  quiet gains stage acquired (Waits later) expected law none = law.0
  quiet gains stage acquired (Next later) expected law none = law.0
  quiet gains stage acquired Never expected law none = absurd expected
