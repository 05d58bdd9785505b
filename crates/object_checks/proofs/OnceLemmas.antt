-- A once goes on alike, whatever it keeps.
use Rattle.std.proofs.Common.{◌≡◌, ℕ, Bool, true, false, List, [], ◌∷◌, length, map, Option, Some, None, slice_get, refl, sym, ap, ◌∙◌, subst}
use Rattle.std.specs.Prelude.{◌==◌, nat_lt, if◌then◌else◌}
use Rattle.sync_types.specs.declared.misuse.Misuse.{Misuse}
use Rattle.sync_model.specs.declared.journal.Deed.{Deed}
use Rattle.sync_model.specs.declared.journal.Deed.TheVariants.{Event, Refused, Halt}
use Rattle.sync_model.specs.declared.journal.Entry.{Entry}
use Rattle.sync_model.specs.Journal.{Right, Follows, state_next, halt_next}
use Rattle.wait_cores.specs.declared.once.OnceEvent.{OnceEvent}
use Rattle.wait_cores.specs.declared.once.OnceEvent.TheVariants.{Begin, End, Leave}
use Rattle.wait_cores.specs.declared.once.OnceReply.{OnceReply}
use Rattle.wait_cores.specs.declared.once.OnceProgress.{OnceProgress}
use Rattle.wait_cores.specs.declared.once.OnceProgress.TheVariants.{NotRun, Running, Ended}
use Rattle.wait_cores.specs.declared.once.OnceReply.TheVariants as reply
use Rattle.wait_cores.specs.OnceMachine.{OnceState, next, made, begin_from, place_in, leave_with}
use Rattle.object_checks.specs.JournalOnce.{said_event, said_reply, said_deed, said, event_in, event_of, IsToldBy}

module _ {T : Type 0} (other : T) where
  abbrev without_progress : OnceProgress T → OnceProgress T
  without_progress NotRun = NotRun
  without_progress (Running caller) = Running caller
  without_progress (Ended kept) = Ended other

  abbrev state_of : OnceProgress T → List Bool → OnceState T
  state_of progress waits = record { progress = progress; waits = waits }

  abbrev without : OnceState T → OnceState T
  without s = state_of (without_progress s.progress) s.waits

  abbrev outcome : OnceState T × OnceReply T → OnceState T × OnceReply T
  outcome made = (without made.0, said_reply other made.1)

  begins : (p : OnceProgress T) (waits : List Bool) (caller : ℕ) (o : Option Bool) → begin_from (place_in (without_progress p) o) (state_of (without_progress p) waits) caller ≡ outcome (begin_from (place_in p o) (state_of p waits) caller)
  begins NotRun waits caller None = refl
  begins NotRun waits caller (Some true) = refl
  begins NotRun waits caller (Some false) = refl
  begins (Running by) waits caller None = refl
  begins (Running by) waits caller (Some true) = refl
  begins (Running by) waits caller (Some false) = refl
  begins (Ended kept) waits caller None = refl
  begins (Ended kept) waits caller (Some true) = refl
  begins (Ended kept) waits caller (Some false) = refl

  leaves : (p : OnceProgress T) (waits : List Bool) (caller : ℕ) (o : Option Bool) → leave_with (without_progress p) o (state_of (without_progress p) waits) caller ≡ outcome (leave_with p o (state_of p waits) caller)
  leaves NotRun waits caller o = refl
  leaves (Running by) waits caller o = refl
  leaves (Ended kept) waits caller None = refl
  leaves (Ended kept) waits caller (Some true) = refl
  leaves (Ended kept) waits caller (Some false) = refl

  makes : (p : OnceProgress T) (waits : List Bool) (caller : ℕ) (e : OnceEvent T) → made (state_of (without_progress p) waits) caller (said_event other e) ≡ outcome (made (state_of p waits) caller e)
  makes p waits caller Begin = begins p waits caller (slice_get waits caller)
  makes NotRun waits caller (End kept) = refl
  makes (Running by) waits caller (End kept) = either (by == caller) where
    either : (b : Bool) → (if b then (state_of (Ended other) waits, reply.Ended) else (state_of (Running by) waits, reply.Still)) ≡ outcome (if b then (state_of (Ended kept) waits, reply.Ended) else (state_of (Running by) waits, reply.Still))
    either true = refl
    either false = refl
  makes (Ended was) waits caller (End kept) = refl
  makes p waits caller Leave = leaves p waits caller (slice_get waits caller)

  goes_alike : (s : OnceState T) (caller : ℕ) (e : OnceEvent T) → next (without s) caller (said_event other e) ≡ outcome (next s caller e)
  goes_alike s caller e = either (nat_lt caller (length s.waits)) where
    either : (b : Bool) → (if b then made (without s) caller (said_event other e) else (without s, reply.Still)) ≡ outcome (if b then made s caller e else (s, reply.Still))
    either true = makes s.progress s.waits caller e
    either false = refl

  -- whatever a deed says of values, it halts alike
  halts_alike : (h : Option Misuse) (d : Deed (OnceEvent T) (OnceReply T)) → halt_next h (said_deed other d) ≡ halt_next h d
  halts_alike (Some m) d = refl
  halts_alike None (Event e r) = refl
  halts_alike None (Refused e m) = refl
  halts_alike None (Halt m) = refl

  event_halts : (h : Option Misuse) (e : OnceEvent T) (r r2 : OnceReply T) → halt_next h (Event e r) ≡ halt_next h (Event e r2)
  event_halts (Some m) e r r2 = refl
  event_halts None e r r2 = refl

  -- what follows with the values follows without them
  pub follow_without : (s : OnceState T) (h : Option Misuse) (own : List (Entry (OnceEvent T) (OnceReply T))) → Follows next true s h own → Follows next true (without s) h (map (said other) own)
  follow_without s h [] follows = tt
  follow_without s h (x ∷ own) (right, follows) = by_deed x.deed right (λ s2 h2 f. follow_without s2 h2 own f) follows where
    by_deed : (d : Deed (OnceEvent T) (OnceReply T)) → Right next true s h x.caller d → ((s2 : OnceState T) (h2 : Option Misuse) → Follows next true s2 h2 own → Follows next true (without s2) h2 (map (said other) own))
        → Follows next true (state_next next s x.caller d) (halt_next h d) own
        → Right next true (without s) h x.caller (said_deed other d) × Follows next true (state_next next (without s) x.caller (said_deed other d)) (halt_next h (said_deed other d)) (map (said other) own)
    by_deed (Event e r) (no_halt, is) later f = (
      (no_halt, ap (said_reply other) is ∙ sym (ap (λ (o : OnceState T × OnceReply T). o.1) (goes_alike s x.caller e))),
      subst (λ (h2 : Option Misuse). Follows next true (next (without s) x.caller (said_event other e)).0 h2 (map (said other) own)) (sym (halts_alike h (Event e r)))
          (subst (λ (s2 : OnceState T). Follows next true s2 (halt_next h (Event e r)) (map (said other) own)) (sym (ap (λ (o : OnceState T × OnceReply T). o.0) (goes_alike s x.caller e))) (later (next s x.caller e).0 (halt_next h (Event e r)) f)),
    )
    by_deed (Refused e m) right later f = (right, subst (λ (h2 : Option Misuse). Follows next true (without s) h2 (map (said other) own)) (sym (halts_alike h (Refused e m))) (later s (halt_next h (Refused e m)) f))
    by_deed (Halt m) right later f = (right, subst (λ (h2 : Option Misuse). Follows next true (without s) h2 (map (said other) own)) (sym (halts_alike h (Halt m))) (later s (halt_next h (Halt m)) f))

  -- what follows without the values follows with those that the machine answers
  pub told : (own : List (Entry (OnceEvent T) (OnceReply T))) (s : OnceState T) (h : Option Misuse) → Follows next true (without s) h (map (said other) own) → IsToldBy other s h own
  told [] s h follows = record { whole = []; follows = tt; alike = refl; events = refl }
  told (x ∷ own) s h (right, follows) = by_deed x.deed refl right (λ s2 h2 f. told own s2 h2 f) follows where
    joined : (d d2 : Deed (OnceEvent T) (OnceReply T)) → x.deed ≡ d → said_deed other d2 ≡ said_deed other d → event_in d2 ≡ event_in d → (h2 : Option Misuse) → halt_next h d2 ≡ h2
        → Right next true s h x.caller d2 → IsToldBy other (state_next next s x.caller d2) h2 own → IsToldBy other s h (x ∷ own)
    joined d d2 is same_said same_event h2 to_halt right rest = record {
      whole = record { caller = x.caller; deed = d2; front = x.front; knew = x.knew; time = x.time } ∷ rest.whole;
      follows = (right, subst (λ (h3 : Option Misuse). Follows next true (state_next next s x.caller d2) h3 rest.whole) (sym to_halt) rest.follows);
      alike =
          ap (λ (d3 : Deed (OnceEvent T) (OnceReply T)). record { caller = x.caller; deed = d3; front = x.front; knew = x.knew; time = x.time } ∷ map (said other) rest.whole) (same_said ∙ ap (said_deed other) (sym is))
          ∙ ap (λ (l : List (Entry (OnceEvent T) (OnceReply T))). said other x ∷ l) rest.alike;
      events = ap (λ (e : Option (OnceEvent T)). e ∷ map event_of rest.whole) (same_event ∙ ap event_in (sym is)) ∙ ap (λ (l : List (Option (OnceEvent T))). event_of x ∷ l) rest.events;
    }

    by_deed : (d : Deed (OnceEvent T) (OnceReply T)) → x.deed ≡ d → Right next true (without s) h x.caller (said_deed other d)
        → ((s2 : OnceState T) (h2 : Option Misuse) → Follows next true (without s2) h2 (map (said other) own) → IsToldBy other s2 h2 own)
        → Follows next true (state_next next (without s) x.caller (said_deed other d)) (halt_next h (said_deed other d)) (map (said other) own) → IsToldBy other s h (x ∷ own)
    by_deed (Event e r) is (no_halt, same) later f =
        let alike = goes_alike s x.caller e in
        joined (Event e r) (Event e (next s x.caller e).1) is
        (ap (λ (q : OnceReply T). Event (said_event other e) q) (sym (ap (λ (o : OnceState T × OnceReply T). o.1) alike) ∙ sym same))
        refl (halt_next h (Event e r)) (event_halts h e (next s x.caller e).1 r) (no_halt, refl)
        (later (next s x.caller e).0 (halt_next h (Event e r))
        (subst (λ (s2 : OnceState T). Follows next true s2 (halt_next h (Event e r)) (map (said other) own)) (ap (λ (o : OnceState T × OnceReply T). o.0) alike)
        (subst (λ (h2 : Option Misuse). Follows next true (next (without s) x.caller (said_event other e)).0 h2 (map (said other) own)) (halts_alike h (Event e r)) f)))
    by_deed (Refused e m) is right later f = joined (Refused e m) (Refused e m) is refl refl (halt_next h (Refused e m)) refl right
        (later s (halt_next h (Refused e m)) (subst (λ (h2 : Option Misuse). Follows next true (without s) h2 (map (said other) own)) (halts_alike h (Refused e m)) f))
    by_deed (Halt m) is right later f = joined (Halt m) (Halt m) is refl refl (halt_next h (Halt m)) refl right
        (later s (halt_next h (Halt m)) (subst (λ (h2 : Option Misuse). Follows next true (without s) h2 (map (said other) own)) (halts_alike h (Halt m)) f))
