-- That the beginning of a list which spells a writer's lock is found in one way, whatever answers `Still` it has.
use Rattle.std.proofs.Common.{◌≡◌, ℕ, Bool, true, false, List, [], ◌∷◌, ◌++◌, map, get_or, Ok, sym, ap, ◌∙◌, subst}
use Rattle.sync_types.specs.declared.lock_call.LockReply.{LockReply}
use Rattle.sync_types.specs.declared.lock_call.LockReply.TheVariants as outcome
use Rattle.sync_model.specs.declared.answer.Answer.TheVariants.{Done, Halted}
use Rattle.sync_model.specs.declared.journal.Deed.TheVariants.{Event, Refused, Halt}
use Rattle.sync_model.specs.declared.journal.Entry.{Entry}
use Rattle.rw_core.specs.declared.event.RwEvent.{RwEvent}
use Rattle.rw_core.specs.declared.reply.RwReply.{RwReply}
use Rattle.rw_core.specs.Edges.{acquires}
use Rattle.protocols.specs.RwMutexStages.{rw_event, rw_meaning}
use Rattle.protocols.specs.Spelling.{CallAnswer}
use Rattle.run_record.specs.declared.entered.ObjectEvent.TheVariants as event
use Rattle.run_record.specs.declared.entered.ObjectReply.TheVariants as reply
use Rattle.run_record.specs.declared.made.Made.{Made}
use Rattle.run_record.specs.declared.made.Made.TheVariants.{Entered}
use Rattle.run_record.specs.Parts.{lifted}
use Rattle.run_record.specs.RwMutexKind.{RwDeed, WriteLocks, IsLastWhere, EndsAtFirst, write_part}
use Rattle.run_laws.specs.OneSpelling.{IsCertain}
use Rattle.run_laws.proofs.Backs.{rw_mutex_back, is_rw_mutex_back}
use Rattle.run_laws.proofs.OneWay.{deed_in, ended, tail_of}

-- a lock ends at its first event that acquires
abbrev pub LocksEnd : Type 0
LocksEnd = (deeds : List RwDeed) (answer : CallAnswer LockReply) → WriteLocks deeds answer → EndsAtFirst deeds answer

abbrev deeds_of : List (Entry RwEvent RwReply) → List RwDeed
deeds_of es = map (λ entry. entry.deed) es

module _ (object : ℕ) where
  abbrev item : Entry RwEvent RwReply → Made
  item entry = Entered object (lifted event.RwMutex reply.RwMutex entry)

  module _ (es fs : List (Entry RwEvent RwReply)) (rest more : List Made) (answer given : CallAnswer LockReply) where
    abbrev Same : Type 0
    Same = (map item es ≡ map item fs) × (rest ≡ more) × (answer ≡ given)

    at_end : (came : CallAnswer LockReply) → deeds_of es ≡ [] → deeds_of fs ≡ [] → answer ≡ came → given ≡ came → map item es ++ rest ≡ map item fs ++ more → Same
    at_end came none also is are same = ended event.RwMutex reply.RwMutex rw_mutex_back is_rw_mutex_back object rw_event rw_meaning es fs rest more answer given came none also is are same

    by_last : (b : Bool) → (EndsAtFirst (deeds_of es) answer → EndsAtFirst (deeds_of fs) given → Same)
        → IsLastWhere b (deeds_of es) answer (EndsAtFirst (deeds_of es) answer) → IsLastWhere b (deeds_of fs) given (EndsAtFirst (deeds_of fs) given) → map item es ++ rest ≡ map item fs ++ more → Same
    by_last true on one two same = at_end (Done (Ok outcome.Done)) one.0 two.0 one.1 two.1 same
    by_last false on one two same = on one two

    by_deed : (d : RwDeed) → (EndsAtFirst (deeds_of es) answer → EndsAtFirst (deeds_of fs) given → Same)
        → EndsAtFirst (d ∷ deeds_of es) answer → EndsAtFirst (d ∷ deeds_of fs) given → map item es ++ rest ≡ map item fs ++ more → Same
    by_deed (Event e r) on one two same = by_last (acquires r) on one two same
    by_deed (Refused e m) on one two same = at_end (Halted m) one.0 two.0 one.1 two.1 same
    by_deed (Halt m) on one two same = absurd one

  ends_certain : (es fs : List (Entry RwEvent RwReply)) (rest more : List Made) (answer given : CallAnswer LockReply) → EndsAtFirst (deeds_of es) answer → EndsAtFirst (deeds_of fs) given
      → map item es ++ rest ≡ map item fs ++ more → Same es fs rest more answer given
  ends_certain [] fs rest more answer given one two same = absurd one
  ends_certain (e ∷ es) [] rest more answer given one two same = absurd two
  ends_certain (e ∷ es) (f ∷ fs) rest more answer given one two same =
      let heads : item e ≡ item f = ap (λ (l : List Made). get_or l 0 (item e)) same in
      let tails : map item es ++ rest ≡ map item fs ++ more = ap (λ (l : List Made). tail_of l) same in
      let deeds : f.deed ≡ e.deed = sym (is_rw_mutex_back f.deed) ∙ (ap (λ (m : Made). rw_mutex_back (deed_in m)) (sym heads) ∙ is_rw_mutex_back e.deed) in
      let later = by_deed es fs rest more answer given e.deed (λ a b. ends_certain es fs rest more answer given a b tails) one (subst (λ (d : RwDeed). EndsAtFirst (d ∷ deeds_of fs) given) deeds two) tails in
      (ap (λ (m : Made). m ∷ map item es) heads ∙ ap (λ (l : List Made). item f ∷ l) later.0, later.1, later.2)

  pub write_certain : LocksEnd → IsCertain (write_part object)
  write_certain law items other rest more answer given (es, are, locks) (fs, also, others) same =
      let lists : map item es ++ rest ≡ map item fs ++ more = sym (ap (λ (l : List Made). l ++ rest) are) ∙ (same ∙ ap (λ (l : List Made). l ++ more) also) in
      let one = ends_certain es fs rest more answer given (law (deeds_of es) answer locks) (law (deeds_of fs) given others) lists in
      (are ∙ (one.0 ∙ sym also), one.1, one.2)
