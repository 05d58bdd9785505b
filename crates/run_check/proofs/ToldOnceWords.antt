-- Where somebody is told what a once keeps, each entry on it whose word is `end` is the end of its function, which came to that, and some worker has one.
use Rattle.std.proofs.Common.{◌≡◌, ◌⊎◌, inl, inr, ℕ, ◌<◌, ◌≤◌, ℤ, List, [], length, get_or, Some, None, slice_get, refl, sym, ap, ◌∙◌, subst}
use Rattle.std.specs.List.{AllByRecursion}
use Rattle.std.proofs.lemmas.List.{get_or_past}
use Rattle.std.proofs.lemmas.Option.{none-some, slice_get_cases}
use Rattle.sync_model.specs.declared.journal.Deed.{Deed}
use Rattle.sync_model.specs.declared.journal.Deed.TheVariants.{Event, Refused, Halt}
use Rattle.script_calls.specs.declared.outcome.Outcome.{Outcome}
use Rattle.wait_cores.specs.declared.once.OnceEvent.{OnceEvent}
use Rattle.wait_cores.specs.declared.once.OnceEvent.TheVariants as once_events
use Rattle.wait_cores.specs.declared.once.OnceReply.{OnceReply}
use Rattle.workload.specs.declared.object.ObjectKind.TheVariants as kinds
use Rattle.workload.specs.declared.object.ObjectLine.{ObjectLine}
use Rattle.workload.specs.Plan.{Plan}
use Rattle.run_record.specs.declared.entered.ObjectEvent.TheVariants as object_events
use Rattle.run_record.specs.declared.entered.ObjectReply.TheVariants as object_replies
use Rattle.run_record.specs.declared.made.Made.{Made}
use Rattle.run_record.specs.declared.made.Made.TheVariants.{Shared, Entered}
use Rattle.run_record.specs.Explains.{AreLines, IsRecordOf}
use Rattle.run_record.specs.Lines.{Line}
use Rattle.run_record.specs.Parts.{lifted_deed}
use Rattle.run_record.specs.Record.{ObjectEntry, Record, journal_of, list_of, object_number}
use Rattle.record_text.specs.declared.event.EventWord.TheVariants as events
use Rattle.record_text.specs.Written.{event_of}
use Rattle.run_check.proofs.ToldJournals.{in_journal, own_at}
use Rattle.run_check.proofs.ToldKept.{EndWordIs, EndWordOn, HasEnd, IsEnd}
use Rattle.run_check.proofs.ToldPlaces.{each_of}
use Rattle.run_check.proofs.ToldOnces.{Keeps, journal_at, once_agrees}

word_of_own : (v : ℤ) (event : OnceEvent ℤ) → ((w : ℤ) → event ≡ once_events.End w → w ≡ v) → event_of (object_events.Once event) ≡ events.End → object_events.Once event ≡ object_events.Once (once_events.End v)
word_of_own v once_events.Begin ends word = absurd cc
word_of_own v (once_events.End w) ends word = ap (λ u. object_events.Once (once_events.End u)) (ends w refl)
word_of_own v once_events.Leave ends word = absurd cc

own_word : (v : ℤ) (deed : Deed (OnceEvent ℤ) (OnceReply ℤ)) → ((w : ℤ) → IsEnd w (lifted_deed object_events.Once object_replies.Once deed) → w ≡ v) → EndWordIs v (lifted_deed object_events.Once object_replies.Once deed)
own_word v (Event event reply) ends = word_of_own v event (λ w is. ends w (subst (λ (e : OnceEvent ℤ). IsEnd w (Event (object_events.Once e) (object_replies.Once reply))) (sym is) refl))
own_word v (Refused event misuse) ends = word_of_own v event (λ w is. ends w (subst (λ (e : OnceEvent ℤ). IsEnd w (Refused (object_events.Once e) misuse)) (sym is) refl))
own_word v (Halt misuse) ends = tt

module _ (plan : Plan) (r : Record) (lawful : IsRecordOf plan r) (outcome : Outcome) (lines : List Line) (are : AreLines plan r outcome lines)
    (place : ℕ) (object : ObjectLine) (atomic : ℕ) (delta : ℤ) (there : slice_get plan.objects place ≡ Some object) (kind : object.kind ≡ kinds.Once atomic delta)
    (worker i : ℕ) (entry : ObjectEntry) (v : ℤ) (at : slice_get (list_of r worker) i ≡ Some (Entered (object_number place) entry)) (keeps : Keeps v entry.deed) where
  abbrev number : ℕ
  number = object_number place

  word_at : (other k : ℕ) (e : ObjectEntry) → slice_get (list_of r other) k ≡ Some (Entered number e) → EndWordIs v e.deed
  word_at other k e at_e =
      let (j, in_it, caller) = in_journal plan r lawful other k number e at_e in
      let (own, lifts, goes, edges) = journal_at plan r lawful place object (kinds.Once atomic delta) there kind in
      let (x, at_x, same) = own_at object_events.Once object_replies.Once (journal_of r number) own lifts j e in_it in
      let agrees = (once_agrees plan r lawful outcome lines are place object atomic delta there kind worker i entry v at keeps).1 in
      subst (λ (d : ObjectEntry). EndWordIs v d.deed) same (own_word v x.deed (λ w ends. agrees other k e w at_e (subst (λ (d : ObjectEntry). IsEnd w d.deed) same ends)))

  word_on : (other k : ℕ) (x : Made) → slice_get (list_of r other) k ≡ Some x → EndWordOn number v x
  word_on other k (Shared x) at_x = tt
  word_on other k (Entered o e) at_x = λ same. word_at other k e (at_x ∙ ap (λ (n : ℕ). Some (Entered n e)) same)

  pub end_words : (other : ℕ) → AllByRecursion (EndWordOn number v) (list_of r other)
  end_words other = each_of (EndWordOn number v) (list_of r other) (word_on other)

  -- and it is a worker's of the record
  pub has_end : (ender : ℕ) × (ender < length r.lists) × HasEnd number (list_of r ender)
  has_end =
      let ((ender, j, e, at_e, ends), agrees) = once_agrees plan r lawful outcome lines are place object atomic delta there kind worker i entry v at keeps in
      (ender, within ender j e at_e (slice_get_cases r.lists ender).1, (j, e, v, at_e, ends)) where
        within : (ender j : ℕ) (e : ObjectEntry) → slice_get (list_of r ender) j ≡ Some (Entered number e)
            → ((list : List Made) × (ender < length r.lists) × (slice_get r.lists ender ≡ Some list) × (get_or r.lists ender list ≡ list)) ⊎ ((length r.lists ≤ ender) × (slice_get r.lists ender ≡ None)) → ender < length r.lists
        within ender j e at_e (inl (list, below, here, read)) = below
        within ender j e at_e (inr (past, none)) = absurd (none-some (Entered number e) (sym (ap (λ (l : List Made). slice_get l j) (get_or_past r.lists ender [] past)) ∙ at_e))
