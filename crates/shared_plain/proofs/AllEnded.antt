-- What the machine holds at the end is what the callers' history leaves.
use Rattle.std.proofs.Common.{◌≡◌, ℕ, ◌<◌, ◌≤◌, ◌⊎◌, inl, inr, Bool, false, List, [], length, slice_get, Option, Some, None, sym, ap, ◌∙◌, subst, arith}
use Rattle.std.proofs.lemmas.Bool.{cases_lt}
use Rattle.std.proofs.lemmas.List.{length-map}
use Rattle.sync_model.specs.declared.caller.Caller.{Caller}
use Rattle.sync_model.specs.Journal.{Begins, by, state_after}
use Rattle.sync_model.specs.Shared.{AreAllCallers, calls_of, items_of}
use Rattle.sync_model.specs.SharedHistory.{Contents, contents_after, contents_at}
use Rattle.ruled_object.specs.Gathered.{IsWhole}
use Rattle.ruled_object.specs.Notes.{held_by}
use Rattle.ruled_object.specs.Passes.{number_of, seen_by, start_of}
use Rattle.shared_plain.specs.declared.event.Event.{Event}
use Rattle.shared_plain.specs.declared.event.Answered.{Answered}
use Rattle.shared_plain.specs.declared.mark.Mark.{Mark}
use Rattle.shared_plain.specs.declared.plain.Plain.{Plain}
use Rattle.sync_model.specs.EndsOfHistory.{AreEnds}
use Rattle.shared_plain.specs.Marks.{holding, own_by, seen_of, IsMarkOf}
use Rattle.shared_plain.specs.PlainHistory.{Step, history_of, items_by}
use Rattle.shared_plain.specs.PlainMachine.{contents_of, next}
use Rattle.shared_plain.specs.Plains.{caller_count}
use Rattle.shared_plain.specs.Settling.{passes_in}
use Rattle.shared_plain.specs.Walks.{AreInOrder}
use Rattle.shared_plain.proofs.AllSettled.{PassLaws, calls_at, calls_past}
use Rattle.shared_plain.proofs.Explained.{explained}
use Rattle.shared_plain.proofs.Gathered.{own_of, at_map, item_there}
use Rattle.shared_plain.proofs.Histories.{Unseen, is_history}
use Rattle.shared_plain.proofs.Items.{history-append}
use Rattle.shared_plain.proofs.Orders.{kept_order}
use Rattle.shared_plain.proofs.Passing.{kept_items, no_items}
use Rattle.shared_plain.proofs.Walking.{Laws}

module _ (plain : Plain) (laws : PassLaws plain) (frees takes : Event → Option Answered → Bool) (callers : List (Caller Mark)) (journal : List Step) (all : AreAllCallers IsMarkOf own_by plain callers (caller_count plain))
    (whole : IsWhole next false frees takes (start_of plain.object) journal (passes_in callers)) where
  abbrev n : ℕ
  n = caller_count plain

  -- caller i, and all that it did
  record Stands (i : ℕ) (caller : Caller Mark) : Type 0 where
    is : IsMarkOf plain caller.note
    own : List Step
    held : held_by caller.note.pass ≡ Some own
    number : number_of caller.note.pass ≡ i
    begins : Begins journal (seen_by caller.note.pass)
    stays : by i journal ≡ by i (seen_by caller.note.pass)

  stands : (i : ℕ) (caller : Caller Mark) → slice_get callers i ≡ Some caller → Stands i caller
  stands i caller at =
      let is = all.each i caller at in
      let own = own_of caller.note i is.1 in
      let at_pass = at_map (λ (caller : Caller Mark). caller.note.pass) callers i caller at in
      let had = (laws.is_pass caller.note.pass own.own is.0.pass own.held).1 in
      record {
        is = is.0;
        own = own.own;
        held = own.held;
        number = own.number;
        begins = whole.seen i caller.note.pass at_pass;
        stays = sym (whole.owns i caller.note.pass at_pass) ∙ (had ∙ ((is.0.keeps own.own own.held).own_is ∙ ap (λ d. by d (seen_by caller.note.pass)) own.number));
      }

  past : (c : ℕ) → n ≤ c → by c journal ≡ []
  past c least = let count = length-map callers (λ (caller : Caller Mark). caller.note.pass) in let many = all.all in whole.callers c (omega (arith, count, many, least))

  calls_are : (c : ℕ) → calls_of own_by callers c ≡ items_by n c journal
  calls_are c = by_place (cases_lt c (length callers))
    where
      by_place : (c < length callers) ⊎ (length callers ≤ c) → calls_of own_by callers c ≡ items_by n c journal
      by_place (inl below) =
          let caller = item_there callers c below in
          let s = stands c caller.0 caller.1 in
          calls_at callers c caller.0 caller.1 ∙ (ap (λ o. items_of (holding caller.0.note o)) s.held ∙ ((λ i. items_by (s.is.callers i) (s.number i) (seen_by caller.0.note.pass)) ∙ sym (kept_items n c (seen_by caller.0.note.pass) journal s.begins s.stays)))
      by_place (inr least) = let many = all.all in calls_past callers c least ∙ sym (no_items n c [] journal (past c (omega arith)))

  in_order : (c : ℕ) → c < n → AreInOrder n c [] journal
  in_order c below =
      let many = all.all in
      let caller = item_there callers c (omega (arith, many, below)) in
      let s = stands c caller.0 caller.1 in
      let order = (s.is.keeps s.own s.held).order in
      kept_order n c (seen_by caller.0.note.pass) journal s.begins s.stays (subst (λ (z : ℕ × ℕ). AreInOrder z.0 z.1 [] (seen_by caller.0.note.pass)) (λ i. (s.is.callers i, s.number i)) order)

  pub ended : Laws → Unseen → ((start : Contents) (history : _) (k : ℕ) → length history ≤ k → contents_at start history k ≡ contents_after start history) → AreEnds own_by seen_of (contents_of (start_of plain.object)) callers (contents_of (state_after next (start_of plain.object) journal))
  ended of unseen at_end = record {
    history = history_of journal;
    begins = λ i caller at. let s = stands i caller at in (history_of s.begins.0, ap history_of s.begins.1 ∙ history-append (seen_by caller.note.pass) s.begins.0);
    lawful = of.same (contents_of (start_of plain.object)) (history_of journal) (λ c. items_by n c journal) (calls_of own_by callers) calls_are (explained of unseen at_end (start_of plain.object) n journal whole.follows in_order past).lawful;
    is = (is_history unseen false (start_of plain.object) None journal whole.follows).contents;
  }
