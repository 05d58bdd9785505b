-- What a table contains at the end is what its callers' history leaves.
use Rattle.std.proofs.Common.{◌≡◌, ℕ, ◌+◌, ◌≤◌, length, sym, ap, ◌∙◌, subst, arith, inl, inr}
use Rattle.std.proofs.lemmas.Bool.{cases_lt}
use Rattle.std.proofs.lemmas.Option.{slice_get_within}
use Rattle.std.specs.Prelude.{List}
use Rattle.atomic_table.specs.Table.{Me}
use Rattle.sync_model.specs.declared.caller.Caller.{Caller}
use Rattle.sync_model.specs.Shared.{items_of, AreAllCallers, calls_of}
use Rattle.sync_model.specs.SharedCalls.{Lawful}
use Rattle.sync_model.specs.SharedHistory.{Contents, contents_after}
use Rattle.table_rule.specs.declared.view.View.{View}
use Rattle.table_rule.specs.Layout.{callers_of}
use Rattle.table_words.specs.Seats.{EndsAt}
use Rattle.table_rule.specs.Shape.{start_of}
use Rattle.table_rule.specs.Views.{held_in}
use Rattle.shared_table.specs.declared.note.SharedNote.{SharedNote}
use Rattle.shared_table.specs.declared.table.SharedTable.{SharedTable}
use Rattle.sync_model.specs.EndsOfHistory.{AreEnds}
use Rattle.shared_table.specs.Notes.{own_by, seen_by, IsNoteOf}
use Rattle.shared_table.specs.Settling.{Gathered}
use Rattle.shared_table.specs.Tables.{caller_count, first_of}
use Rattle.shared_table.proofs.Settles.{item_there, calls_at, calls_past, CountAlone}

module _ (table : SharedTable) (callers : List (Caller SharedNote)) (all : AreAllCallers IsNoteOf own_by table callers (caller_count table)) (me : Me (Unit {0}) View) (g : Gathered table callers (length callers) me) (ends : Contents) (at : EndsAt me.0 ends) where
  -- the history has the calls of exactly these callers
  calls_are : (c : ℕ) → calls_of own_by callers c ≡ at.1.calls c
  calls_are c = elim (cases_lt c (length callers)) [
    | inl below ↦
        let caller = item_there callers c below in
        let own = g.owns c caller.0 below caller.1 in
        let owned = at.1.owned c own.0 own.1 in
        let zero_number = g.number in
        let number : me.0.number + c ≡ c = omega arith in
        calls_at callers c caller.0 caller.1 ∙ ap (λ owns. items_of (held_in caller.0.note.seat.me.0.number owns)) own.2 ∙ sym (sym (ap at.1.calls number) ∙ owned.1)
    | inr past ↦ let many = all.all in calls_past callers c past ∙ sym (at.1.none_else c (subst (λ k. callers_of k ≤ c) (sym g.begin) (omega arith)))
  ]

  pub are_ends : CountAlone → AreEnds own_by seen_by (first_of table) callers ends
  are_ends same = record {
    history = at.1.log;
    begins = λ i caller at_i. let heard = g.heard i caller (slice_get_within callers i caller at_i) at_i in at.1.heard heard.0 (seen_by caller.note) heard.1;
    lawful = same (first_of table) at.1.log at.1.calls (calls_of own_by callers) calls_are (subst (λ k. Lawful (start_of k) at.1.log at.1.calls) g.begin at.1.lawful);
    is = at.2 ∙ (λ i. contents_after (start_of (g.begin i)) (at.1.is i).seen);
  }
