-- All callers' notes when they have seen the whole journal.
use Rattle.std.proofs.Common.{◌≡◌, ℕ, zero, suc, ◌<◌, ◌≤◌, ◌⊎◌, inl, inr, Bool, false, List, [], ◌∷◌, length, slice_get, Option, Some, refl, sym, ap, ◌∙◌, subst, arith}
use Rattle.std.specs.Prelude.{slice_index}
use Rattle.std.proofs.lemmas.Bool.{cases_lt}
use Rattle.std.proofs.lemmas.List.{length-map}
use Rattle.std.proofs.lemmas.Option.{none-some, same_Some, slice_get_within}
use Rattle.sync_model.specs.declared.caller.Caller.{Caller}
use Rattle.sync_model.specs.declared.item.Item.{Item}
use Rattle.sync_model.specs.Front.{AtLeast}
use Rattle.sync_model.specs.Journal.{Begins, by}
use Rattle.sync_model.specs.Shared.{IsHeldBy, AreAllCallers, SameCalls, Settled, calls_of, items_of, times_of, times_by as numbers_of}
use Rattle.sync_model.specs.SharedOrder.{InOrder}
use Rattle.sync_model.specs.SharedHistory.{Contents, contents_after, contents_at}
use Rattle.ruled_object.specs.Gathered.{AreAllPasses, IsWhole}
use Rattle.ruled_object.specs.Notes.{held_by, IsNoteOf}
use Rattle.ruled_object.specs.Passes.{number_of, seen_by, own_by as entries_of, start_of, IsPassOf}
use Rattle.shared_plain.specs.declared.event.Event.{Event}
use Rattle.shared_plain.specs.declared.event.Answered.{Answered}
use Rattle.shared_plain.specs.declared.mark.Mark.{Mark}
use Rattle.shared_plain.specs.declared.plain.Plain.{Plain}
use Rattle.shared_plain.specs.Counting.{length-items}
use Rattle.shared_plain.specs.Marks.{counts_by, front_by, holding, own_by, seen_of, KeepsOwn, IsMarkOf}
use Rattle.shared_plain.specs.PlainHistory.{Step, front_of, history_of, items_by, entry_times_of, times_by}
use Rattle.shared_plain.proofs.Numbers.{in_one_order, kept_times, no_times}
use Rattle.shared_plain.specs.PlainMachine.{contents_of, next}
use Rattle.shared_plain.specs.Plains.{caller_count}
use Rattle.shared_plain.specs.Settling.{PlainPass, passes_in, IsSameMark, AreSameMarks, IsBack}
use Rattle.shared_plain.specs.Walks.{AreInOrder}
use Rattle.shared_plain.proofs.Explained.{explained, front_at_most}
use Rattle.shared_plain.proofs.Gathered.{IsOwn, own_of, at_map, from_map, item_there}
use Rattle.shared_plain.proofs.Histories.{Unseen}
use Rattle.shared_plain.proofs.Items.{history-append}
use Rattle.shared_plain.proofs.Orders.{keeps_on}
use Rattle.shared_plain.proofs.Passing.{rises, kept_items, no_items, same_own}
use Rattle.shared_plain.proofs.Walking.{Laws, Walks}

pub calls_at : (callers : List (Caller Mark)) (c : ℕ) (caller : Caller Mark) → slice_get callers c ≡ Some caller → calls_of own_by callers c ≡ items_of (own_by caller.note)
calls_at [] c caller at = (cc)
calls_at (x ∷ xs) zero caller at = ap (λ (y : Caller Mark). items_of (own_by y.note)) (same_Some x caller at)
calls_at (x ∷ xs) (suc c) caller at = calls_at xs c caller at

pub calls_past : (callers : List (Caller Mark)) (c : ℕ) → length callers ≤ c → calls_of own_by callers c ≡ []
calls_past [] c past = refl
calls_past (x ∷ xs) zero past = absurd (omega arith)
calls_past (x ∷ xs) (suc c) past = calls_past xs c (omega arith)

-- what ruled objects say of passes and notes
pub record PassLaws (plain : Plain) : Type 0 where
  pub holds : (pass : PlainPass) → IsPassOf plain.object pass → IsNoteOf plain.object pass × (held_by pass ≡ Some (entries_of pass))
  pub is_pass : (pass : PlainPass) (own : List Step) → IsNoteOf plain.object pass → held_by pass ≡ Some own → IsPassOf plain.object pass × (entries_of pass ≡ own)

-- all callers' passes are all passes
pub all_passes : (plain : Plain) → PassLaws plain → (callers : List (Caller Mark)) → AreAllCallers IsMarkOf own_by plain callers (caller_count plain) → AreAllPasses plain.object (passes_in callers)
all_passes plain laws callers all = record {
  count = length-map callers (λ (caller : Caller Mark). caller.note.pass) ∙ all.all;
  each = λ i pass at.
      let there = from_map (λ (caller : Caller Mark). caller.note.pass) callers i pass at in
      let caller = there.0 in
      let is = all.each i caller there.1 in
      let own = own_of caller.note i is.1 in
      subst (λ (p : PlainPass). IsPassOf plain.object p × (number_of p ≡ i)) there.2 ((laws.is_pass caller.note.pass own.own is.0.pass own.held).0, own.number);
}

-- the same passes have the same numbers
pub still_numbered : (plain : Plain) (old new : List (Caller Mark)) → AreAllCallers IsMarkOf own_by plain old (caller_count plain) → AreSameMarks old new → (i : ℕ) (caller : Caller Mark) → slice_get new i ≡ Some caller → number_of caller.note.pass ≡ i
still_numbered plain old new all same i caller at =
    let below = slice_get_within new i caller at in let count = same.count in
    let before = item_there old i (omega arith) in
    (same.each i before.0 caller before.1 at).number ∙ (own_of before.0.note i (all.each i before.0 before.1).1).number

module _ (plain : Plain) (laws : PassLaws plain) (frees takes : Event → Option Answered → Bool) (old new : List (Caller Mark)) (journal : List Step) (all : AreAllCallers IsMarkOf own_by plain old (caller_count plain))
    (whole : IsWhole next false frees takes (start_of plain.object) journal (passes_in old)) (same : AreSameMarks old new) (back : (i : ℕ) (caller : Caller Mark) → slice_get new i ≡ Some caller → IsBack plain journal (passes_in old) i caller.note) where
  -- caller i before and after
  record Both (i : ℕ) (before after : Caller Mark) : Type 0 where
    was : IsMarkOf plain before.note
    own : IsOwn before.note i
    marks : IsSameMark before.note after.note
    seen : seen_by after.note.pass ≡ journal
    begins : Begins (seen_by after.note.pass) (seen_by before.note.pass)
    number : number_of after.note.pass ≡ i
    is : IsPassOf plain.object after.note.pass
    held : held_by after.note.pass ≡ Some own.own
    mine : own.own ≡ by (number_of after.note.pass) (seen_by after.note.pass)

  both : (i : ℕ) (before after : Caller Mark) → slice_get old i ≡ Some before → slice_get new i ≡ Some after → Both i before after
  both i before after at_old at_new =
      let is = all.each i before at_old in
      let own = own_of before.note i is.1 in
      let marks = same.each i before after at_old at_new in
      let now = back i after at_new in
      let at_pass = at_map (λ (caller : Caller Mark). caller.note.pass) old i before at_old in
      let had = (laws.is_pass before.note.pass own.own is.0.pass own.held).1 in
      let begins = whole.seen i before.note.pass at_pass in
      let number = marks.number ∙ own.number in
      record {
        was = is.0;
        own = own;
        marks = marks;
        seen = now.seen;
        begins = (begins.0, now.seen ∙ begins.1);
        number = number;
        is = now.is;
        held = (laws.holds after.note.pass now.is).1 ∙ ap (λ (l : List Step). Some l) (now.own before.note.pass at_pass ∙ had);
        mine = sym had ∙ (whole.owns i before.note.pass at_pass ∙ (λ k. by (sym number k) (sym now.seen k)));
      }

  is_mark : (i : ℕ) (before after : Caller Mark) → Both i before after → IsMarkOf plain after.note
  is_mark i before after b = record {
    pass = (laws.holds after.note.pass b.is).0;
    callers = b.marks.callers ∙ b.was.callers;
    keeps = λ own held. subst (KeepsOwn after.note) (same_Some b.own.own own (sym b.held ∙ held)) (keeps_on before.note after.note b.own.own b.marks.callers b.marks.number b.marks.done b.begins b.mine (b.was.keeps b.own.own b.own.held));
  }

  same_calls : (i : ℕ) (before after : Caller Mark) → Both i before after → own_by after.note ≡ own_by before.note
  same_calls i before after b =
      let c = number_of before.note.pass in
      let stays : by c (seen_by after.note.pass) ≡ by c (seen_by before.note.pass) = ap (λ d. by d (seen_by after.note.pass)) (sym b.marks.number) ∙ (sym b.mine ∙ (b.was.keeps b.own.own b.own.held).own_is) in
      same_own after.note before.note (b.held ∙ sym b.own.held) b.marks.number b.marks.callers b.marks.spare
      (λ own held. kept_items before.note.callers c (seen_by before.note.pass) (seen_by after.note.pass) b.begins stays) (λ own held. ap (λ d. times_by d (seen_by after.note.pass)) b.marks.number ∙ kept_times c (seen_by before.note.pass) (seen_by after.note.pass) b.begins stays)

  old_there : (i : ℕ) (after : Caller Mark) → slice_get new i ≡ Some after → (before : Caller Mark) × (slice_get old i ≡ Some before)
  old_there i after at = let below = slice_get_within new i after at in let count = same.count in item_there old i (omega arith)

  there : (i : ℕ) (after : Caller Mark) → slice_get new i ≡ Some after → (before : Caller Mark) × Both i before after
  there i after at = let before = old_there i after at in (before.0, both i before.0 after before.1 at)

  pub still_all : AreAllCallers IsMarkOf own_by plain new (caller_count plain)
  still_all = record {
    all = same.count ∙ all.all;
    each = λ i after at. let before = old_there i after at in let b = both i before.0 after before.1 at in (is_mark i before.0 after b, subst (IsHeldBy i) (sym (same_calls i before.0 after b)) (all.each i before.0 before.1).1);
  }

  pub still_same : SameCalls own_by front_by seen_of old new
  still_same = record {
    count = same.count;
    same = λ i before after at_old at_new. same_calls i before after (both i before after at_old at_new);
    rises = λ i before after at_old at_new. let b = both i before after at_old at_new in
        let same = b.marks.time in (
          subst (λ n. AtLeast (front_of n (seen_by after.note.pass)) (counts_by before.note)) (sym b.marks.callers) (rises before.note.callers (seen_by before.note.pass) (seen_by after.note.pass) b.begins),
          omega arith,
        );
    begins = λ i before after at_old at_new. let b = both i before after at_old at_new in (history_of b.begins.0, ap history_of b.begins.1 ∙ history-append (seen_by before.note.pass) b.begins.0);
  }

  abbrev pub n : ℕ
  n = caller_count plain

  past : (c : ℕ) → n ≤ c → by c journal ≡ []
  past c least = let count = length-map old (λ (caller : Caller Mark). caller.note.pass) in let many = all.all in whole.callers c (omega arith)

  -- the calls in the notes are those of the journal
  pub calls_are : (c : ℕ) → calls_of own_by new c ≡ items_by n c journal
  calls_are c = by_place (cases_lt c (length new))
    where
      by_place : (c < length new) ⊎ (length new ≤ c) → calls_of own_by new c ≡ items_by n c journal
      by_place (inl below) =
          let after = item_there new c below in
          let b = (there c after.0 after.1).1 in
          let callers = b.marks.callers ∙ b.was.callers in
          calls_at new c after.0 after.1 ∙ (ap (λ o. items_of (holding after.0.note o)) b.held ∙ (λ i. items_by (callers i) (b.number i) (b.seen i)))
      by_place (inr least) = let count = same.count in let many = all.all in calls_past new c least ∙ sym (no_items n c [] journal (past c (omega arith)))

  -- and so are their numbers
  times_are : (c : ℕ) → times_of own_by new c ≡ times_by c journal
  times_are c = by_place (cases_lt c (length new))
    where
      at_caller : (list : List (Caller Mark)) (d : ℕ) (caller : Caller Mark) → slice_get list d ≡ Some caller → times_of own_by list d ≡ numbers_of (own_by caller.note)
      at_caller [] d caller at = absurd (none-some caller at)
      at_caller (x ∷ xs) zero caller at = ap (λ (y : Caller Mark). numbers_of (own_by y.note)) (same_Some x caller at)
      at_caller (x ∷ xs) (suc d) caller at = at_caller xs d caller at

      past_all : (list : List (Caller Mark)) (d : ℕ) → length list ≤ d → times_of own_by list d ≡ []
      past_all [] d least = refl
      past_all (x ∷ xs) zero least = absurd (omega arith)
      past_all (x ∷ xs) (suc d) least = past_all xs d (omega arith)

      by_place : (c < length new) ⊎ (length new ≤ c) → times_of own_by new c ≡ times_by c journal
      by_place (inl below) =
          let after = item_there new c below in
          let b = (there c after.0 after.1).1 in
          at_caller new c after.0 after.1 ∙ (ap (λ o. numbers_of (holding after.0.note o)) b.held ∙ (λ i. times_by (b.number i) (b.seen i)))
      by_place (inr least) = let count = same.count in let many = all.all in past_all new c least ∙ sym (no_times c journal (past c (omega arith)))

  ordered : InOrder (history_of journal) (calls_of own_by new) (entry_times_of journal) (times_of own_by new)
  ordered = let o = in_one_order n journal whole.times in record {
    entries = o.entries;
    rise = o.rise;
    all = λ c. ap length (times_are c) ∙ o.all c ∙ ap length (sym (calls_are c));
    among = λ c j time x at at_time. o.among c j time x (ap (λ l. slice_get l j) (sym (calls_are c)) ∙ at) (ap (λ l. slice_get l j) (sym (times_are c)) ∙ at_time);
  }

  in_order : (c : ℕ) → c < n → AreInOrder n c [] journal
  in_order c below =
      let count = same.count in let many = all.all in
      let after = item_there new c (omega arith) in
      let both_is = there c after.0 after.1 in
      let b = both_is.1 in
      let order = ((is_mark c both_is.0 after.0 b).keeps b.own.own b.held).order in
      let callers = b.marks.callers ∙ b.was.callers in
      subst (λ (z : ℕ × ℕ × List Step). AreInOrder z.0 z.1 [] z.2) (λ i. (callers i, b.number i, b.seen i)) order

  pub told : Laws → Unseen → ((start : Contents) (history : _) (k : ℕ) → length history ≤ k → contents_at start history k ≡ contents_after start history)
      → Walks (contents_of (start_of plain.object)) (history_of journal) (λ c. items_by n c journal)
  told of unseen at_end = explained of unseen at_end (start_of plain.object) n journal whole.follows in_order past

  pub settled : Laws → Unseen → ((start : Contents) (history : _) (k : ℕ) → length history ≤ k → contents_at start history k ≡ contents_after start history) → Settled own_by front_by seen_of (contents_of (start_of plain.object)) new
  settled of unseen at_end = record {
    history = history_of journal;
    all = λ i caller at. ap history_of (back i caller at).seen;
    lawful = of.same (contents_of (start_of plain.object)) (history_of journal) (λ c. items_by n c journal) (calls_of own_by new) calls_are (told of unseen at_end).lawful;
    entry_times = entry_times_of journal;
    order = ordered;
    fronts = λ i c caller at.
        let b = (there i caller at).1 in
        let callers = b.marks.callers ∙ b.was.callers in
        let most = front_at_most n c journal in
        let long = length-items n c [] journal in
        let same_long = ap (λ (l : List Item). length l) (calls_are c) in
        let front : slice_index (counts_by caller.note) c ≡ slice_index (front_of n journal) c = λ k. slice_index (front_of (callers k) (b.seen k)) c in
        omega arith;
  }
