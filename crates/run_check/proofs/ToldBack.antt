-- A list is read back from the lines in which its items are written.
use Rattle.std.proofs.Common.{◌≡◌, ℕ, Bool, true, cond, List, [], ◌∷◌, map, Option, Some, None, refl, sym, ap, ◌∙◌, subst}
use Rattle.std.specs.Option.{option_map}
use Rattle.std.proofs.lemmas.Option.{none-some, same_Some}
use Rattle.sync_model.specs.declared.item.SharedCall.{SharedCall}
use Rattle.sync_model.specs.declared.item.SharedCall.TheVariants as calls
use Rattle.sync_model.specs.declared.item.SharedReply.{SharedReply}
use Rattle.sync_model.specs.declared.item.SharedReply.TheVariants as answers
use Rattle.sync_model.specs.declared.journal.Deed.{Deed}
use Rattle.sync_model.specs.declared.journal.Deed.TheVariants as deeds
use Rattle.workload.specs.Plan.{Plan}
use Rattle.run_record.specs.declared.entered.ObjectEvent.{ObjectEvent}
use Rattle.run_record.specs.declared.entered.ObjectReply.{ObjectReply}
use Rattle.run_record.specs.declared.made.Made.{Made}
use Rattle.run_record.specs.declared.made.Made.TheVariants.{Shared, Entered}
use Rattle.run_record.specs.Record.{ObjectEntry}
use Rattle.record_text.specs.declared.answer.AnswerWord.{AnswerWord}
use Rattle.record_text.specs.declared.answer.AnswerWord.TheVariants as words
use Rattle.record_text.specs.declared.event.EventWord.{EventWord}
use Rattle.record_text.specs.declared.event.EventWord.TheVariants as events
use Rattle.record_text.specs.declared.item_line.ItemLine.{ItemLine}
use Rattle.record_text.specs.declared.item_line.PlacedReply.{PlacedReply}
use Rattle.record_text.specs.declared.item_line.Said.{Said}
use Rattle.record_text.specs.declared.item_line.Said.TheVariants as said
use Rattle.record_text.specs.Written as written
use Rattle.run_check.specs.declared.told.along.Along.{Along}
use Rattle.run_check.specs.declared.told.placing.Asked.{Asked}
use Rattle.run_check.specs.declared.told.deeds.Speaker.{Speaker}
use Rattle.run_check.specs.declared.told.sketch.Sketch.{Sketch}
use Rattle.run_check.specs.declared.told.sketch.Sketch.TheVariants as sketches
use Rattle.run_check.specs.Deeds.{event_told}
use Rattle.run_check.specs.ToldItems.{Kept, Sketched, along_behind, asked_by, begun, entered, list_told, may_be_of, ranged_by, replied, script_call, sketch_told, sketched_before, speaker_of}
use Rattle.run_check.specs.Replies.{reply_told}
use Rattle.shared_checks.specs.Marks.{unmarked}
use Rattle.record_clauses.specs.Account.{ToldItem}
use Rattle.run_check.specs.Items.{line_of, told_item, unmarked_item}
use Rattle.run_check.proofs.ToldEntries.{DeedIs, deed_back, event_back, no_halt}
use Rattle.run_check.proofs.ToldLists.{mapped}
use Rattle.run_check.proofs.ToldReplies.{SharedReplyIs, reply_back}

module _ (plan : Plan) (kept : Kept) (worker : ℕ) where
  -- the line is read as the item, but for its mark
  abbrev Says : Along → ToldItem → ItemLine → Type 0
  Says along x line = (sketch : Sketch) × (sketch_told plan kept worker along line.index line.said ≡ Some sketch) × (told_item worker (record { index = line.index; front = line.front; sketch = sketch }) ≡ unmarked_item x)

  -- ---- when a line is read as its item

  -- the call of the script makes the call on a map or an atomic, and its reply is one of such
  abbrev pub CallIs : Along → Option ℕ → SharedCall → SharedReply → Type 0
  CallIs along index (calls.Map m call) reply = (asked : Asked) × (asked_by plan (script_call plan worker index) ≡ Some asked) × (asked.call ≡ calls.Map m call) × SharedReplyIs asked.kind (calls.Map m call) reply
  CallIs along index (calls.Atomic a call) reply = (asked : Asked) × (asked_by plan (script_call plan worker index) ≡ Some asked) × (asked.call ≡ calls.Atomic a call) × SharedReplyIs asked.kind (calls.Atomic a call) reply
  CallIs along index (calls.Begin m) reply = ranged_by plan (script_call plan worker index) ≡ Some m
  CallIs along index (calls.Next begin) reply = along.begin ≡ begin

  -- a halt is of no call
  abbrev pub HaltIs : Option ℕ → Deed ObjectEvent ObjectReply → Type 0
  HaltIs index (deeds.Halt misuse) = index ≡ None
  HaltIs index deed = Unit {0}

  -- what an item's line leaves out is what its place in the list says
  abbrev pub ItemIs : Along → Option ℕ → ℕ → Made → Type 0
  ItemIs along index number (Shared x) = CallIs along index x.call x.reply × (number ≡ 0)
  ItemIs along index number (Entered object entry) =
      DeedIs (speaker_of plan kept object worker along.sum) entry.deed × HaltIs index entry.deed × (entry.caller ≡ worker) × (entry.knew ≡ 0) × (entry.time ≡ 0)

  replied_back : (index : Option ℕ) (call : SharedCall) (reply : SharedReply) (place : ℕ) (word : PlacedReply) (asked : Asked) → asked_by plan (script_call plan worker index) ≡ Some asked → asked.call ≡ call → SharedReplyIs asked.kind call reply
      → written.shared_said place call reply ≡ Some (said.Call place word) → replied place word (asked_by plan (script_call plan worker index)) ≡ Some (sketches.Shared call reply place)
  replied_back index call reply place word asked found same is says =
      ap (replied place word) found
      ∙ ap (λ (c : SharedCall). option_map (λ (a : SharedReply). sketches.Shared c a place) (reply_told asked.kind c word)) same
      ∙ ap (option_map (λ (a : SharedReply). sketches.Shared call a place)) (reply_back asked.kind call reply place word is says)

  shared_back : (along : Along) (index : Option ℕ) (call : SharedCall) (reply : SharedReply) (place : ℕ) (s : Said) → CallIs along index call reply → written.shared_said place call reply ≡ Some s → sketch_told plan kept worker along index s ≡ Some (sketches.Shared call reply place)
  shared_back along index (calls.Map m call) (answers.Map reply) place s (asked, found, same, is) says =
      sym (ap (sketch_told plan kept worker along index) (same_Some (said.Call place (written.map_reply reply)) s says)) ∙ replied_back index (calls.Map m call) (answers.Map reply) place (written.map_reply reply) asked found same is refl
  shared_back along index (calls.Atomic a call) (answers.Atomic reply) place s (asked, found, same, is) says =
      sym (ap (sketch_told plan kept worker along index) (same_Some (said.Call place (written.atomic_reply reply)) s says)) ∙ replied_back index (calls.Atomic a call) (answers.Atomic reply) place (written.atomic_reply reply) asked found same is refl
  shared_back along index (calls.Begin m) answers.Begun place s is says =
      sym (ap (sketch_told plan kept worker along index) (same_Some (said.Begin place) s says)) ∙ ap (begun place) is
  shared_back along index (calls.Next begin) (answers.Shown shown) place s is says =
      sym (ap (sketch_told plan kept worker along index) (same_Some (said.Next place shown) s says)) ∙ ap (λ b. Some (sketches.Shared (calls.Next b) (answers.Shown shown) place)) is
  shared_back along index call reply place s is says = absurd (none-some s says)

  may_be : (index : Option ℕ) (speaker : Speaker) (word : EventWord) (event : ObjectEvent) → event_told speaker word ≡ Some event → may_be_of index word ≡ true
  may_be None speaker word event told = refl
  may_be (Some i) speaker (events.Halt misuse) event told = absurd (no_halt speaker misuse event told)
  may_be (Some i) speaker word event told = refl

  -- an entry's line is that of its words, and may be of its call
  entry_words : (index : Option ℕ) (speaker : Speaker) (object number : ℕ) (deed : Deed ObjectEvent ObjectReply) (s : Said) → DeedIs speaker deed → HaltIs index deed → written.entry_said object number deed ≡ Some s
      → (word : EventWord) × (answer : AnswerWord) × (s ≡ said.Entered object number word answer) × (may_be_of index word ≡ true)
  entry_words index speaker object number (deeds.Event event reply) s (of, meant, is) halt says =
      let (answer, found, same) = mapped (λ (a : AnswerWord). said.Entered object number (written.event_of event) a) (written.answer_of reply) s says in
      (written.event_of event, answer, sym same, may_be index speaker (written.event_of event) event (event_back speaker event of))
  entry_words index speaker object number (deeds.Refused event misuse) s of halt says =
      (written.event_of event, words.Halted misuse, sym (same_Some (said.Entered object number (written.event_of event) (words.Halted misuse)) s says), may_be index speaker (written.event_of event) event (event_back speaker event of))
  entry_words index speaker object number (deeds.Halt misuse) s of halt says =
      (events.Halt misuse, words.Done, sym (same_Some (said.Entered object number (events.Halt misuse) words.Done) s says), ap (λ i. may_be_of i (events.Halt misuse)) halt)

  entered_back : (along : Along) (index : Option ℕ) (object number : ℕ) (deed : Deed ObjectEvent ObjectReply) (s : Said) → DeedIs (speaker_of plan kept object worker along.sum) deed → HaltIs index deed → written.entry_said object number deed ≡ Some s
      → sketch_told plan kept worker along index s ≡ Some (sketches.Entered object number deed)
  entered_back along index object number deed s is halt says =
      let speaker = speaker_of plan kept object worker along.sum in
      let (word, answer, same, may) = entry_words index speaker object number deed s is halt says in
      ap (sketch_told plan kept worker along index) same
      ∙ ap (λ (b : Bool). cond b (entered speaker object number word answer) None) may
      ∙ ap (option_map (sketches.Entered object number)) (deed_back speaker object number deed word answer is (says ∙ ap Some same))

  made_back : (along : Along) (index : Option ℕ) (number : ℕ) (made : Made) (s : Said) → ItemIs along index number made → written.made_said number made ≡ Some s
      → (sketch : Sketch) × (sketch_told plan kept worker along index s ≡ Some sketch) × (told_item worker (record { index = index; front = written.front_in made; sketch = sketch }) ≡ unmarked_item (record { made = made; call = index; number = number }))
  made_back along index number (Shared x) s (is, none) says = (
    sketches.Shared x.call x.reply x.place,
    shared_back along index x.call x.reply x.place s is says,
    ap (λ (n : ℕ). record { made = Shared (unmarked x); call = index; number = n }) (sym none),
  )
  made_back along index number (Entered object entry) s (is, halt, caller, knew, time) says = (
    sketches.Entered object number entry.deed,
    entered_back along index object number entry.deed s is halt says,
    ap (λ (e : ObjectEntry). record { made = Entered object e; call = index; number = number }) (
        ap (λ (w : ℕ). record { caller = w; deed = entry.deed; front = entry.front; knew = 0; time = 0 }) (sym caller)
        ∙ ap (λ (k : ℕ). record { caller = entry.caller; deed = entry.deed; front = entry.front; knew = k; time = 0 }) (sym knew)
        ∙ ap (λ (t : ℕ). record { caller = entry.caller; deed = entry.deed; front = entry.front; knew = entry.knew; time = t }) (sym time)
        ),
  )

  -- so the line in which it is written is read as the item
  says_back : (along : Along) (x : ToldItem) (line : ItemLine) → ItemIs along x.call x.number x.made → line_of worker x ≡ Some line → Says along x line
  says_back along x line is writes =
      let (s, says, same) = mapped (λ (s : Said). record { worker = worker; index = x.call; front = written.front_in x.made; said = s }) (written.made_said x.number x.made) line writes in
      subst (Says along x) same (made_back along x.call x.number x.made s is says)

  -- each item of a list is such, with what stands before it
  abbrev pub AllAre : Along → List ToldItem → List ItemLine → Type 0
  AllAre along [] lines = Unit {0}
  AllAre along (x ∷ list) [] = ⊥
  AllAre along (x ∷ list) (line ∷ lines) = ItemIs along x.call x.number x.made × AllAre (along_behind along line.said) list lines

  -- the lines are read as the items
  abbrev AreRead : Along → List ToldItem → List ItemLine → Type 0
  AreRead along list lines = (items : List Sketched) × (list_told plan kept worker along lines ≡ Some items) × (map (told_item worker) items ≡ map unmarked_item list)

  one_more : (along : Along) (x : ToldItem) (list : List ToldItem) (line : ItemLine) (lines : List ItemLine) → Says along x line → AreRead (along_behind along line.said) list lines → AreRead along (x ∷ list) (line ∷ lines)
  one_more along x list line lines (sketch, told, same) (items, later, alike) = (
    record { index = line.index; front = line.front; sketch = sketch } ∷ items,
    ap (λ one. sketched_before line one (list_told plan kept worker (along_behind along line.said) lines)) told ∙ ap (sketched_before line (Some sketch)) later,
    ap (λ (y : ToldItem). y ∷ map (told_item worker) items) same ∙ ap (λ (ys : List ToldItem). unmarked_item x ∷ ys) alike,
  )

  -- so the lines in which they are written are
  pub list_back : (along : Along) (list : List ToldItem) (lines : List ItemLine) → map (line_of worker) list ≡ map Some lines → AllAre along list lines → AreRead along list lines
  list_back along [] [] written_so are = ([], refl, refl)
  list_back along [] (line ∷ lines) written_so are = absurd cc
  list_back along (x ∷ list) [] written_so are = absurd cc
  list_back along (x ∷ list) (line ∷ lines) written_so are =
      let first : line_of worker x ≡ Some line = cc in
      let rest : map (line_of worker) list ≡ map Some lines = cc in
      one_more along x list line lines (says_back along x line are.0 first) (list_back (along_behind along line.said) list lines rest are.1)
