-- Where all workers' items spell something, the text tells a claim, and of each that it tells the clause `spell` holds.
use Rattle.std.proofs.Common.{◌≡◌, ℕ, zero, suc, ◌<◌, ◌≤◌, Bool, true, false, cond, List, [], ◌∷◌, map, length, Option, Some, None, slice_get, refl, sym, ap, ◌∙◌, subst, arith}
use Rattle.std.specs.Option.{option_map}
use Rattle.std.proofs.lemmas.Bool.{false≢true}
use Rattle.std.proofs.lemmas.Option.{none-some, same_Some}
use Rattle.sync_types.specs.declared.misuse.Misuse.{Misuse}
use Rattle.sync_model.specs.declared.item.SharedCall.TheVariants as calls
use Rattle.sync_model.specs.declared.item.SharedReply.{SharedReply}
use Rattle.sync_model.specs.declared.item.SharedReply.TheVariants as answers
use Rattle.sync_model.specs.declared.journal.Deed.{Deed}
use Rattle.sync_model.specs.declared.journal.Deed.TheVariants as deeds
use Rattle.workload.specs.Plan.{Plan}
use Rattle.workload.specs.Readable.{IsReadable}
use Rattle.run_record.specs.declared.entered.ObjectEvent.{ObjectEvent}
use Rattle.run_record.specs.declared.entered.ObjectReply.{ObjectReply}
use Rattle.run_record.specs.declared.made.Made.{Made}
use Rattle.run_record.specs.Lines.{Line}
use Rattle.list_checks.specs.declared.spell.line.SpeltLine.{SpeltLine}
use Rattle.record_text.specs.declared.answer.AnswerWord.{AnswerWord}
use Rattle.record_text.specs.declared.event.EventWord.{EventWord}
use Rattle.record_text.specs.declared.event.EventWord.TheVariants as events
use Rattle.record_text.specs.declared.item_line.ItemLine.{ItemLine}
use Rattle.record_text.specs.declared.item_line.PlacedReply.{PlacedReply}
use Rattle.record_text.specs.declared.item_line.Said.{Said}
use Rattle.record_text.specs.declared.item_line.Said.TheVariants as said
use Rattle.record_text.specs.Told.{Told, items_of, joined}
use Rattle.run_check.specs.declared.told.along.Along.{Along}
use Rattle.run_check.specs.declared.told.deeds.Speaker.{Speaker}
use Rattle.run_check.specs.declared.told.placing.Asked.{Asked}
use Rattle.run_check.specs.declared.told.sketch.Sketch.{Sketch}
use Rattle.run_check.specs.declared.told.sketch.Sketch.TheVariants as sketches
use Rattle.run_check.specs.Deeds.{answer_told, answered, deed_told, entry_told, event_told, halted_in}
use Rattle.run_check.specs.ToldItems.{Kept, Sketched, along_behind, along_start, asked_by, entered, kept_by, list_told, made_of, may_be_of, number_of, ranged_by, replied, script_call, sketch_told, sketched_before, speaker_of, worker_told}
use Rattle.run_check.specs.ToldLists as told_lists
use Rattle.run_check.specs.Replies.{reply_told}
use Rattle.record_clauses.specs.declared.clause.Clause.{Clause}
use Rattle.record_clauses.specs.declared.clause.Clause.TheVariants.{Spell}
use Rattle.record_clauses.specs.Account.{Account, Claim, ToldItem}
use Rattle.record_clauses.specs.Clauses.{Holds}
use Rattle.record_clauses.specs.Lists.{is_halt}
use Rattle.record_clauses.specs.Verdicts as claims
use Rattle.run_check.specs.declared.spelling.Spelling.{Spelling}
use Rattle.run_check.specs.Items.{told_item, told_list, unmarked_item, unmarked_made}
use Rattle.run_check.specs.Lists.{AreSpeltTo}
use Rattle.run_check.specs.Tells.{Tells, UpTo}
use Rattle.run_check.proofs.ToldLists.{mapped}
use Rattle.run_check.proofs.ReportRest.{scripts_are}
use Rattle.run_check.proofs.SpellNothing.{IsBlind}
use Rattle.run_check.proofs.SpeltClaims.{OwnLine, are_spelt, gather, own_lines}
use Rattle.run_check.proofs.ToldLists.{call_same, halt_same, paired}

-- ---- a halt is of no call

module _ (speaker : Speaker) (answer : AnswerWord) where
  no_halt : (event : ObjectEvent) (halted : Option Misuse) (deed : Deed ObjectEvent ObjectReply) → answered speaker event answer halted ≡ Some deed → told_lists.halts deed ≡ false
  no_halt event (Some misuse) deed is = sym (ap told_lists.halts (same_Some (deeds.Refused event misuse) deed is))
  no_halt event None deed is = let (reply, found, same) = mapped (deeds.Event event) (answer_told speaker event answer) deed is in sym (ap told_lists.halts same)

  no_entry : (event : Option ObjectEvent) (deed : Deed ObjectEvent ObjectReply) → entry_told speaker event answer ≡ Some deed → told_lists.halts deed ≡ false
  no_entry None deed is = absurd cc
  no_entry (Some event) deed is = no_halt event (halted_in answer) deed is

  deed_of_none : (index : Option ℕ) (word : EventWord) (deed : Deed ObjectEvent ObjectReply) → may_be_of index word ≡ true → deed_told speaker word answer ≡ Some deed → told_lists.halts deed ≡ true → index ≡ None
  deed_of_none None word deed may is halt = refl
  deed_of_none (Some index) (events.Halt misuse) deed may is halt = absurd (false≢true may)
  deed_of_none (Some index) word deed may is halt = absurd (false≢true (sym (no_entry (event_told speaker word) deed is) ∙ halt))

both_so : {X : Type 0} (b : Bool) (x : Option X) (y : X) → cond b x None ≡ Some y → (b ≡ true) × (x ≡ Some y)
both_so true x y is = (refl, is)
both_so false x y is = absurd cc

call_no_halt : (place : ℕ) (word : PlacedReply) (asked : Option Asked) (sketch : Sketch) → replied place word asked ≡ Some sketch → told_lists.is_halt sketch ≡ false
call_no_halt place word None sketch is = absurd cc
call_no_halt place word (Some asked) sketch is =
    let (answer, found, same) = mapped (λ (a : SharedReply). sketches.Shared asked.call a place) (reply_told asked.kind asked.call word) sketch is in sym (ap told_lists.is_halt same)

module _ (plan : Plan) (kept : Kept) (worker : ℕ) where
  sketch_of_none : (along : Along) (index : Option ℕ) (what : Said) (sketch : Sketch) → sketch_told plan kept worker along index what ≡ Some sketch → told_lists.is_halt sketch ≡ true → index ≡ None
  sketch_of_none along index (said.Call place word) sketch is halt = absurd (false≢true (sym (call_no_halt place word (asked_by plan (script_call plan worker index)) sketch is) ∙ halt))
  sketch_of_none along index (said.Begin reach) sketch is halt =
      let (m, found, same) = mapped (λ (m : ℕ). sketches.Shared (calls.Begin m) answers.Begun reach) (ranged_by plan (script_call plan worker index)) sketch is in absurd (false≢true (ap told_lists.is_halt same ∙ halt))
  sketch_of_none along index (said.Next reach shown) sketch is halt = absurd (false≢true (ap told_lists.is_halt (same_Some (sketches.Shared (calls.Next along.begin) (answers.Shown shown) reach) sketch is) ∙ halt))
  sketch_of_none along index (said.Entered object number event answer) sketch is halt =
      let speaker = speaker_of plan kept object worker along.sum in
      let (may, one) = both_so (may_be_of index event) (entered speaker object number event answer) sketch is in
      let (deed, found, same) = mapped (sketches.Entered object number) (deed_told speaker event answer) sketch one in
      deed_of_none speaker answer index event deed may found (ap told_lists.is_halt same ∙ halt)

  list_of_none : (along : Along) (lines : List ItemLine) (items : List Sketched) → list_told plan kept worker along lines ≡ Some items → (i : ℕ) (s : Sketched) → slice_get items i ≡ Some s → told_lists.is_halt s.sketch ≡ true → s.index ≡ None
  list_of_none along [] items is i s at halt = absurd (none-some s (subst (λ (xs : List Sketched). slice_get xs i ≡ Some s) (sym (same_Some [] items is)) at))
  list_of_none along (line ∷ lines) items is i s at halt =
      by (list_of_none (along_behind along line.said) lines) (sketch_told plan kept worker along line.index line.said) refl (list_told plan kept worker (along_behind along line.said) lines) refl is
    where
      at_place : (sketch : Sketch) → sketch_told plan kept worker along line.index line.said ≡ Some sketch → (more : List Sketched) → ((k : ℕ) (t : Sketched) → slice_get more k ≡ Some t → told_lists.is_halt t.sketch ≡ true → t.index ≡ None)
          → (k : ℕ) → slice_get (record { index = line.index; front = line.front; sketch = sketch } ∷ more) k ≡ Some s → s.index ≡ None
      at_place sketch told more each zero here =
          let same : record { index = line.index; front = line.front; sketch = sketch } ≡ s = same_Some (record { index = line.index; front = line.front; sketch = sketch }) s here in
          sym (ap (λ (x : Sketched). x.index) same) ∙ sketch_of_none along line.index line.said sketch told (ap (λ (x : Sketched). told_lists.is_halt x.sketch) same ∙ halt)
      at_place sketch told more each (suc k) here = each k s here halt

      by : ((later : List Sketched) → list_told plan kept worker (along_behind along line.said) lines ≡ Some later → (k : ℕ) (t : Sketched) → slice_get later k ≡ Some t → told_lists.is_halt t.sketch ≡ true → t.index ≡ None)
          → (one : Option Sketch) → sketch_told plan kept worker along line.index line.said ≡ one → (more : Option (List Sketched)) → list_told plan kept worker (along_behind along line.said) lines ≡ more
          → sketched_before line one more ≡ Some items → s.index ≡ None
      by each None told more rest all = absurd cc
      by each (Some sketch) told None rest all = absurd cc
      by each (Some sketch) told (Some more) rest all =
          at_place sketch told more (each more rest) i (subst (λ (xs : List Sketched). slice_get xs i ≡ Some s) (sym (same_Some (record { index = line.index; front = line.front; sketch = sketch } ∷ more) items all)) at)

module _ (told : Told) (claim : Claim) (tells : Tells told claim) where
  pub halts_of_none : (worker i : ℕ) (list : List ToldItem) (x : ToldItem) → slice_get claim.lists worker ≡ Some list → slice_get list i ≡ Some x → is_halt x.made ≡ true → x.call ≡ None
  halts_of_none worker i list x there at halt =
      let (items, is, same) = mapped (λ (ss : List Sketched). map (told_item worker) ss) (worker_told told.plan told.items worker) (map unmarked_item list) (tells.lists worker list there) in
      let (s, at_s, one) = paired (told_item worker) unmarked_item items list same i x at in
      call_same worker x s one ∙ list_of_none told.plan (kept_by told.items told.plan.workers) worker along_start (items_of told.items worker) items is i s at_s (sym (halt_same worker x s one) ∙ halt)

-- ---- a claim that is told

made_unmarked : (worker : ℕ) (front : List ℕ) (sketch : Sketch) → unmarked_made (made_of worker front sketch) ≡ made_of worker front sketch
made_unmarked worker front (sketches.Shared call reply place) = refl
made_unmarked worker front (sketches.Entered object number deed) = refl

pub told_unmarked : (worker : ℕ) (items : List Sketched) → map unmarked_item (map (told_item worker) items) ≡ map (told_item worker) items
told_unmarked worker [] = refl
told_unmarked worker (s ∷ items) =
    ap (λ (m : Made). record { made = m; call = s.index; number = number_of s.sketch } ∷ map unmarked_item (map (told_item worker) items)) (made_unmarked worker s.front s.sketch)
    ∙ ap (λ (xs : List ToldItem). told_item worker s ∷ xs) (told_unmarked worker items)

-- an account of these lines alone
abbrev pub spelt_account : Spelling → List Line → Account
spelt_account found lines = record { history = []; journals = []; lines = lines; left = record { replies = map (λ (line : SpeltLine). line.replies) found.lines; ends = [] } }

module _ (told : Told) (found : Spelling) (are : AreSpeltTo told.plan told.items told.plan.workers found) where
  abbrev IsOwnList : ℕ → List ToldItem → Type 0
  IsOwnList worker list = (items : List Sketched) × (worker_told told.plan told.items worker ≡ Some items) × (list ≡ map (told_item worker) items)

  own_list : (worker : ℕ) → worker < told.plan.workers → (list : List ToldItem) × IsOwnList worker list
  own_list worker below = let (one, at, spelt) = are.each worker below in (map (told_item worker) spelt.list, (spelt.list, spelt.told, refl))

  -- the claim in which no call is marked
  pub some_claim : (claim : Claim) × Tells told claim
  some_claim =
      let (lists, count, each) = gather IsOwnList told.plan.workers own_list in (
        record { plan = told.plan; misused = told.misused; lists = lists; report = joined told.report },
        record {
          plan = refl;
          misused = refl;
          workers = count;
          lists = λ worker list at. by worker list (each worker list at);
          report = refl;
        },
      )
    where
      by : (worker : ℕ) (list : List ToldItem) → IsOwnList worker list → told_list told worker ≡ Some (map unmarked_item list)
      by worker list (items, is, same) =
          ap (λ (o : Option (List Sketched)). option_map (λ (ss : List Sketched). map (told_item worker) ss) o) is
          ∙ ap (λ (xs : List ToldItem). Some xs) (sym (told_unmarked worker items) ∙ ap (λ (xs : List ToldItem). map unmarked_item xs) (sym same))

  pub each_spells : IsBlind → IsReadable told.plan → (claim : Claim) → Tells told claim → claims.UpTo claim Spell
  each_spells blind readable claim tells = by (own_lines blind told found are claim tells) where
    scripts : length claim.plan.scripts ≡ claim.plan.workers
    scripts = subst (λ (p : Plan). length p.scripts ≡ p.workers) (sym tells.plan) (scripts_are told.plan readable.valid)

    by : (lines : List Line) × (length lines ≡ told.plan.workers) × ((worker : ℕ) (line : Line) → slice_get lines worker ≡ Some line → OwnLine blind told found are claim tells worker line) → claims.UpTo claim Spell
    by (lines, count, own) = (spelt_account found lines, λ earlier before. holds earlier before) where
      holds : (clause : Clause) → claims.place_of clause ≤ 0 → Holds claim (spelt_account found lines) clause
      holds Spell before = are_spelt blind told found are claim tells lines count own scripts (halts_of_none told claim tells) [] [] []
      holds clause before = absurd (omega (arith, before))

  pub some_spells : IsBlind → IsReadable told.plan → UpTo told Spell
  some_spells blind readable = let (claim, tells) = some_claim in (claim, tells, each_spells blind readable claim tells)
