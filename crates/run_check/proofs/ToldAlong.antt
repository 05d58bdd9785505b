-- Along a list: what stands before each of its items is what the lines before it say.
use Rattle.std.proofs.Common.{◌≡◌, ℕ, ◌+◌, ℤ, List, [], ◌∷◌, map, Option, Some, sym, ap, subst}
use Rattle.std.specs.List.{AllByRecursion}
use Rattle.std.proofs.lemmas.Option.{none-some, same_Some}
use Rattle.sync_model.specs.declared.item.SharedCall.{SharedCall}
use Rattle.sync_model.specs.declared.item.SharedCall.TheVariants as calls
use Rattle.sync_model.specs.declared.item.SharedReply.{SharedReply}
use Rattle.sync_model.specs.declared.item.SharedReply.TheVariants as answers
use Rattle.sync_model.specs.declared.journal.Deed.{Deed}
use Rattle.sync_model.specs.declared.journal.Deed.TheVariants.{Event, Refused, Halt}
use Rattle.workload.specs.Plan.{Plan}
use Rattle.run_record.specs.declared.entered.ObjectEvent.{ObjectEvent}
use Rattle.run_record.specs.declared.entered.ObjectReply.{ObjectReply}
use Rattle.run_record.specs.declared.made.Made.{Made}
use Rattle.run_record.specs.declared.made.Made.TheVariants.{Shared, Entered}
use Rattle.record_text.specs.declared.answer.AnswerWord.{AnswerWord}
use Rattle.record_text.specs.declared.answer.AnswerWord.TheVariants as words
use Rattle.record_text.specs.declared.event.EventWord.TheVariants as events
use Rattle.record_text.specs.declared.item_line.ItemLine.{ItemLine}
use Rattle.record_text.specs.declared.item_line.Said.{Said}
use Rattle.record_text.specs.declared.item_line.Said.TheVariants as said
use Rattle.record_text.specs.Written as written
use Rattle.run_check.specs.declared.told.along.Along.{Along}
use Rattle.run_check.specs.ToldItems.{Kept, along_behind, script_call, speaker_of}
use Rattle.record_clauses.specs.Account.{ToldItem, made_in}
use Rattle.run_check.specs.Items.{line_of}
use Rattle.run_check.proofs.ToldBack.{AllAre, CallIs, HaltIs, ItemIs}
use Rattle.run_check.proofs.ToldCursors.{NextIs, NextsAre, begin_behind}
use Rattle.run_check.proofs.ToldEntries.{DeedIs}
use Rattle.run_check.proofs.ToldLists.{mapped}
use Rattle.run_check.proofs.ToldSums.{EndIs, SumsAre, sum_behind}
use Rattle.run_check.proofs.ToldTypes.{CallFits}

abbrev behind_call : Along → SharedCall → SharedReply → Along
behind_call along call reply = record { calls = along.calls + 1; begin = begin_behind along.calls along.begin call; sum = sum_behind along.sum call reply }

call_behind : (along : Along) (place : ℕ) (call : SharedCall) (reply : SharedReply) (s : Said) → written.shared_said place call reply ≡ Some s → along_behind along s ≡ behind_call along call reply
call_behind along place (calls.Map m call) (answers.Map reply) s says = sym (ap (along_behind along) (same_Some (said.Call place (written.map_reply reply)) s says))
call_behind along place (calls.Atomic a call) (answers.Atomic reply) s says = sym (ap (along_behind along) (same_Some (said.Call place (written.atomic_reply reply)) s says))
call_behind along place (calls.Begin m) answers.Begun s says = sym (ap (along_behind along) (same_Some (said.Begin place) s says))
call_behind along place (calls.Next begin) (answers.Shown shown) s says = sym (ap (along_behind along) (same_Some (said.Next place shown) s says))
call_behind along place call reply s says = absurd (none-some s says)

entry_behind : (along : Along) (object number : ℕ) (deed : Deed ObjectEvent ObjectReply) (s : Said) → written.entry_said object number deed ≡ Some s → along_behind along s ≡ along
entry_behind along object number (Event event reply) s says =
    let (answer, found, same) = mapped (λ (a : AnswerWord). said.Entered object number (written.event_of event) a) (written.answer_of reply) s says in
    sym (ap (along_behind along) same)
entry_behind along object number (Refused event misuse) s says = sym (ap (along_behind along) (same_Some (said.Entered object number (written.event_of event) (words.Halted misuse)) s says))
entry_behind along object number (Halt misuse) s says = sym (ap (along_behind along) (same_Some (said.Entered object number (events.Halt misuse) words.Done) s says))

module _ (plan : Plan) (kept : Kept) (worker : ℕ) where
  -- what an item is, whatever stands before it; the end of a once's function is told the sum that stands there
  abbrev pub IsSuch : Option ℕ → ℕ → Made → Type 0
  IsSuch index number (Shared x) = CallFits plan (script_call plan worker index) x.call x.reply × (number ≡ 0)
  IsSuch index number (Entered object entry) =
      ((sum : ℤ) → EndIs sum entry.deed → DeedIs (speaker_of plan kept object worker sum) entry.deed) × HaltIs plan kept worker index entry.deed × (entry.caller ≡ worker) × (entry.knew ≡ 0) × (entry.time ≡ 0)

  abbrev pub ItemIsSuch : ToldItem → Type 0
  ItemIsSuch x = IsSuch x.call x.number x.made

  call_is : (along : Along) (index : Option ℕ) (call : SharedCall) (reply : SharedReply) → CallFits plan (script_call plan worker index) call reply → NextIs along.begin call → CallIs plan kept worker along index call reply
  call_is along index (calls.Map m call) reply fits next = fits
  call_is along index (calls.Atomic a call) reply fits next = fits
  call_is along index (calls.Begin m) reply fits next = fits
  call_is along index (calls.Next begin) reply fits next = next

  -- one item, and then the others
  one_more : (along : Along) (index : Option ℕ) (number : ℕ) (made : Made) (s : Said) (list : List ToldItem) (lines : List ItemLine) → written.made_said number made ≡ Some s
      → NextsAre along.calls along.begin (made ∷ made_in list) → SumsAre along.sum (made ∷ made_in list) → IsSuch index number made
      → ((after : Along) → NextsAre after.calls after.begin (made_in list) → SumsAre after.sum (made_in list) → AllAre plan kept worker after list lines)
      → ItemIs plan kept worker along index number made × AllAre plan kept worker (along_behind along s) list lines
  one_more along index number (Shared x) s list lines says nexts sums such later = (
    (call_is along index x.call x.reply such.0 nexts.0, such.1),
    subst (λ (a : Along). AllAre plan kept worker a list lines) (sym (call_behind along x.place x.call x.reply s says)) (later (behind_call along x.call x.reply) nexts.1 sums),
  )
  one_more along index number (Entered object entry) s list lines says nexts sums such later = (
    (such.0 along.sum sums.0, such.1, such.2, such.3, such.4),
    subst (λ (a : Along). AllAre plan kept worker a list lines) (sym (entry_behind along object number entry.deed s says)) (later along nexts sums.1),
  )

  pub all_are : (along : Along) (list : List ToldItem) (lines : List ItemLine) → map (line_of worker) list ≡ map Some lines → NextsAre along.calls along.begin (made_in list) → SumsAre along.sum (made_in list) → AllByRecursion ItemIsSuch list
      → AllAre plan kept worker along list lines
  all_are along [] lines written_so nexts sums such = tt
  all_are along (x ∷ list) [] written_so nexts sums such = absurd cc
  all_are along (x ∷ list) (line ∷ lines) written_so nexts sums such =
      let first : line_of worker x ≡ Some line = cc in
      let rest : map (line_of worker) list ≡ map Some lines = cc in
      let (s, says, same) = mapped (λ (s : Said). record { worker = worker; index = x.call; front = written.front_in x.made; said = s }) (written.made_said x.number x.made) line first in
      subst (λ (l : ItemLine). ItemIs plan kept worker along x.call x.number x.made × AllAre plan kept worker (along_behind along l.said) list lines) same
      (one_more along x.call x.number x.made s list lines says nexts sums such.0 (λ after nexts_on sums_on. all_are after list lines rest nexts_on sums_on such.1))
