-- A wait on a wait group that returns at 0, and one that returns at 1.
use Rattle.std.proofs.Common.{List, [], ◌∷◌, negsuc, refl, ap}
use Rattle.std.specs.Prelude.{Ok}
use Rattle.std.proofs.lemmas.Bool.{true≢false}
use Rattle.wait_cores.specs.GroupEdges.{is_done as is_done_by, group_releases, group_acquires}
use Rattle.wait_cores.specs.GroupMachine.{next}
use Rattle.wait_cores.specs.declared.group.GroupEvent.{GroupEvent}
use Rattle.wait_cores.specs.declared.group.GroupEvent.TheVariants.{Add, Wait}
use Rattle.wait_cores.specs.declared.group.GroupReply.{GroupReply}
use Rattle.wait_cores.specs.declared.group.GroupReply.TheVariants as grouped
use Rattle.script_calls.specs.declared.call.Call.{Call}
use Rattle.script_calls.specs.declared.call.Operation.TheVariants as operations
use Rattle.script_calls.specs.declared.call.Reply.TheVariants.{Returned}
use Rattle.script_calls.specs.declared.outcome.Outcome.{Outcome}
use Rattle.sync_model.specs.declared.answer.Answer.TheVariants.{Done}
use Rattle.sync_model.specs.declared.journal.Entry.{Entry}
use Rattle.sync_types.specs.declared.wait_call.WaitGroupCall.TheVariants as calls
use Rattle.workload.specs.declared.object.ObjectKind.TheVariants.{WaitGroup}
use Rattle.run_record.specs.declared.entered.ObjectEvent.TheVariants as event
use Rattle.run_record.specs.declared.entered.ObjectReply.TheVariants as reply
use Rattle.run_record.specs.declared.made.Made.{Made}
use Rattle.run_record.specs.declared.made.Made.TheVariants.{Entered}
use Rattle.run_record.specs.Explains.{Explains}
use Rattle.run_record.specs.Lines.{SpeltCall, AreSpelt}
use Rattle.run_record.specs.Record.{ObjectEntry, journal_of}
use Rattle.run_record.specs.WaitGroupKind.{IsWaitGroupJournal, group_start}
use Rattle.run_laws.specs.Examples.{declared, on, entry}
use Rattle.run_laws.specs.ExamplesWaitGroup.{plan, outcome, is_done, waits, returns_at_zero, returns_at_one}
use Rattle.run_laws.proofs.Backs.{wait_group_back, is_wait_group_back}
use Rattle.run_laws.proofs.SmallRecords.{ByScript, IsSmall, is_record, no_starts, no_parts, whole_line, are_whole, both_ended, quiet_edges}
use Rattle.run_laws.proofs.Unlifted.{follows_back}

abbrev own_done : Entry GroupEvent GroupReply
own_done = entry 0 (Add (negsuc 0)) grouped.Done

abbrev own_wait : Entry GroupEvent GroupReply
own_wait = entry 1 Wait grouped.Done

abbrev own : List (Entry GroupEvent GroupReply)
own = own_done ∷ own_wait ∷ []

abbrev journal : List ObjectEntry
journal = is_done ∷ waits ∷ []

abbrev made_first : List Made
made_first = Entered 1 is_done ∷ []

abbrev made_second : List Made
made_second = Entered 1 waits ∷ []

is_journal : IsWaitGroupJournal 2 1 journal
is_journal = (own, refl, ((refl, refl), ((refl, refl), tt)), quiet_edges group_releases group_acquires own (refl, (refl, tt)))

small : IsSmall plan (journal ∷ []) made_first made_second
small = record {
  objects = refl;
  quiet_first = ((refl, refl), tt);
  quiet_second = ((refl, refl), tt);
  two = ((refl, (refl, tt)), tt);
  follow = (is_journal, tt);
  parts = no_parts plan (journal ∷ []) made_first made_second (refl, tt);
  starts = no_starts plan _ refl;
  once_first = (refl, (refl, tt));
  once_second = (refl, (refl, tt));
}

abbrev spelt : ObjectEntry → Call → SpeltCall
spelt made call = record { call = call; items = Entered 1 made ∷ []; reply = Returned }

abbrev first : List SpeltCall
first = spelt is_done (on 0 (operations.WaitGroup calls.Done)) ∷ []

abbrev second : List SpeltCall
second = spelt waits (on 0 (operations.WaitGroup calls.Wait)) ∷ []

spelt_first : AreSpelt plan 0 0 first
spelt_first = ((Done (Ok tt), (own_done ∷ [], refl, ((0, refl), (refl, refl))), refl), tt)

spelt_second : AreSpelt plan 1 0 second
spelt_second = ((Done (Ok tt), (own_wait ∷ [], refl, ((0, refl), (refl, refl))), refl), tt)

pub explained : ByScript → Explains plan outcome returns_at_zero
explained by_script = record {
  lines = whole_line first ∷ whole_line second ∷ [];
  are = (by_script plan _ _ _ refl).1 (record { scripts = refl; lists = refl; replies = refl; each = are_whole plan refl first second spelt_first spelt_second });
  lawful = is_record plan (journal ∷ []) made_first made_second small;
  agrees = (both_ended first second, refl);
}

pub refused : (other : Outcome) → Explains plan other returns_at_one → ⊥
refused other explains =
    let is : IsWaitGroupJournal 2 1 (journal_of returns_at_one 1) = explains.lawful.journals 0 (declared 103 (WaitGroup 1)) refl in
    let follows = follows_back event.WaitGroup reply.WaitGroup wait_group_back is_wait_group_back next group_releases group_acquires (group_start 2 1) (waits ∷ is_done ∷ []) is in
    true≢false (ap is_done_by follows.0.1)
