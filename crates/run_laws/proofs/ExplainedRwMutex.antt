-- A reader/writer mutex whose writer comes behind the reader, and one whose writer comes beside it.
use Rattle.std.proofs.Common.{List, [], ◌∷◌, refl, ap}
use Rattle.std.specs.Prelude.{Ok}
use Rattle.std.proofs.lemmas.Bool.{true≢false}
use Rattle.rw_core.specs.Edges.{acquires, releases}
use Rattle.rw_core.specs.RwMachine.{next, start}
use Rattle.rw_core.specs.declared.event.RwEvent.{RwEvent}
use Rattle.rw_core.specs.declared.event.RwEvent.TheVariants.{ReadArrive, ReadUnlock, WriteArrive}
use Rattle.rw_core.specs.declared.reply.RwReply.{RwReply}
use Rattle.rw_core.specs.declared.reply.RwReply.TheVariants.{Arrived, Unlocked}
use Rattle.rw_core.specs.declared.reply.Arrival.TheVariants.{Acquired}
use Rattle.rw_core.specs.declared.reply.Unlocking.TheVariants as unlocking
use Rattle.script_calls.specs.declared.call.Call.{Call}
use Rattle.script_calls.specs.declared.call.Operation.TheVariants as operations
use Rattle.script_calls.specs.declared.outcome.Outcome.{Outcome}
use Rattle.sync_model.specs.declared.answer.Answer.TheVariants.{Done}
use Rattle.sync_model.specs.declared.journal.Entry.{Entry}
use Rattle.sync_types.specs.declared.lock_call.LockReply.TheVariants as lock_reply
use Rattle.sync_types.specs.declared.lock_call.RwMutexCall.TheVariants as calls
use Rattle.workload.specs.declared.object.ObjectKind.TheVariants.{RwMutex}
use Rattle.run_record.specs.declared.entered.ObjectEvent.TheVariants as event
use Rattle.run_record.specs.declared.entered.ObjectReply.TheVariants as reply
use Rattle.run_record.specs.declared.made.Made.{Made}
use Rattle.run_record.specs.declared.made.Made.TheVariants.{Entered}
use Rattle.run_record.specs.Explains.{Explains}
use Rattle.run_record.specs.Lines.{SpeltCall, AreSpelt}
use Rattle.run_record.specs.RwMutexKind.{IsRwMutexJournal}
use Rattle.run_record.specs.Record.{ObjectEntry, journal_of}
use Rattle.run_laws.specs.Examples.{declared, on, entry}
use Rattle.run_laws.specs.ExamplesRwMutex.{plan, done, outcome, reads, read_unlocks, writes, one_after_the_other, beside_a_reader}
use Rattle.run_laws.proofs.Backs.{rw_mutex_back, is_rw_mutex_back}
use Rattle.run_laws.proofs.SmallRecords.{ByScript, IsSmall, is_record, no_starts, no_parts, whole_line, are_whole, both_ended, quiet_edges}
use Rattle.run_laws.proofs.Unlifted.{follows_back}

abbrev own_read : Entry RwEvent RwReply
own_read = entry 0 ReadArrive (Arrived Acquired)

abbrev own_unlock : Entry RwEvent RwReply
own_unlock = entry 0 ReadUnlock (Unlocked unlocking.Done)

abbrev own_write : Entry RwEvent RwReply
own_write = entry 1 (WriteArrive 0) (Arrived Acquired)

abbrev own : List (Entry RwEvent RwReply)
own = own_read ∷ own_unlock ∷ own_write ∷ []

abbrev journal : List ObjectEntry
journal = reads ∷ read_unlocks ∷ writes ∷ []

abbrev made_first : List Made
made_first = Entered 1 reads ∷ Entered 1 read_unlocks ∷ []

abbrev made_second : List Made
made_second = Entered 1 writes ∷ []

is_journal : IsRwMutexJournal 2 journal
is_journal = (own, refl, ((refl, refl), ((refl, refl), ((refl, refl), tt))), quiet_edges (λ event reply. releases reply) (λ event reply. acquires reply) own (refl, (refl, (refl, tt))))

small : IsSmall plan (journal ∷ []) made_first made_second
small = record {
  objects = refl;
  quiet_first = ((refl, refl), ((refl, refl), tt));
  quiet_second = ((refl, refl), tt);
  two = ((refl, (refl, (refl, tt))), tt);
  follow = (is_journal, tt);
  parts = no_parts plan (journal ∷ []) made_first made_second (refl, tt);
  starts = no_starts plan _ refl;
  once_first = (refl, (refl, tt));
  once_second = (refl, (refl, tt));
}

abbrev spelt : ObjectEntry → Call → SpeltCall
spelt made call = record { call = call; items = Entered 1 made ∷ []; reply = done }

abbrev first : List SpeltCall
first = spelt reads (on 0 (operations.RwMutex calls.RLock)) ∷ spelt read_unlocks (on 0 (operations.RwMutex calls.RUnlock)) ∷ []

abbrev second : List SpeltCall
second = spelt writes (on 0 (operations.RwMutex calls.Lock)) ∷ []

spelt_first : AreSpelt plan 0 0 first
spelt_first = (
  (Done (Ok lock_reply.Done), (own_read ∷ [], refl, ((0, refl), (refl, refl))), refl),
  ((Done (Ok lock_reply.Done), (own_unlock ∷ [], refl, ((0, refl), (refl, refl))), refl), tt),
)

spelt_second : AreSpelt plan 1 0 second
spelt_second = ((Done (Ok lock_reply.Done), (own_write ∷ [], refl, (own_write.deed ∷ [], refl, ((0, refl), (refl, refl)))), refl), tt)

pub explained : ByScript → Explains plan outcome one_after_the_other
explained by_script = record {
  lines = whole_line first ∷ whole_line second ∷ [];
  are = (by_script plan _ _ _ refl).1 (record { scripts = refl; lists = refl; replies = refl; each = are_whole plan refl first second spelt_first spelt_second });
  lawful = is_record plan (journal ∷ []) made_first made_second small;
  agrees = (both_ended first second, refl);
}

pub refused : (other : Outcome) → Explains plan other beside_a_reader → ⊥
refused other explains =
    let is : IsRwMutexJournal 2 (journal_of beside_a_reader 1) = explains.lawful.journals 0 (declared 119 RwMutex) refl in
    let follows = follows_back event.RwMutex reply.RwMutex rw_mutex_back is_rw_mutex_back next (λ event reply. releases reply) (λ event reply. acquires reply) (start 2) (reads ∷ writes ∷ read_unlocks ∷ []) is in
    true≢false (ap acquires follows.1.0.1)
