-- A mutex that one holds behind the other, and one that two hold.
use Rattle.std.proofs.Common.{ℕ, List, [], ◌∷◌, refl, ap}
use Rattle.std.specs.Prelude.{Ok}
use Rattle.std.proofs.lemmas.Bool.{true≢false}
use Rattle.mutex_core.specs.Edges.{acquires, releases}
use Rattle.mutex_core.specs.MutexMachine.{next, start}
use Rattle.mutex_core.specs.declared.event.MutexEvent.{MutexEvent}
use Rattle.mutex_core.specs.declared.event.MutexEvent.TheVariants.{Arrive, Unlock}
use Rattle.mutex_core.specs.declared.reply.MutexReply.{MutexReply}
use Rattle.mutex_core.specs.declared.reply.MutexReply.TheVariants.{Arrived, Unlocked}
use Rattle.mutex_core.specs.declared.reply.Arrival.TheVariants.{Acquired}
use Rattle.mutex_core.specs.declared.reply.Unlocking.TheVariants.{Free}
use Rattle.script_calls.specs.declared.call.Call.{Call}
use Rattle.script_calls.specs.declared.call.Operation.TheVariants as operations
use Rattle.script_calls.specs.declared.outcome.Outcome.{Outcome}
use Rattle.sync_model.specs.declared.answer.Answer.TheVariants.{Done}
use Rattle.sync_model.specs.declared.journal.Entry.{Entry}
use Rattle.sync_types.specs.declared.lock_call.LockReply.TheVariants as lock_reply
use Rattle.sync_types.specs.declared.lock_call.MutexCall.TheVariants as calls
use Rattle.workload.specs.declared.object.ObjectKind.TheVariants.{Mutex}
use Rattle.run_record.specs.declared.entered.ObjectEvent.TheVariants as event
use Rattle.run_record.specs.declared.entered.ObjectReply.TheVariants as reply
use Rattle.run_record.specs.declared.made.Made.TheVariants.{Entered}
use Rattle.run_record.specs.Explains.{Explains}
use Rattle.run_record.specs.Lines.{SpeltCall, AreSpelt}
use Rattle.run_record.specs.MutexKind.{IsMutexJournal}
use Rattle.run_record.specs.Record.{ObjectEntry, journal_of}
use Rattle.run_laws.specs.Examples.{declared, on, entry}
use Rattle.run_laws.specs.ExamplesMutex.{plan, done, outcome, locks, unlocks, one_after_the_other, held_by_two}
use Rattle.run_laws.proofs.Backs.{mutex_back, is_mutex_back}
use Rattle.run_laws.proofs.SmallRecords.{ByScript, IsSmall, is_record, no_starts, no_parts, whole_line, are_whole, both_ended, quiet_edges}
use Rattle.run_laws.proofs.Unlifted.{follows_back}

abbrev own_lock : ℕ → Entry MutexEvent MutexReply
own_lock worker = entry worker (Arrive 0) (Arrived Acquired)

abbrev own_unlock : ℕ → Entry MutexEvent MutexReply
own_unlock worker = entry worker Unlock (Unlocked Free)

abbrev own : List (Entry MutexEvent MutexReply)
own = own_lock 0 ∷ own_unlock 0 ∷ own_lock 1 ∷ []

abbrev journal : List ObjectEntry
journal = locks 0 ∷ unlocks 0 ∷ locks 1 ∷ []

is_journal : IsMutexJournal 2 journal
is_journal = (own, refl, ((refl, refl), ((refl, refl), ((refl, refl), tt))), quiet_edges (λ event reply. releases reply) (λ event reply. acquires reply) own (refl, (refl, (refl, tt))))

small : IsSmall plan (journal ∷ []) (Entered 1 (locks 0) ∷ Entered 1 (unlocks 0) ∷ []) (Entered 1 (locks 1) ∷ [])
small = record {
  objects = refl;
  quiet_first = ((refl, refl), ((refl, refl), tt));
  quiet_second = ((refl, refl), tt);
  two = ((refl, (refl, (refl, tt))), tt);
  follow = (is_journal, tt);
  parts = no_parts plan (journal ∷ []) (Entered 1 (locks 0) ∷ Entered 1 (unlocks 0) ∷ []) (Entered 1 (locks 1) ∷ []) (refl, tt);
  starts = no_starts plan _ refl;
  once_first = (refl, (refl, tt));
  once_second = (refl, (refl, tt));
}

abbrev spelt : ObjectEntry → Call → SpeltCall
spelt made call = record { call = call; items = Entered 1 made ∷ []; reply = done }

abbrev first : List SpeltCall
first = spelt (locks 0) (on 0 (operations.Mutex calls.Lock)) ∷ spelt (unlocks 0) (on 0 (operations.Mutex calls.Unlock)) ∷ []

abbrev second : List SpeltCall
second = spelt (locks 1) (on 0 (operations.Mutex calls.Lock)) ∷ []

spelt_first : AreSpelt plan 0 0 first
spelt_first = (
  (Done (Ok lock_reply.Done), (own_lock 0 ∷ [], refl, ((0, refl), (refl, refl))), refl),
  ((Done (Ok lock_reply.Done), (own_unlock 0 ∷ [], refl, ((0, refl), (refl, refl))), refl), tt),
)

spelt_second : AreSpelt plan 1 0 second
spelt_second = ((Done (Ok lock_reply.Done), (own_lock 1 ∷ [], refl, ((0, refl), (refl, refl))), refl), tt)

pub explained : ByScript → Explains plan outcome one_after_the_other
explained by_script = record {
  lines = whole_line first ∷ whole_line second ∷ [];
  are = (by_script plan _ _ _ refl).1 (record { scripts = refl; lists = refl; replies = refl; each = are_whole plan refl first second spelt_first spelt_second });
  lawful = is_record plan (journal ∷ []) (Entered 1 (locks 0) ∷ Entered 1 (unlocks 0) ∷ []) (Entered 1 (locks 1) ∷ []) small;
  agrees = (both_ended first second, refl);
}

pub refused : (other : Outcome) → Explains plan other held_by_two → ⊥
refused other explains =
    let is : IsMutexJournal 2 (journal_of held_by_two 1) = explains.lawful.journals 0 (declared 109 Mutex) refl in
    let follows = follows_back event.Mutex reply.Mutex mutex_back is_mutex_back next (λ event reply. releases reply) (λ event reply. acquires reply) (start 2) (locks 0 ∷ locks 1 ∷ unlocks 0 ∷ []) is in
    true≢false (ap acquires follows.1.0.1)
