-- A wait on a cond that is notified, and one that is signalled too early.
use Rattle.std.proofs.Common.{List, [], ◌∷◌, refl, ap}
use Rattle.std.specs.Prelude.{Ok}
use Rattle.std.proofs.lemmas.Bool.{true≢false}
use Rattle.mutex_core.specs.Edges.{acquires, releases}
use Rattle.mutex_core.specs.declared.event.MutexEvent.{MutexEvent}
use Rattle.mutex_core.specs.declared.event.MutexEvent.TheVariants as on_mutex
use Rattle.mutex_core.specs.declared.reply.MutexReply.{MutexReply}
use Rattle.mutex_core.specs.declared.reply.MutexReply.TheVariants.{Arrived, Unlocked}
use Rattle.mutex_core.specs.declared.reply.Arrival.TheVariants.{Acquired}
use Rattle.mutex_core.specs.declared.reply.Unlocking.TheVariants.{Free}
use Rattle.wait_cores.specs.NotifyEdges.{is_made, notify_releases, notify_acquires}
use Rattle.wait_cores.specs.NotifyMachine.{next, start}
use Rattle.wait_cores.specs.declared.notify.NotifyEvent.{NotifyEvent}
use Rattle.wait_cores.specs.declared.notify.NotifyEvent.TheVariants as on_cond
use Rattle.wait_cores.specs.declared.notify.NotifyReply.{NotifyReply}
use Rattle.wait_cores.specs.declared.notify.NotifyReply.TheVariants as notified_by
use Rattle.script_calls.specs.declared.call.Operation.TheVariants as operations
use Rattle.script_calls.specs.declared.call.Reply.TheVariants as replies
use Rattle.script_calls.specs.declared.outcome.Outcome.{Outcome}
use Rattle.sync_model.specs.declared.answer.Answer.TheVariants.{Done}
use Rattle.sync_model.specs.declared.journal.Entry.{Entry}
use Rattle.sync_types.specs.declared.lock_call.LockReply.TheVariants as lock_reply
use Rattle.sync_types.specs.declared.lock_call.MutexCall.TheVariants.{Lock}
use Rattle.sync_types.specs.declared.wait_call.CondCall.TheVariants as calls
use Rattle.workload.specs.declared.object.ObjectKind.TheVariants as kinds
use Rattle.run_record.specs.declared.entered.ObjectEvent.TheVariants as event
use Rattle.run_record.specs.declared.entered.ObjectReply.TheVariants as reply
use Rattle.run_record.specs.declared.made.Made.{Made}
use Rattle.run_record.specs.declared.made.Made.TheVariants.{Entered}
use Rattle.run_record.specs.CondKind.{IsCondJournal, wait_part}
use Rattle.run_record.specs.Explains.{Explains}
use Rattle.run_record.specs.Lines.{SpeltCall, AreSpelt}
use Rattle.run_record.specs.MutexKind.{IsMutexJournal}
use Rattle.run_record.specs.Record.{ObjectEntry, journal_of}
use Rattle.run_laws.specs.Examples.{declared, on, entry}
use Rattle.run_laws.specs.ExamplesCond.{plan, outcome, locks, unlocks, takes_a_ticket, leaves, signals, notified, notified_too_early}
use Rattle.run_laws.proofs.Backs.{cond_back, is_cond_back}
use Rattle.run_laws.proofs.SmallRecords.{ByScript, IsSmall, is_record, no_starts, no_parts, whole_line, are_whole, both_ended, quiet_edges}
use Rattle.run_laws.proofs.Unlifted.{follows_back}

abbrev own_lock : Entry MutexEvent MutexReply
own_lock = entry 0 (on_mutex.Arrive 0) (Arrived Acquired)

abbrev own_unlock : Entry MutexEvent MutexReply
own_unlock = entry 0 on_mutex.Unlock (Unlocked Free)

abbrev own_ticket : Entry NotifyEvent NotifyReply
own_ticket = entry 0 on_cond.Ticket notified_by.Done

abbrev own_signal : Entry NotifyEvent NotifyReply
own_signal = entry 1 on_cond.Signal notified_by.Done

abbrev own_leave : Entry NotifyEvent NotifyReply
own_leave = entry 0 on_cond.Leave notified_by.Done

abbrev of_mutex : List ObjectEntry
of_mutex = locks ∷ unlocks ∷ locks ∷ []

abbrev of_cond : List ObjectEntry
of_cond = takes_a_ticket ∷ signals ∷ leaves ∷ []

abbrev waiting : List Made
waiting = Entered 2 takes_a_ticket ∷ Entered 1 unlocks ∷ Entered 2 leaves ∷ Entered 1 locks ∷ []

abbrev made_first : List Made
made_first = Entered 1 locks ∷ waiting

abbrev made_second : List Made
made_second = Entered 2 signals ∷ []

mutex_follows : IsMutexJournal 2 of_mutex
mutex_follows = (
  own_lock ∷ own_unlock ∷ own_lock ∷ [],
  refl,
  ((refl, refl), ((refl, refl), ((refl, refl), tt))),
  quiet_edges (λ event reply. releases reply) (λ event reply. acquires reply) (own_lock ∷ own_unlock ∷ own_lock ∷ []) (refl, (refl, (refl, tt))),
)

cond_follows : IsCondJournal 2 of_cond
cond_follows = (
  own_ticket ∷ own_signal ∷ own_leave ∷ [],
  refl,
  ((refl, refl), ((refl, refl), ((refl, refl), tt))),
  quiet_edges notify_releases notify_acquires (own_ticket ∷ own_signal ∷ own_leave ∷ []) (refl, (refl, (refl, tt))),
)

small : IsSmall plan (of_mutex ∷ of_cond ∷ []) made_first made_second
small = record {
  objects = refl;
  quiet_first = ((refl, refl), ((refl, refl), ((refl, refl), ((refl, refl), ((refl, refl), tt)))));
  quiet_second = ((refl, refl), tt);
  two = ((refl, (refl, (refl, tt))), ((refl, (refl, (refl, tt))), tt));
  follow = (mutex_follows, (cond_follows, tt));
  parts = no_parts plan (of_mutex ∷ of_cond ∷ []) made_first made_second (refl, (refl, tt));
  starts = no_starts plan _ refl;
  once_first = (refl, (refl, (refl, tt)));
  once_second = (refl, (refl, (refl, tt)));
}

abbrev first : List SpeltCall
first = record { call = on 0 (operations.Mutex Lock); items = Entered 1 locks ∷ []; reply = replies.Lock lock_reply.Done } ∷ record { call = on 1 (operations.Cond calls.Wait); items = waiting; reply = replies.Returned } ∷ []

abbrev second : List SpeltCall
second = record { call = on 1 (operations.Cond calls.Signal); items = Entered 2 signals ∷ []; reply = replies.Returned } ∷ []

-- the wait: its four parts, one after the other
is_wait : wait_part 2 1 waiting (Done (Ok replies.Returned))
is_wait = (
  Entered 2 takes_a_ticket ∷ [],
  Entered 1 unlocks ∷ Entered 2 leaves ∷ Entered 1 locks ∷ [],
  Done (Ok tt),
  refl,
  (own_ticket ∷ [], refl, ((0, refl), (refl, refl))),
  (
    Entered 1 unlocks ∷ [],
    Entered 2 leaves ∷ Entered 1 locks ∷ [],
    Done (Ok lock_reply.Done),
    refl,
    (own_unlock ∷ [], refl, ((0, refl), (refl, refl))),
    (
      Entered 2 leaves ∷ [],
      Entered 1 locks ∷ [],
      Done (Ok tt),
      refl,
      (own_leave ∷ [], refl, ((0, refl), (refl, refl))),
      (Done (Ok lock_reply.Done), (own_lock ∷ [], refl, ((0, refl), (refl, refl))), refl),
    ),
  ),
)

spelt_first : AreSpelt plan 0 0 first
spelt_first = ((Done (Ok lock_reply.Done), (own_lock ∷ [], refl, ((0, refl), (refl, refl))), refl), (is_wait, tt))

spelt_second : AreSpelt plan 1 0 second
spelt_second = ((Done (Ok tt), (own_signal ∷ [], refl, ((0, refl), (refl, refl))), refl), tt)

pub explained : ByScript → Explains plan outcome notified
explained by_script = record {
  lines = whole_line first ∷ whole_line second ∷ [];
  are = (by_script plan _ _ _ refl).1 (record { scripts = refl; lists = refl; replies = refl; each = are_whole plan refl first second spelt_first spelt_second });
  lawful = is_record plan (of_mutex ∷ of_cond ∷ []) made_first made_second small;
  agrees = (both_ended first second, refl);
}

pub refused : (other : Outcome) → Explains plan other notified_too_early → ⊥
refused other explains =
    let is : IsCondJournal 2 (journal_of notified_too_early 2) = explains.lawful.journals 1 (declared 99 (kinds.Cond 0)) refl in
    let follows = follows_back event.Cond reply.Cond cond_back is_cond_back next notify_releases notify_acquires (start 2) (signals ∷ takes_a_ticket ∷ leaves ∷ []) is in
    true≢false (ap is_made follows.1.1.0.1)
