-- A weighted semaphore for which a worker waits, and is granted its weight, one that it leaves before that, and one of which more is held than its size.
use Rattle.std.proofs.Common.{List, [], ◌∷◌, refl, ap}
use Rattle.std.specs.Prelude.{Ok}
use Rattle.std.proofs.lemmas.Bool.{true≢false}
use Rattle.script_calls.specs.declared.call.Call.{Call}
use Rattle.script_calls.specs.declared.call.Operation.TheVariants as operations
use Rattle.script_calls.specs.declared.outcome.Outcome.{Outcome}
use Rattle.sema_core.specs.SemaEdges.{is_done, sema_releases, sema_acquires}
use Rattle.sema_core.specs.SemaMachine.{next, start}
use Rattle.sema_core.specs.declared.event.SemaEvent.{SemaEvent}
use Rattle.sema_core.specs.declared.event.SemaEvent.TheVariants.{Acquire, Release, Leave}
use Rattle.sema_core.specs.declared.event.SemaReply.{SemaReply}
use Rattle.sema_core.specs.declared.event.SemaReply.TheVariants as sema_reply
use Rattle.sync_model.specs.declared.answer.Answer.TheVariants.{Done}
use Rattle.sync_model.specs.declared.journal.Entry.{Entry}
use Rattle.sync_types.specs.declared.lock_call.LockReply.TheVariants as lock_reply
use Rattle.sync_types.specs.declared.sema_call.SemaCall.TheVariants as calls
use Rattle.workload.specs.declared.object.ObjectKind.TheVariants.{Sema}
use Rattle.run_record.specs.declared.entered.ObjectEvent.TheVariants as event
use Rattle.run_record.specs.declared.entered.ObjectReply.TheVariants as reply
use Rattle.run_record.specs.declared.made.Made.{Made}
use Rattle.run_record.specs.declared.made.Made.TheVariants.{Entered}
use Rattle.run_record.specs.Explains.{Explains}
use Rattle.run_record.specs.Lines.{SpeltCall, AreSpelt}
use Rattle.run_record.specs.Record.{ObjectEntry, journal_of}
use Rattle.run_record.specs.SemaKind.{IsSemaJournal}
use Rattle.run_laws.specs.Examples.{declared, on, entry}
use Rattle.run_laws.specs.ExamplesSema.{plan, done, outcome, acquires, releases, waits, leaves, acquires_too, granted, left_too_early, held_by_two}
use Rattle.run_laws.proofs.Backs.{sema_back, is_sema_back}
use Rattle.run_laws.proofs.SmallRecords.{ByScript, IsSmall, is_record, no_starts, no_parts, whole_line, are_whole, both_ended, quiet_edges}
use Rattle.run_laws.proofs.Unlifted.{follows_back}

abbrev own_acquire : Entry SemaEvent SemaReply
own_acquire = entry 0 (Acquire 1) sema_reply.Done

abbrev own_release : Entry SemaEvent SemaReply
own_release = entry 0 (Release 1) sema_reply.Done

abbrev own_wait : Entry SemaEvent SemaReply
own_wait = entry 1 (Acquire 1) sema_reply.Queued

abbrev own_leave : Entry SemaEvent SemaReply
own_leave = entry 1 Leave sema_reply.Done

abbrev own : List (Entry SemaEvent SemaReply)
own = own_acquire ∷ own_wait ∷ own_release ∷ own_leave ∷ []

abbrev journal : List ObjectEntry
journal = acquires ∷ waits ∷ releases ∷ leaves ∷ []

abbrev made_first : List Made
made_first = Entered 1 acquires ∷ Entered 1 releases ∷ []

abbrev made_second : List Made
made_second = Entered 1 waits ∷ Entered 1 leaves ∷ []

is_journal : IsSemaJournal 2 1 journal
is_journal = (own, refl, ((refl, refl), ((refl, refl), ((refl, refl), ((refl, refl), tt)))), quiet_edges sema_releases sema_acquires own (refl, (refl, (refl, (refl, tt)))))

small : IsSmall plan (journal ∷ []) made_first made_second
small = record {
  objects = refl;
  quiet_first = ((refl, refl), ((refl, refl), tt));
  quiet_second = ((refl, refl), ((refl, refl), tt));
  two = ((refl, (refl, (refl, (refl, tt)))), tt);
  follow = (is_journal, tt);
  parts = no_parts plan (journal ∷ []) made_first made_second (refl, tt);
  starts = no_starts plan _ refl;
  once_first = (refl, (refl, tt));
  once_second = (refl, (refl, tt));
}

abbrev spelt : ObjectEntry → Call → SpeltCall
spelt made call = record { call = call; items = Entered 1 made ∷ []; reply = done }

abbrev first : List SpeltCall
first = spelt acquires (on 0 (operations.Sema (calls.Acquire 1))) ∷ spelt releases (on 0 (operations.Sema (calls.Release 1))) ∷ []

abbrev second : List SpeltCall
second = record { call = on 0 (operations.Sema (calls.Acquire 1)); items = made_second; reply = done } ∷ []

spelt_first : AreSpelt plan 0 0 first
spelt_first = (
  (Done (Ok lock_reply.Done), (own_acquire ∷ [], refl, ((0, refl), (refl, refl))), refl),
  ((Done (Ok lock_reply.Done), (own_release ∷ [], refl, ((0, refl), (refl, refl))), refl), tt),
)

spelt_second : AreSpelt plan 1 0 second
spelt_second = ((Done (Ok lock_reply.Done), (own_wait ∷ own_leave ∷ [], refl, ((0, refl), ((0, refl), (refl, refl)))), refl), tt)

pub explained : ByScript → Explains plan outcome granted
explained by_script = record {
  lines = whole_line first ∷ whole_line second ∷ [];
  are = (by_script plan _ _ _ refl).1 (record { scripts = refl; lists = refl; replies = refl; each = are_whole plan refl first second spelt_first spelt_second });
  lawful = is_record plan (journal ∷ []) made_first made_second small;
  agrees = (both_ended first second, refl);
}

pub too_early : (other : Outcome) → Explains plan other left_too_early → ⊥
too_early other explains =
    let is : IsSemaJournal 2 1 (journal_of left_too_early 1) = explains.lawful.journals 0 (declared 115 (Sema 1)) refl in
    let follows = follows_back event.Sema reply.Sema sema_back is_sema_back next sema_releases sema_acquires (start 2 1) (acquires ∷ waits ∷ leaves ∷ releases ∷ []) is in
    true≢false (ap is_done follows.1.1.0.1)

pub by_two : (other : Outcome) → Explains plan other held_by_two → ⊥
by_two other explains =
    let is : IsSemaJournal 2 1 (journal_of held_by_two 1) = explains.lawful.journals 0 (declared 115 (Sema 1)) refl in
    let follows = follows_back event.Sema reply.Sema sema_back is_sema_back next sema_releases sema_acquires (start 2 1) (acquires ∷ acquires_too ∷ releases ∷ []) is in
    true≢false (ap is_done follows.1.0.1)
