-- What the calls of conds and wait groups have done when they return.
use Rattle.std.proofs.Common.{◌≡◌, ℕ, List, [], ◌++◌, Ok, refl, sym, ap, ◌∙◌, subst}
use Rattle.script_calls.specs.declared.call.Reply.{Reply}
use Rattle.script_calls.specs.declared.call.Reply.TheVariants as replies
use Rattle.sync_types.specs.declared.lock_call.LockReply.{LockReply}
use Rattle.sync_types.specs.declared.wait_call.CondCall.{CondCall}
use Rattle.sync_types.specs.declared.wait_call.CondCall.TheVariants as cond_calls
use Rattle.sync_types.specs.declared.wait_call.WaitGroupCall.{WaitGroupCall}
use Rattle.sync_types.specs.declared.wait_call.WaitGroupCall.TheVariants as group_calls
use Rattle.sync_model.specs.declared.answer.Answer.TheVariants.{Done}
use Rattle.sync_model.specs.declared.journal.Deed.{Deed}
use Rattle.wait_cores.specs.declared.group.GroupEvent.{GroupEvent}
use Rattle.wait_cores.specs.declared.group.GroupReply.{GroupReply}
use Rattle.wait_cores.specs.declared.group.GroupReply.TheVariants as grouped
use Rattle.wait_cores.specs.declared.notify.NotifyEvent.{NotifyEvent}
use Rattle.wait_cores.specs.declared.notify.NotifyReply.{NotifyReply}
use Rattle.wait_cores.specs.declared.notify.NotifyReply.TheVariants as notified
use Rattle.wait_cores.specs.GroupEdges.{group_acquires}
use Rattle.wait_cores.specs.NotifyEdges.{notify_acquires}
use Rattle.protocols.specs.CondStages as cond
use Rattle.protocols.specs.CondStages.{cond_event, cond_meaning, cond_gains}
use Rattle.protocols.specs.GroupStages.{group_event, group_meaning, add_meaning, group_gains}
use Rattle.protocols.specs.Spelling.{Rest, Spells, TakesInLast}
use Rattle.protocols.specs.declared.cond.CondStage.{CondStage}
use Rattle.protocols.specs.declared.cond.CondStage.TheVariants as cond_stage
use Rattle.protocols.specs.declared.mutex.MutexStage.TheVariants as mutex_stage
use Rattle.protocols.specs.declared.wait_group.GroupStage.{GroupStage}
use Rattle.protocols.specs.declared.wait_group.GroupStage.TheVariants as group_stage
use Rattle.run_record.specs.declared.entered.ObjectEvent.TheVariants as event
use Rattle.run_record.specs.declared.entered.ObjectReply.TheVariants as reply
use Rattle.run_record.specs.declared.made.Made.{Made}
use Rattle.run_record.specs.CondKind.{cond_part, wait_part, cond_call}
use Rattle.run_record.specs.MutexKind.{mutex_part}
use Rattle.run_record.specs.Parts.{and_then, read_as, stages}
use Rattle.run_record.specs.Returns.{IsOnce, CondReturns, WaitGroupReturns}
use Rattle.run_record.specs.WaitGroupKind.{wait_group_stage, wait_group_call}
use Rattle.run_record.proofs.LockReturns.{MutexLaws, mutex_unlocks, mutex_locks}
use Rattle.run_record.proofs.Returning.{read_off, goes_on, one_event, first_event, last_event}

abbrev pub CondGains : Type 0
CondGains = (stage : CondStage) (deeds : List (Deed NotifyEvent NotifyReply)) (outcome : Unit {0}) → Spells cond_event cond_meaning stage deeds (Done (Ok outcome)) → TakesInLast notify_acquires (cond_gains stage outcome) deeds

abbrev pub GroupGains : Type 0
GroupGains = (stage : GroupStage) (deeds : List (Deed GroupEvent GroupReply)) (outcome : Unit {0}) → Spells group_event group_meaning stage deeds (Done (Ok outcome)) → TakesInLast group_acquires (group_gains stage outcome) deeds

at_once : (given : Unit {0}) (r : NotifyReply) (rest : List (Deed NotifyEvent NotifyReply)) (on : CondStage → Type 0) → Rest (cond.at_once_meaning r) rest on (Done (Ok given)) → (rest ≡ []) × (r ≡ notified.Done)
at_once given notified.Done rest on goes = (goes.0, refl)
at_once given notified.Still rest on goes = absurd goes

module _ (object : ℕ) where
  one_of_cond : (from : CondStage) (items : List Made) (given : Unit {0}) → ((r : NotifyReply) → cond_meaning from r ≡ cond.at_once_meaning r) → cond_part object from items (Done (Ok given))
      → (now : ℕ) × IsOnce object (event.Cond (cond_event from now)) (reply.Cond notified.Done) items
  one_of_cond from items given same made =
      let one = one_event event.Cond reply.Cond cond_event cond_meaning object from items (Ok given) (λ r. r ≡ notified.Done)
      (λ r rest goes. at_once given r rest _ (subst (λ s. Rest s rest (λ later. Spells cond_event cond_meaning later rest (Done (Ok given))) (Done (Ok given))) (same r) goes)) made in
      (one.0, subst (λ r. IsOnce object (event.Cond (cond_event from one.0)) (reply.Cond r) items) one.3 one.2)

  module _ (mutex : ℕ) (gains : CondGains) (laws : MutexLaws) where
    of_wait : (items : List Made) (answer : Reply ℕ) → wait_part object mutex items (Done (Ok answer)) → CondReturns object mutex cond_calls.Wait items answer
    of_wait items answer made =
        let taken = goes_on (cond_part object cond_stage.Ticket) (λ ticket. and_then (mutex_part mutex mutex_stage.Unlock) (λ unlocked. and_then (cond_part object cond_stage.Leave) (λ left. read_as (λ locked. replies.Returned) (mutex_part mutex mutex_stage.Lock)))) items answer made in
        let unlocked = goes_on (mutex_part mutex mutex_stage.Unlock) (λ unlocked. and_then (cond_part object cond_stage.Leave) (λ left. read_as (λ locked. replies.Returned) (mutex_part mutex mutex_stage.Lock))) taken.later answer taken.goes in
        let left = goes_on (cond_part object cond_stage.Leave) (λ left. read_as (λ locked. replies.Returned) (mutex_part mutex mutex_stage.Lock)) unlocked.later answer unlocked.goes in
        let off = read_off (λ (locked : LockReply). replies.Returned) left.goes.0 answer left.goes.2 in
        let ticket = one_of_cond cond_stage.Ticket taken.earlier taken.outcome (λ r. refl) taken.made in
        let unlock = mutex_unlocks mutex unlocked.earlier unlocked.outcome unlocked.made in (
          off.read,
          record {
            taken = taken.earlier;
            unlocked = unlocked.earlier;
            left = left.earlier;
            locked = left.later;
            unlocking = unlock.1;
            are = taken.are ∙ ap (λ later. taken.earlier ++ later) (unlocked.are ∙ ap (λ later. unlocked.earlier ++ later) left.are);
            takes_a_ticket = ticket.1;
            unlocks = unlock.2;
            frees = unlock.3.1;
            leaves = last_event event.Cond reply.Cond cond_event cond_meaning object notify_acquires (λ e r. refl) cond_stage.Leave left.earlier (Ok left.outcome) (λ deeds spelt. gains cond_stage.Leave deeds left.outcome spelt) left.made;
            locks = mutex_locks mutex laws left.later off.outcome (subst (mutex_part mutex mutex_stage.Lock left.later) off.is left.goes.1);
          },
        )

    pub cond_returns : (of : CondCall) (items : List Made) (answer : Reply ℕ) → cond_call object mutex of items (Done (Ok answer)) → CondReturns object mutex of items answer
    cond_returns cond_calls.Wait items answer made = of_wait items answer made
    cond_returns cond_calls.Signal items answer (given, made, e) =
        let off = read_off (λ (done : Unit {0}). replies.Returned) given answer e in
        (off.read, (one_of_cond cond_stage.Signal items off.outcome (λ r. refl) (subst (cond_part object cond_stage.Signal items) off.is made)).1)
    cond_returns cond_calls.Broadcast items answer (given, made, e) =
        let off = read_off (λ (done : Unit {0}). replies.Returned) given answer e in
        (off.read, (one_of_cond cond_stage.Broadcast items off.outcome (λ r. refl) (subst (cond_part object cond_stage.Broadcast items) off.is made)).1)

  added : (given : Unit {0}) (r : GroupReply) (rest : List (Deed GroupEvent GroupReply)) (on : GroupStage → Type 0) → Rest (add_meaning r) rest on (Done (Ok given)) → (rest ≡ []) × (r ≡ grouped.Done)
  added given grouped.Done rest on goes = (goes.0, refl)
  added given (grouped.Misused misuse) rest on goes = let is = goes.1 in absurd cc
  added given grouped.Queued rest on goes = absurd goes
  added given grouped.Still rest on goes = absurd goes

  abbrev group_part : GroupStage → List Made → Unit {0} → Type 0
  group_part from items given = stages event.WaitGroup reply.WaitGroup group_event group_meaning object from items (Done (Ok given))

  adds : (from : GroupStage) (items : List Made) (given : Unit {0}) → ((r : GroupReply) → group_meaning from r ≡ add_meaning r) → group_part from items given
      → (now : ℕ) × IsOnce object (event.WaitGroup (group_event from now)) (reply.WaitGroup grouped.Done) items
  adds from items given same made =
      let one = one_event event.WaitGroup reply.WaitGroup group_event group_meaning object from items (Ok given) (λ r. r ≡ grouped.Done)
      (λ r rest goes. added given r rest _ (subst (λ s. Rest s rest (λ later. Spells group_event group_meaning later rest (Done (Ok given))) (Done (Ok given))) (same r) goes)) made in
      (one.0, subst (λ r. IsOnce object (event.WaitGroup (group_event from one.0)) (reply.WaitGroup r) items) one.3 one.2)

  module _ (gains : GroupGains) where
    by_group : (of : WaitGroupCall) (items : List Made) (given : Unit {0}) → group_part (wait_group_stage of) items given → WaitGroupReturns object of items replies.Returned
    by_group (group_calls.Add delta) items given made = (refl, (adds (group_stage.Add delta) items given (λ r. refl) made).1)
    by_group group_calls.Done items given made = (refl, (adds group_stage.Done items given (λ r. refl) made).1)
    by_group group_calls.Wait items given made = (
      refl,
      (first_event event.WaitGroup reply.WaitGroup group_event group_meaning object group_stage.Wait items (Ok given) made).1,
      last_event event.WaitGroup reply.WaitGroup group_event group_meaning object group_acquires (λ e r. refl) group_stage.Wait items (Ok given) (λ deeds spelt. gains group_stage.Wait deeds given spelt) made,
    )

    pub wait_group_returns : (of : WaitGroupCall) (items : List Made) (answer : Reply ℕ) → wait_group_call object of items (Done (Ok answer)) → WaitGroupReturns object of items answer
    wait_group_returns of items answer (given, made, e) =
        let off = read_off (λ (done : Unit {0}). replies.Returned) given answer e in
        subst (λ a. WaitGroupReturns object of items a) (sym off.read) (by_group of items off.outcome (subst (stages event.WaitGroup reply.WaitGroup group_event group_meaning object (wait_group_stage of) items) off.is made))
