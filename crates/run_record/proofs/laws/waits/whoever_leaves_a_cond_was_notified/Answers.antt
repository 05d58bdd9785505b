use Rattle.std.proofs.Common.{◌≡◌, ℕ, List, ◌∷◌, ◌++◌, Some, slice_get, refl, sym, ap, ◌∙◌, subst}
use Rattle.sync_model.specs.Front.{AtLeast}
use Rattle.sync_model.specs.Journal.{is_such, log_of}
use Rattle.sync_model.specs.Log.{Follows}
use Rattle.wait_cores.specs.declared.notify.NotifyEvent.TheVariants.{Ticket, Leave}
use Rattle.wait_cores.specs.declared.notify.NotifyReply.TheVariants.{Done}
use Rattle.wait_cores.specs.NotifyEdges.{notify_releases, notify_acquires}
use Rattle.wait_cores.specs.NotifyLaws.{Log, ticket_by, leave_by}
use Rattle.wait_cores.specs.NotifyMachine.{next, start}
use Rattle.workload.specs.declared.object.ObjectKind.TheVariants as kinds
use Rattle.run_record.specs.declared.entered.ObjectEvent.TheVariants as event
use Rattle.run_record.specs.declared.entered.ObjectReply.TheVariants as reply
use Rattle.run_record.specs.Parts.{lifted}
use Rattle.run_record.specs.Record.{ObjectEntry}
use Rattle.run_record.proofs.JournalParts.{cut_two, log_cut, logged_such}
use Rattle.run_record.proofs.Lifts.{lifted_from, lifted_at}
use Rattle.run_record.proofs.ObjectJournals.{journal_at}
use Rattle.run_record.proofs.WaitLemmas.{of_cond, notice}
use Rattle.run_record.proofs.laws.waits.whoever_leaves_a_cond_was_notified.Goals as goal

pub returns-clause-notified : goal.returns-clause-notified
returns-clause-notified c plan r place mutex taken left object ticket leaving lawful some is before at_ticket at_leaving is_ticket is_leaving same =
    let j = journal_at plan r place object (kinds.Cond mutex) lawful some is in
    let follows = (c.journal_is_log.ensures (start plan.workers) j.0 j.2).0 in
    let first = lifted_from event.Cond reply.Cond j.0 taken ticket (subst (λ (es : List ObjectEntry). slice_get es taken ≡ Some ticket) j.1 at_ticket) in
    let last = lifted_from event.Cond reply.Cond j.0 left leaving (subst (λ (es : List ObjectEntry). slice_get es left ≡ Some leaving) j.1 at_leaving) in
    let first_deed = of_cond first.0.deed Ticket Done (ap (λ (e : ObjectEntry). e.deed) first.2 ∙ is_ticket) in
    let last_deed = of_cond last.0.deed Leave Done (ap (λ (e : ObjectEntry). e.deed) last.2 ∙ is_leaving) in
    let callers : first.0.caller ≡ last.0.caller = ap (λ (e : ObjectEntry). e.caller) first.2 ∙ same ∙ sym (ap (λ (e : ObjectEntry). e.caller) last.2) in
    let cut = cut_two j.0 taken left first.0 last.0 before first.1 last.1 in
    let parts : log_of j.0 ≡ log_of cut.front ++ ticket_by first.0.caller ∷ (log_of cut.mid ++ leave_by first.0.caller ∷ log_of cut.rest) =
    ap log_of cut.parts
    ∙ log_cut cut.front cut.mid cut.rest first.0 last.0 Ticket Leave Done Done first_deed last_deed
    ∙ ap (λ (d : ℕ). log_of cut.front ++ ticket_by first.0.caller ∷ (log_of cut.mid ++ leave_by d ∷ log_of cut.rest)) (sym callers) in
    let found = logged_such notify_releases cut.mid
    (c.synchronizes.ensures.unblocked plan.workers (log_of cut.front) (log_of cut.mid) (log_of cut.rest) first.0.caller (subst (λ (l : Log). Follows next (start plan.workers) l) parts follows)) in
    let there = cut.inner found.at found.entry found.is in
    let knows : AtLeast last.0.front found.entry.front = j.3 there.0 left found.entry last.0 there.3 there.1 last.1 found.such (ap (is_such notify_acquires) last_deed) in
    record {
      at = there.0;
      notice = lifted event.Cond reply.Cond found.entry;
      is = subst (λ (es : List ObjectEntry). slice_get es there.0 ≡ Some (lifted event.Cond reply.Cond found.entry)) (sym j.1) (lifted_at event.Cond reply.Cond j.0 there.0 found.entry there.1);
      notifies = notice found.entry.deed found.such;
      after_ticket = there.2;
      before_leaving = there.3;
      knows = subst (λ (e : ObjectEntry). AtLeast e.front found.entry.front) last.2 knows;
    }

pub returns-clause-in_turn : goal.returns-clause-in_turn
returns-clause-in_turn c plan r place mutex object lawful some is =
    let j = journal_at plan r place object (kinds.Cond mutex) lawful some is in
    let follows = (c.journal_is_log.ensures (start plan.workers) j.0 j.2).0 in
    (log_of j.0, (j.0, j.1, refl), λ earlier between later caller parts. c.leaves_when_notified.ensures plan.workers earlier between later caller (subst (λ (l : Log). Follows next (start plan.workers) l) parts follows))
