use Rattle.std.proofs.Common.{subst, arith}
use Rattle.workload.specs.declared.object.ObjectKind.{ObjectKind}
use Rattle.run_record.specs.declared.made.Made.TheVariants.{Entered}
use Rattle.run_record.specs.Calls.{IsJournalOf}
use Rattle.run_record.specs.Record.{object_number, journal_of}
use Rattle.run_laws.proofs.DoneBefore.{done_before}
use Rattle.run_laws.proofs.OneOrder.{leads_on}
use Rattle.run_laws.proofs.order.what_was_waited_for_happened_before.Goals as goal

pub returns-clause-done : goal.returns-clause-done
returns-clause-done c plan r place start n object returned lawful some is above at acquires =
    let journal = journal_of r (object_number place) in
    let group = subst (λ (k : ObjectKind). IsJournalOf plan place k journal) is (lawful.journals place object some) in
    let there = done_before plan.workers start journal n returned above group at acquires in
    (there.place, there.entry, there.below, there.before, there.at, there.adds, λ order. order.journals (object_number place) there.place n there.entry returned there.before there.at at)

pub returns-clause-notified : goal.returns-clause-notified
returns-clause-notified c r object taken left ticket leaving notified order at_ticket at_leaving = (
  order.journals object taken notified.at ticket notified.notice notified.after_ticket at_ticket notified.is,
  order.journals object notified.at left notified.notice leaving notified.before_leaving notified.is at_leaving,
)

pub returns-clause-behind : goal.returns-clause-behind
returns-clause-behind c r object other worker m n i j before behind later order before_it at_before at_behind on in_list at_later =
    let first = order.journals object m n before behind before_it at_before at_behind in
    let rest = order.lists worker i j (Entered object behind) (Entered other later) on in_list at_later in
    (first, omega (arith, first, rest))

pub returns-clause-chain : goal.returns-clause-chain
returns-clause-chain c plan r lawful order e f between leads =
    leads_on r order c.calls_have_their_numbers_among_the_entries.ensures c.calls_are_items_of_lists.ensures.at plan lawful e between f leads
