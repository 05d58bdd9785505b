use Rattle.std.proofs.Common.{inl, refl, ap, ◌∙◌, arith}
use Rattle.sync_model.specs.declared.item.SharedCall.{SharedCall}
use Rattle.sync_model.specs.declared.item.SharedEntry.{SharedEntry}
use Rattle.sync_model.specs.declared.item.SharedReply.{SharedReply}
use Rattle.run_record.specs.declared.made.Made.TheVariants.{Shared, Entered}
use Rattle.run_record.specs.Objects.{contents_of}
use Rattle.run_record.specs.Record.{list_of, calls_of}
use Rattle.run_laws.proofs.OneOrder as order
use Rattle.run_laws.proofs.order.all_events_stand_in_one_order.Goals as goal

pub returns-clause-one_of_two : goal.returns-clause-one_of_two
returns-clause-one_of_two c r in_order e f = order.one_of_two r in_order e f

pub returns-clause-goes_on : goal.returns-clause-goes_on
returns-clause-goes_on c r in_order e f g first then = order.goes_on r in_order e f g first then

pub returns-clause-never_back : goal.returns-clause-never_back
returns-clause-never_back c r in_order e first = order.never_back r in_order e first

pub returns-clause-workers : goal.returns-clause-workers
returns-clause-workers c r in_order e f list = inl (order.rises_in_list r in_order e f list)

pub returns-clause-objects : goal.returns-clause-objects
returns-clause-objects c r in_order e f journal = inl (order.rises_in_journal r in_order e f journal)

pub returns-clause-history : goal.returns-clause-history
returns-clause-history c plan r lawful in_order e f history =
    inl (order.rises_in_history r in_order c.calls_have_their_numbers_among_the_entries.ensures c.calls_are_items_of_lists.ensures.at plan lawful e f history)

pub returns-clause-events : goal.returns-clause-events
returns-clause-events c plan r object n entry lawful at =
    let there = order.in_list plan r lawful object n entry at in
    (record { worker = entry.caller; place = there.0; made = Entered object entry; at = there.1 }, refl, refl)

pub returns-clause-entries : goal.returns-clause-entries
returns-clause-entries c plan r n entry lawful at =
    let call = c.each_entry_is_a_call.ensures.call (contents_of plan) r.history (calls_of r) n entry lawful.shared at in
    let there = c.calls_are_items_of_lists.ensures.from (list_of r entry.caller) call.0 call.1 call.2 in
    let called : SharedCall → SharedReply → SharedEntry = λ call reply. record { caller = entry.caller; call = call; reply = reply } in (
      record { worker = entry.caller; place = there.0; made = Shared call.1; at = there.1 },
      call.1,
      refl,
      call.4,
      call.3,
      ap (λ (x : SharedCall). called x call.1.reply) call.5 ∙ ap (λ (x : SharedReply). called entry.call x) call.6,
    )

pub returns-clause-no_circle : goal.returns-clause-no_circle
returns-clause-no_circle c plan r lawful in_order e between leads =
    let back = order.leads_on r in_order c.calls_have_their_numbers_among_the_entries.ensures c.calls_are_items_of_lists.ensures.at plan lawful e between e leads in
    omega (arith, back)
