use Rattle.std.proofs.Common.{length}
use Rattle.sync_model.proofs.Tellers.{own_at, called_at, counts, holder_of}
use Rattle.sync_model.proofs.told.what_was_told_lies_before.Goals as goal

pub returns-clause-below : goal.returns-clause-below
returns-clause-below c start history calls teller old new i cost known call reply called lawful are_told are counted least at entry =
    let holder = holder_of teller.own i known at in
    c.a_call_lies_behind_what_its_caller_knew.ensures.below start history calls called.becomes.number holder.0.number i (length called.was.items) known called.item
    lawful (own_at calls teller holder.0 i known holder.1 are_told holder.2) (called_at start called calls are) (counts start called teller holder.0 i known holder.1 counted least holder.2) entry

pub returns-clause-finds : goal.returns-clause-finds
returns-clause-finds c start history calls teller old new i cost m key value known reply called lawful are_told are counted least at stores there =
    let holder = holder_of teller.own i known at in
    let at_known = own_at calls teller holder.0 i known holder.1 are_told holder.2 in
    let at_call = called_at start called calls are in
    let entry = c.each_entry_is_a_call.ensures.store start history calls holder.0.number i m key value known lawful at_known stores in
    c.a_load_behind_a_store_finds_it_or_a_later_one.ensures start history calls called.becomes.number holder.0.number i (length called.was.items) m key value known called.item
    lawful at_known at_call stores called.is_call there
    (c.a_call_lies_behind_what_its_caller_knew.ensures.below start history calls called.becomes.number holder.0.number i (length called.was.items) known called.item
    lawful at_known at_call (counts start called teller holder.0 i known holder.1 counted least holder.2) entry)
