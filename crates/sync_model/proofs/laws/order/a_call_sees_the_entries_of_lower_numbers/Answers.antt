use Rattle.sync_model.proofs.Orders.{past_entry, not_at, sees_it, sees_none}
use Rattle.sync_model.proofs.laws.order.a_call_sees_the_entries_of_lower_numbers.Goals as goal

pub returns-clause-sees : goal.returns-clause-sees
returns-clause-sees c = λ history calls entry_times times c d i j time other entry call order at_entry at_time is at_call at_other.
    sees_it entry_times entry call time other (order.among c i time entry at_entry at_time) (order.among d j other call at_call at_other) is

pub returns-clause-no_later : goal.returns-clause-no_later
returns-clause-no_later c = λ history calls entry_times times c d i j time other entry call order at_entry at_time is at_call at_other.
    sees_none entry_times entry call time other (order.among c i time entry at_entry at_time) (order.among d j other call at_call at_other) is

pub returns-clause-behind : goal.returns-clause-behind
returns-clause-behind c = λ history calls entry_times times c d i j time other entry call order at_entry at_time is at_call at_other.
    past_entry entry_times entry call time other (order.among c i time entry at_entry at_time) (order.among d j other call at_call at_other) is

pub returns-clause-apart : goal.returns-clause-apart
returns-clause-apart c = λ history calls entry_times times c d i j time other entry call order at_entry at_time is at_call at_other e.
    not_at entry_times entry call time other (order.among c i time entry at_entry at_time) (order.among d j other call at_call at_other) is e
