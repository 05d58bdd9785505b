use Rattle.shared_table.specs.Notes.{seen_by}
use Rattle.shared_table.specs.Tables.{first_of}
use Rattle.shared_table.proofs.Known.{made_by_caller, counted_made}
use Rattle.shared_table.proofs.laws.what_was_seen_is_of_the_tables_callers.Goals as goal

pub returns-clause-entries : goal.returns-clause-entries
returns-clause-entries c table note law n entry at =
    let call = c.each_entry_is_a_call.ensures.call (first_of table) (seen_by note) law.calls n entry law.lawful at in
    (made_by_caller table note law entry.caller call.0 call.1 call.2, (call.0, call.1, call.2, call.4, call.5, call.6))

pub returns-clause-counted : goal.returns-clause-counted
returns-clause-counted c = counted_made

pub returns-clause-own : goal.returns-clause-own
returns-clause-own c table note law = law.mine
