use Rattle.race_clocks.proofs.Shared.{store_entry, swap_entry, clear_entry, delete_entry}
use Rattle.race_clocks.proofs.laws.shared.entries_on_a_key.Goals as goal

pub returns-clause-store : goal.returns-clause-store
returns-clause-store c = store_entry

pub returns-clause-swap : goal.returns-clause-swap
returns-clause-swap c = swap_entry

pub returns-clause-clear : goal.returns-clause-clear
returns-clause-clear c = clear_entry

pub returns-clause-delete : goal.returns-clause-delete
returns-clause-delete c = delete_entry
