use Rattle.race_clocks.proofs.Ordered.{atomic_row}
use Rattle.race_clocks.proofs.laws.shared.an_entry_is_before_each_later_call.Goals as goal

pub returns : goal.returns
returns c plan trace i j o w v d e earlier one two enters finds none = atomic_row plan trace i j o w v d e earlier one two enters finds none
