use Rattle.race_clocks.proofs.Ordered.{key_row}
use Rattle.race_clocks.proofs.laws.shared.an_entry_on_a_key_is_before_each_later_call.Goals as goal

pub returns : goal.returns
returns c plan trace i j o w v d e key earlier one two enters finds none = key_row plan trace i j o w v d e earlier one two key enters finds none
