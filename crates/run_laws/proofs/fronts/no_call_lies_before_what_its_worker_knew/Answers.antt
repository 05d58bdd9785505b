use Rattle.run_record.specs.Record.{calls_of}
use Rattle.run_laws.proofs.fronts.no_call_lies_before_what_its_worker_knew.Goals as goal

pub returns : goal.returns
returns c plan r worker j x is at = c.what_a_front_knows_is_a_number.ensures.at_least (calls_of r) x.front x.place (is.shared.sound worker j x at).knows
