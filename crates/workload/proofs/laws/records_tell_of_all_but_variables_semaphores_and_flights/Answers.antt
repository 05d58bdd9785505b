use Rattle.workload.proofs.Dialects.{neither, recorded}
use Rattle.workload.proofs.laws.records_tell_of_all_but_variables_semaphores_and_flights.Goals as goal

pub returns : goal.returns
returns c plan = (neither plan, λ parts. recorded plan parts.0 parts.1)
