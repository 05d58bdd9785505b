use Rattle.gosync_call.proofs.Statuses.{of_bytes, read_to}
use Rattle.gosync_call.proofs.laws.statuses.a_file_is_read_to_its_end.Goals as goal

pub returns-clause-of : goal.returns-clause-of
returns-clause-of c status = of_bytes status

pub returns-clause-to : goal.returns-clause-to
returns-clause-to c held left read = read_to held left read
