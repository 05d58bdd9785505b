use Rattle.made_workload.proofs.Readable.{text_is_canonical}
use Rattle.made_workload.proofs.WrittenText.{text_as_written}
use Rattle.made_workload.proofs.laws.text_is_canonical.Goals as goal

pub returns-clause-canonical : goal.returns-clause-canonical
returns-clause-canonical c = text_is_canonical

pub returns-clause-lines : goal.returns-clause-lines
returns-clause-lines c = text_as_written
