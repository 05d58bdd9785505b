use Rattle.std.proofs.Common.{None}
use Rattle.sync_model.proofs.Journals.{is_log}
use Rattle.sync_model.proofs.laws.journals.journal_is_log.Goals as goal

pub returns : goal.returns
returns g c start = is_log g.M.Machine.next g.M.Machine.HALTS start None
