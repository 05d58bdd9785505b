use Rattle.race_clocks.proofs.Shared.{told_entries}
use Rattle.race_clocks.proofs.laws.shared.replies_tell_entries.Goals as goal

pub returns : goal.returns
returns c = told_entries
