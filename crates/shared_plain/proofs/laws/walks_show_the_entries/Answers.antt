use Rattle.shared_plain.proofs.EndWalks.{shows_entries}
use Rattle.shared_plain.proofs.laws.walks_show_the_entries.Goals as goal

pub returns : goal.returns
returns c contents m pairs walk = shows_entries contents m pairs walk
