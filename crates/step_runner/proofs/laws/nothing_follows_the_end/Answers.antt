use Rattle.step_runner.proofs.RoundLemmas.{ended_next, nothing_follows}
use Rattle.step_runner.proofs.laws.nothing_follows_the_end.Goals as goal

pub returns : goal.returns
returns c plan state items of ended = nothing_follows plan state (ended_next plan state of ended) items
