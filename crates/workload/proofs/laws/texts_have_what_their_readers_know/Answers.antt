use Rattle.workload.specs.declared.keyword.Dialect.TheVariants.{Plain, Runs, Races}
use Rattle.workload.proofs.Dialects.{has_none}
use Rattle.workload.proofs.laws.texts_have_what_their_readers_know.Goals as goal

pub returns-clause-plain : goal.returns-clause-plain
returns-clause-plain c = has_none Plain

pub returns-clause-runs : goal.returns-clause-runs
returns-clause-runs c = has_none Runs

pub returns-clause-races : goal.returns-clause-races
returns-clause-races c = has_none Races
