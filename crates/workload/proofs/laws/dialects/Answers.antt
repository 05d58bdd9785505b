use Rattle.std.proofs.Common.{refl}
use Rattle.workload.proofs.Dialects.{plain_knows, others_of_plain, others_of_runs, others_of_races}
use Rattle.workload.proofs.Keywords.{in_dialect, known_at}
use Rattle.workload.proofs.laws.dialects.Goals as goal

pub returns-clause-known : goal.returns-clause-known
returns-clause-known c = λ dialect word keyword. (known_at dialect word keyword, in_dialect dialect word keyword)

pub returns-clause-plain : goal.returns-clause-plain
returns-clause-plain c = plain_knows

pub returns-clause-runs : goal.returns-clause-runs
returns-clause-runs c = (refl, refl, refl)

pub returns-clause-races : goal.returns-clause-races
returns-clause-races c = (refl, refl, refl, refl, refl, refl)

pub returns-clause-others_of_plain : goal.returns-clause-others_of_plain
returns-clause-others_of_plain c = others_of_plain

pub returns-clause-others_of_runs : goal.returns-clause-others_of_runs
returns-clause-others_of_runs c = others_of_runs

pub returns-clause-others_of_races : goal.returns-clause-others_of_races
returns-clause-others_of_races c = others_of_races
