use Rattle.workload.specs.declared.keyword.Dialect.TheVariants.{Plain, Races}
use Rattle.workload.proofs.Dialects.{as_dialect, has_none, neither, recorded}
use Rattle.workload.proofs.laws.plain_texts_are_race_texts_without_variables.Goals as goal

pub returns-clause-none : goal.returns-clause-none
returns-clause-none c bytes plan reads = (neither plan (has_none Plain bytes plan reads)).0

pub returns-clause-races : goal.returns-clause-races
returns-clause-races c bytes plan reads = as_dialect Races Plain bytes plan reads (neither plan (has_none Plain bytes plan reads)).1

pub returns-clause-plain : goal.returns-clause-plain
returns-clause-plain c bytes plan reads none = as_dialect Plain Races bytes plan reads (recorded plan none (has_none Races bytes plan reads))
