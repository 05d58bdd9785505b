use Rattle.workload.specs.declared.keyword.Dialect.TheVariants.{Plain, Runs}
use Rattle.workload.proofs.Dialects.{as_dialect, has_none, neither, recorded}
use Rattle.workload.proofs.laws.plain_texts_are_run_texts_without_semaphores_and_flights.Goals as goal

pub returns-clause-none : goal.returns-clause-none
returns-clause-none c bytes plan reads = (neither plan (has_none Plain bytes plan reads)).1

pub returns-clause-runs : goal.returns-clause-runs
returns-clause-runs c bytes plan reads = as_dialect Runs Plain bytes plan reads (neither plan (has_none Plain bytes plan reads)).0

pub returns-clause-plain : goal.returns-clause-plain
returns-clause-plain c bytes plan reads none = as_dialect Plain Runs bytes plan reads (recorded plan (has_none Runs bytes plan reads) none)
