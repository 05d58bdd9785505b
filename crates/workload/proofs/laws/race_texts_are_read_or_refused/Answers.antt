use Rattle.workload.specs.declared.keyword.Dialect.TheVariants.{Races}
use Rattle.workload.proofs.CanonicalReads.{canonical_reads}
use Rattle.workload.proofs.EachText.{each_text}
use Rattle.workload.proofs.NoReason.{one_refusal, read_or_refused}
use Rattle.workload.proofs.OneReading.{one_reading}
use Rattle.workload.proofs.laws.race_texts_are_read_or_refused.Goals as goal

pub returns-clause-one : goal.returns-clause-one
returns-clause-one c = one_reading Races

pub returns-clause-apart : goal.returns-clause-apart
returns-clause-apart c = read_or_refused Races

pub returns-clause-refusal : goal.returns-clause-refusal
returns-clause-refusal c = one_refusal Races

pub returns-clause-each : goal.returns-clause-each
returns-clause-each c = each_text Races

pub returns-clause-canonical : goal.returns-clause-canonical
returns-clause-canonical c = canonical_reads Races
