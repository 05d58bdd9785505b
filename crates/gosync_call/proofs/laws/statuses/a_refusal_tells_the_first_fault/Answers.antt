use Rattle.std.proofs.Common.{ℕ, List, subst}
use Rattle.workload.specs.Reads.{IsRefusedIn}
use Rattle.workload.specs.declared.keyword.Dialect.TheVariants.{Runs, Races}
use Rattle.gosync_call.proofs.laws.statuses.a_refusal_tells_the_first_fault.Goals as goal

pub returns-clause-with_threads : goal.returns-clause-with_threads
returns-clause-with_threads c bytes old new line reason comes = subst (λ (b : List ℕ). IsRefusedIn Runs b line reason) comes.0.1 comes.0.2

pub returns-clause-by_schedule : goal.returns-clause-by_schedule
returns-clause-by_schedule c bytes old new line reason comes = subst (λ (b : List ℕ). IsRefusedIn Runs b line reason) comes.0.1 comes.0.2

pub returns-clause-with_races : goal.returns-clause-with_races
returns-clause-with_races c bytes old new line reason comes = subst (λ (b : List ℕ). IsRefusedIn Races b line reason) comes.0.1 comes.0.2
