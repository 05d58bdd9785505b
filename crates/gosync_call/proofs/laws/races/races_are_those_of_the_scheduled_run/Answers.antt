use Rattle.std.proofs.Common.{◌≡◌, ◌∙◌, List, Some, refl, sym, ap, subst}
use Rattle.sync_outside.specs.Bytes.{Appends, AppendsFront}
use Rattle.script_calls.specs.declared.outcome.Outcome.{Outcome}
use Rattle.workload.specs.Plan.{Plan}
use Rattle.workload.specs.declared.keyword.Dialect.TheVariants.{Races}
use Rattle.step_runner.specs.Computed.{turns}
use Rattle.step_runner.specs.Traces.{trace_of}
use Rattle.race_clocks.specs.Races.{AreRaces}
use Rattle.race_clocks.specs.declared.race.Race.{Race}
use Rattle.gosync_call.specs.Races.{ending_with, race_text}
use Rattle.gosync_call.proofs.Runs.{plan_is}
use Rattle.gosync_call.proofs.laws.races.races_are_those_of_the_scheduled_run.Goals as goal

pub returns-clause-ended : goal.returns-clause-ended
returns-clause-ended c bytes plan old new ending reads comes =
    let ended = comes.2 in
    let is : turns comes.0 ≡ ended.0 = (c.each_run_has_one_outcome.ensures.exact comes.0 ended.0 comes.1.3).1 ended.2.0 in
    subst (λ (p : Plan). (races : List Race) × AreRaces p (trace_of p) races × (ending ≡ ending_with (turns p) races) × Appends old new (race_text p (turns p) races))
    (plan_is Races bytes plan (Some bytes) c.race_texts_are_read_or_refused.ensures.one comes.0 refl reads comes.1)
    (ended.1, ended.2.1, ended.3 ∙ ap (λ (o : Outcome). ending_with o ended.1) (sym is), subst (λ (o : Outcome). Appends old new (race_text comes.0 o ended.1)) (sym is) ended.4)

pub returns-clause-failed : goal.returns-clause-failed
returns-clause-failed c bytes plan old new reads comes =
    let failed = comes.2 in
    let is : turns comes.0 ≡ failed.0 = (c.each_run_has_one_outcome.ensures.exact comes.0 failed.0 comes.1.3).1 failed.2.0 in
    subst (λ (p : Plan). (races : List Race) × AreRaces p (trace_of p) races × AppendsFront old new (race_text p (turns p) races))
    (plan_is Races bytes plan (Some bytes) c.race_texts_are_read_or_refused.ensures.one comes.0 refl reads comes.1)
    (failed.1, failed.2.1, subst (λ (o : Outcome). AppendsFront old new (race_text comes.0 o failed.1)) (sym is) failed.3)
