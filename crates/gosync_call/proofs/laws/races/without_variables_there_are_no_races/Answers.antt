use Rattle.std.proofs.Common.{◌≡◌, ◌∙◌, false, List, [], ◌++◌, codes, Some, refl, sym, ap, subst}
use Rattle.sync_outside.specs.Bytes.{Appends}
use Rattle.script_calls.specs.declared.outcome.Outcome.{Outcome}
use Rattle.workload.specs.Dialect.{has_variables}
use Rattle.workload.specs.Plan.{Plan}
use Rattle.workload.specs.declared.keyword.Dialect.TheVariants.{Races}
use Rattle.step_runner.specs.Computed.{variables_left}
use Rattle.step_runner.specs.Outcomes.{StepsTo}
use Rattle.step_runner.specs.declared.ends.VariableEnd.{VariableEnd}
use Rattle.race_clocks.specs.declared.race.Race.{Race}
use Rattle.race_clocks.specs.RaceText.{report_with_races}
use Rattle.race_clocks.specs.Variables.{with_variables}
use Rattle.run_report.specs.ReportText.{report_text}
use Rattle.gosync_call.specs.Messages.{ending_of}
use Rattle.gosync_call.specs.Races.{ending_with, race_text}
use Rattle.gosync_call.proofs.Raced.{without_races}
use Rattle.gosync_call.proofs.Runs.{plan_is}
use Rattle.gosync_call.proofs.laws.races.without_variables_there_are_no_races.Goals as goal

pub returns : goal.returns
returns c bytes plan old new ending reads comes =
    let ended = comes.2 in
    let is = plan_is Races bytes plan (Some bytes) c.race_texts_are_read_or_refused.ensures.one comes.0 refl (c.plain_texts_are_race_texts_without_variables.ensures.races bytes plan reads) comes.1 in
    let plain = subst (λ (p : Plan). has_variables p ≡ false) (sym is) (c.plain_texts_are_race_texts_without_variables.ensures.none bytes plan reads) in
    let races : ended.1 ≡ [] = c.without_variables_nothing_races.ensures comes.0 ended.1 comes.1.3 plain ended.2.1 in
    let variables : variables_left comes.0 ≡ [] = c.variables_end_with_their_last_writes.ensures.none comes.0 comes.1.3 plain in
    let text : race_text comes.0 ended.0 ended.1 ≡ report_text comes.0 ended.0 ++ codes "races 0\n" =
    ap (λ (rs : List Race). race_text comes.0 ended.0 rs) races
    ∙ ap (λ (vs : List VariableEnd). report_with_races comes.0 (with_variables vs ended.0) []) variables
    ∙ ap (λ (o : Outcome). report_with_races comes.0 o []) (c.variables_stand_behind_the_ends.ensures.none ended.0)
    ∙ c.races_stand_behind_the_report.ensures.none comes.0 ended.0 in
    subst (λ (p : Plan). (outcome : Outcome) × StepsTo p outcome × (ending ≡ ending_of outcome) × Appends old new (report_text p outcome ++ codes "races 0\n")) is
    (ended.0, ended.2.0, ended.3 ∙ ap (λ (rs : List Race). ending_with ended.0 rs) races ∙ without_races ended.0, subst (Appends old new) text ended.4)
