use Rattle.std.proofs.Common.{◌∙◌, List, ap, subst}
use Rattle.sync_outside.specs.Bytes.{Appends}
use Rattle.race_clocks.specs.declared.race.Race.{Race}
use Rattle.race_clocks.specs.RaceText.{report_with_races}
use Rattle.gosync_call.specs.Races.{ending_with}
use Rattle.gosync_call.proofs.Raced.{ends_with_races}
use Rattle.gosync_call.proofs.race.run_with_races.Goals as goal

pub returns-in-Ok-report_with_races-clause-ran : goal.returns-in-Ok-report_with_races-clause-ran
returns-in-Ok-report_with_races-clause-ran g c =
    let plan = c.args.workload.now in
    let outcome = c.in-Ok-raced.outcome in
    let races = c.in-Ok-raced.races.items in
    let raced = c.in-Ok-raced.ensures.raced in
    let old = g.O.Sink.contents c.args.out.now in
    let new = g.O.Sink.contents c.report_with_races.new.out in
    ends_with_races plan old new raced.0 outcome races raced.1 raced.2 c.ending_with.result
    (c.ending_with.ensures ∙ ap (λ (rs : List Race). ending_with outcome rs) c.deref-in-Ok-report_with_races.ensures.value)
    (subst (λ (rs : List Race). Appends old new (report_with_races plan outcome rs)) c.deref.ensures.value c.in-Ok-report_with_races.ensures.ok)
