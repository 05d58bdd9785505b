use Rattle.std.proofs.Common.{◌∙◌, ◌+◌, ◌≤◌, length, subst, arith}
use Rattle.std.specs.List.{flat_map}
use Rattle.std.proofs.lemmas.Result.{on_err_weaker}
use Rattle.sync_outside.specs.Bytes.{AppendsFront}
use Rattle.run_report.specs.ReportText.{report_lines, report_text}
use Rattle.race_clocks.specs.RaceText.{count_line, race_line, races_text}
use Rattle.race_clocks.proofs.TextCuts.{on_err}
use Rattle.race_clocks.proofs.report.report.report_with_races.Goals as goal

pub returns-in_err-write_race_lines-clause-err : goal.returns-in_err-write_race_lines-clause-err
returns-in_err-write_race_lines-clause-err g c =
    let plan = c.args.workload.now in
    let races = c.args.races.now in
    let adds = c.what_is_written_adds_up.ensures in
    on_err c.from_residual-in_err-write_race_lines.result
    (adds.further _ _ _ (report_text plan c.args.outcome.now) (races_text plan races) c.in_ok-report.ensures.ok
    (adds.part _ _ (flat_map (race_line plan) races) (count_line races) c.in_err-write_race_lines.ensures.err))

pub returns-in_err-write_race_lines-clause-cut : goal.returns-in_err-write_race_lines-clause-cut
returns-in_err-write_race_lines-clause-cut g c =
    let lines = report_lines c.args.workload.now c.args.outcome.now in
    let count = length c.args.races.now in
    let adds = c.what_is_written_adds_up.ensures in
    on_err c.from_residual-in_err-write_race_lines.result
    (adds.up_to _ _ _ lines (count + 1) c.in_ok-report.ensures.writes (adds.some _ _ count 1 c.in_err-write_race_lines.ensures.cut))

pub returns-clause-err : goal.returns-clause-err
returns-clause-err g c =
    let plan = c.args.workload.now in
    let races = c.args.races.now in
    let adds = c.what_is_written_adds_up.ensures in
    let line = c.deref.ensures.value ∙ c.set_count_line.ensures.line in
    on_err_weaker c.write.result
    (λ cut. adds.further _ _ _ (report_text plan c.args.outcome.now) (races_text plan races) c.in_ok-report.ensures.ok
    (adds.further _ _ _ (flat_map (race_line plan) races) (count_line races) c.in_ok-write_race_lines.ensures.ok (subst (AppendsFront _ _) line cut)))
    c.write.ensures.err

pub returns-clause-cut : goal.returns-clause-cut
returns-clause-cut g c =
    let lines = report_lines c.args.workload.now c.args.outcome.now in
    let count = length c.args.races.now in
    let adds = c.what_is_written_adds_up.ensures in
    let one : 1 ≤ 1 = omega arith in
    on_err c.write.result
    (adds.up_to _ _ _ lines (count + 1) c.in_ok-report.ensures.writes (adds.up_to _ _ _ count 1 c.in_ok-write_race_lines.ensures.writes (1, one, c.write.ensures.writes)))
