use Rattle.std.proofs.Common.{◌≡◌, ◌∙◌, ◌+◌, ◌-◌, ◌≤◌, length, take, drop, sym, subst, arith}
use Rattle.std.specs.List.{flat_map}
use Rattle.sync_outside.specs.Bytes.{Appends, AppendsFront}
use Rattle.run_report.specs.Writes.{WroteUpTo}
use Rattle.race_clocks.specs.declared.race.Race.{Race}
use Rattle.race_clocks.specs.RaceText.{race_line}
use Rattle.race_clocks.proofs.TextCuts.{next_piece, on_err, with_rest}
use Rattle.race_clocks.proofs.report.report.write_race_lines.Goals as goal

-- what stands for a race where there is none
abbrev none : Race
none = record { variable = 0; first = record { worker = 0; index = 0 }; second = record { worker = 0; index = 0 } }

pub loop-race-preserved : goal.loop-race-preserved
loop-race-preserved g c =
    let f = race_line c.args.workload.now in
    let races = c.args.races.now in
    let i = c.loop-race.race-index in
    let adds = c.what_is_written_adds_up.ensures in
    let line = c.deref.ensures.value ∙ c.set_race_line.ensures.line in
    record {
      wrote = subst (Appends _ _) (sym (next_piece f races i none c.loop-race-test.true)) (adds.both _ _ _ (flat_map f (take i races)) _ c.loop-race.invariant.wrote (subst (Appends _ _) line c.in_ok-write.ensures.ok));
      writes = adds.writes _ _ _ i 1 c.loop-race.invariant.writes c.in_ok-write.ensures.writes;
      faults = omega (arith, c.loop-race.invariant.faults, c.in_ok-write.ensures.faults);
      room = c.set_race_line.ensures.room;
    }

pub returns-in_err-write-clause-err : goal.returns-in_err-write-clause-err
returns-in_err-write-clause-err g c =
    let f = race_line c.args.workload.now in
    let races = c.args.races.now in
    let i = c.loop-race.race-index in
    let adds = c.what_is_written_adds_up.ensures in
    let line = c.deref.ensures.value ∙ c.set_race_line.ensures.line in
    let here = adds.further _ _ _ (flat_map f (take i races)) _ c.loop-race.invariant.wrote (subst (AppendsFront _ _) line c.in_err-write.ensures.err) in
    on_err c.from_residual.result (subst (AppendsFront _ _) (sym (with_rest f races i none c.loop-race-test.true)) (adds.part _ _ _ (flat_map f (drop (i + 1) races)) here))

pub returns-in_err-write-clause-cut : goal.returns-in_err-write-clause-cut
returns-in_err-write-clause-cut g c =
    let races = c.args.races.now in
    let i = c.loop-race.race-index in
    let adds = c.what_is_written_adds_up.ensures in
    let one : 1 ≤ 1 = omega arith in
    let here = adds.up_to _ _ _ i 1 c.loop-race.invariant.writes (1, one, c.in_err-write.ensures.writes) in
    let all : i + 1 + (length races - (i + 1)) ≡ length races = omega (arith, c.loop-race-test.true) in
    on_err c.from_residual.result (subst (WroteUpTo _ _) all (adds.some _ _ (i + 1) (length races - (i + 1)) here))
