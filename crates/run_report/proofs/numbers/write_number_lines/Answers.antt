use Rattle.std.proofs.Common.{ℕ, ◌+◌, List, [], ◌∷◌, Bor, length, drop, get_or, ap, subst, ◌∙◌, arith}
use Rattle.sync_outside.specs.Bytes.{Appends, AppendsFront}
use Rattle.std.specs.Fmt.{decimal}
use Rattle.workload.specs.Canonical.{text_line}
use Rattle.run_report.specs.NumberLines.{number_lines}
use Rattle.run_report.proofs.Lines.{drop_item}
use Rattle.run_report.proofs.NumberLines.{short_at}
use Rattle.run_report.proofs.WriteCounts.{write_cut, write_on}
use Rattle.run_report.proofs.Writing.{goes_on, goes_cut, on_err}
use Rattle.run_report.proofs.numbers.write_number_lines.Goals as goal

-- what stands for a line where there is none
abbrev none : Bor (List ℕ) × ℕ
none = (record { ref_ptr = (0, 0); now = [] }, 0)

pub set_number_line-requires-clause-word : goal.set_number_line-requires-clause-word
set_number_line-requires-clause-word g c = short_at c.args.entries.now c.loop-word.word-index none c.requires.words c.loop-word-test.true

pub returns-in_err-write-clause-err : goal.returns-in_err-write-clause-err
returns-in_err-write-clause-err g c =
    let entries = c.args.entries.now in
    let i = c.loop-word.word-index in
    let left = number_lines (drop (i + 1) entries) in
    let entry = get_or entries i none in
    let step = ap number_lines (drop_item entries i none c.loop-word-test.true) in
    let line = c.deref.ensures.value ∙ c.set_number_line.ensures.line in
    on_err c.from_residual.result (goes_cut _ _ _ _ _ (text_line (entry.0.now ∷ decimal entry.1 ∷ [])) left step c.loop-word.invariant.goes (subst (AppendsFront _ _) line c.in_err-write.ensures.err))

pub returns-in_err-write-clause-cut : goal.returns-in_err-write-clause-cut
returns-in_err-write-clause-cut g c =
    let entries = c.args.entries.now in
    let i = c.loop-word.word-index in
    let lines = ap length (drop_item entries i none c.loop-word-test.true) in
    on_err c.from_residual.result (write_cut _ _ _ _ _ _ lines c.loop-word.invariant.writes c.in_err-write.ensures.writes)

pub loop-word-preserved : goal.loop-word-preserved
loop-word-preserved g c =
    let entries = c.args.entries.now in
    let i = c.loop-word.word-index in
    let left = number_lines (drop (i + 1) entries) in
    let entry = get_or entries i none in
    let step = ap number_lines (drop_item entries i none c.loop-word-test.true) in
    let line = c.deref.ensures.value ∙ c.set_number_line.ensures.line in
    let lines = ap length (drop_item entries i none c.loop-word-test.true) in
    record {
      goes = goes_on _ _ _ _ _ (text_line (entry.0.now ∷ decimal entry.1 ∷ [])) left step c.loop-word.invariant.goes (subst (Appends _ _) line c.in_ok-write.ensures.ok);
      writes = write_on _ _ _ _ _ _ lines c.loop-word.invariant.writes c.in_ok-write.ensures.writes;
      faults = omega (arith, c.loop-word.invariant.faults, c.in_ok-write.ensures.faults);
      room = c.set_number_line.ensures.room;
    }
