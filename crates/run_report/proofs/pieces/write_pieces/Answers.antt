use Rattle.std.proofs.Common.{◌+◌, ℕ, List, [], Bor, get_or, drop, ap, arith}
use Rattle.std.specs.List.{flat_map}
use Rattle.run_report.proofs.Lines.{drop_item}
use Rattle.run_report.proofs.Writing.{goes_on, goes_cut, on_err}
use Rattle.run_report.proofs.pieces.write_pieces.Goals as goal

-- what stands for a piece where there is none
abbrev none : Bor (List ℕ)
none = record { ref_ptr = (0, 0); now = [] }

pub returns-in_err-write-clause-err : goal.returns-in_err-write-clause-err
returns-in_err-write-clause-err g c =
    let pieces = c.args.pieces.now in
    let i = c.loop-piece.piece-index in
    let here = ap (flat_map (λ p. p.now)) (drop_item pieces i none c.loop-piece-test.true) in
    on_err c.from_residual.result (goes_cut _ _ _ _ _ (get_or pieces i none).now (flat_map (λ p. p.now) (drop (i + 1) pieces)) here c.loop-piece.invariant.goes c.in_err-write.ensures.err)

pub loop-piece-preserved : goal.loop-piece-preserved
loop-piece-preserved g c =
    let pieces = c.args.pieces.now in
    let i = c.loop-piece.piece-index in
    let here = ap (flat_map (λ p. p.now)) (drop_item pieces i none c.loop-piece-test.true) in
    record {
      goes = goes_on _ _ _ _ _ (get_or pieces i none).now (flat_map (λ p. p.now) (drop (i + 1) pieces)) here c.loop-piece.invariant.goes c.in_ok-write.ensures.ok;
      faults = omega (arith, c.loop-piece.invariant.faults, c.in_ok-write.ensures.faults);
    }
