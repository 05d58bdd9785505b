use Rattle.std.proofs.Common.{rules, ℕ, ◌<◌, ◌++◌, length, take, ap, arith}
use Rattle.std.proofs.lemmas.List.{length-take, length-append}
use Rattle.gosync_call.proofs.Reading.{input_ended, input_full, ended_before, on_err, taken_more}
use Rattle.gosync_call.proofs.input.read_open.Goals as goal

pub returns-then-count-eq0-clause-bytes : goal.returns-then-count-eq0-clause-bytes
returns-then-count-eq0-clause-bytes g c =
    let some : 0 < length (take c.min-room.result c.loop-chunk.chunk) = search (rules, length-take) in
    let none = ap (λ (n : ℕ). take n c.read.new.buf) c.if-count-eq0.true in
    input_ended c.args.limit _ _ _ c.loop-chunk.invariant.gives (ended_before _ _ _ c.in_ok-count.ensures.gives none (c.in_ok-count.ensures.ends c.if-count-eq0.true some)) (omega (arith, c.loop-chunk.invariant.within, c.loop-chunk.bytes.ok))

-- what was read before memory was out
pub returns-in_err-extend_from_slice-clause-err : goal.returns-in_err-extend_from_slice-clause-err
returns-in_err-extend_from_slice-clause-err g c =
    let given = take c.in_ok-count.count c.read.new.buf in
    let bytes = c.loop-chunk.bytes.items in
    on_err c.from_residual-in_err-extend_from_slice.result (
      bytes ++ given,
      (
        taken_more _ _ _ bytes given c.loop-chunk.invariant.gives c.in_ok-count.ensures.gives,
        omega (arith, length-append bytes given, length-take c.in_ok-count.count c.read.new.buf, c.in_ok-count.ensures.fits, length-take c.min-room.result c.loop-chunk.chunk, c.min-room.ensures, c.len-in-loop-chunk.ensures, c.loop-chunk.invariant.within, c.loop-chunk.bytes.ok),
      ),
    )

pub returns-clause-bytes : goal.returns-clause-bytes
returns-clause-bytes g c =
    input_full c.args.limit _ _ _ c.loop-chunk.invariant.gives (omega (arith, c.loop-chunk.invariant.within, c.loop-chunk-test.false, c.len.ensures, c.loop-chunk.bytes.ok))
