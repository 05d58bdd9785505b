use Rattle.std.proofs.Common.{◌+◌, arith}
use Rattle.workload_text.proofs.Digits.{digit_in, number_more, number_front}
use Rattle.workload_text.proofs.number.value.Goals as goal

pub with_digit-requires : goal.with_digit-requires
with_digit-requires c = (digit_in c.args.word.now c.loop-digit.digit-index c.requires c.loop-digit-test.true).0

pub loop-digit-preserved : goal.loop-digit-preserved
loop-digit-preserved c = omega (arith, number_more c.args.word.now c.loop-digit.digit-index c.requires c.loop-digit-test.true, c.in_ok-value.ensures, c.loop-digit.invariant)

pub returns-in_err-value : goal.returns-in_err-value
returns-in_err-value c =
    let i = c.loop-digit.digit-index in
    rw c.from_residual.ensures (omega (arith, number_more c.args.word.now i c.requires c.loop-digit-test.true, number_front c.args.word.now (i + 1), c.in_err-value.ensures, c.loop-digit.invariant))
