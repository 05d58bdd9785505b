use Rattle.record_text.proofs.Decimals.{no_magnitude, no_zero, no_more}
use Rattle.record_text.proofs.number.read_magnitude.Goals as goal

pub returns-then-number-eq0 : goal.returns-then-number-eq0
returns-then-number-eq0 c = no_magnitude c.args.word.now c.in_ok-number.number c.in_ok-number.ensures.0 c.in_ok-number.ensures.1 (no_zero c.in_ok-number.number c.if-number-eq0.true)

pub returns-then-number-gt-MAX_BELOW : goal.returns-then-number-gt-MAX_BELOW
returns-then-number-gt-MAX_BELOW c = no_magnitude c.args.word.now c.in_ok-number.number c.in_ok-number.ensures.0 c.in_ok-number.ensures.1 (no_more c.in_ok-number.number c.if-number-gt-MAX_BELOW.true)
