use Rattle.record_text.proofs.Decimals.{no_int_below}
use Rattle.record_text.proofs.number.read_below_zero.Goals as goal

pub returns-in_err-read_magnitude : goal.returns-in_err-read_magnitude
returns-in_err-read_magnitude c = rw c.from_residual.ensures (no_int_below c.args.digits.now c.in_err-read_magnitude.ensures)
