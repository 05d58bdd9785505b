use Rattle.command_line.proofs.SeedText.{seed_spelled, text_is_seed}
use Rattle.command_line.proofs.laws.a_seed_is_its_decimal_text.Goals as goal

pub returns : goal.returns
returns c word seed = (seed_spelled word seed (c.numbers.ensures word), λ is. text_is_seed word seed is.0 is.1)
