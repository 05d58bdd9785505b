use Rattle.vector_clocks.proofs.HandedLemmas.{not_first, not_second}
use Rattle.vector_clocks.proofs.laws.a_channel_that_is_set_forgets.Goals as goal

pub returns : goal.returns
returns c x y z apart far none forgets = (not_first x y z apart far none forgets, not_second x y z apart far none forgets)
