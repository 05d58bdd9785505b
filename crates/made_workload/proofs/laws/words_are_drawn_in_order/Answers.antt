use Rattle.made_workload.proofs.Draws.{drawn_at, drawn_by_all, twos_are, drawn_rounds}
use Rattle.made_workload.proofs.laws.words_are_drawn_in_order.Goals as goal

pub returns-clause-steps : goal.returns-clause-steps
returns-clause-steps c = drawn_at

pub returns-clause-shares : goal.returns-clause-shares
returns-clause-shares c = drawn_by_all

pub returns-clause-twos : goal.returns-clause-twos
returns-clause-twos c = twos_are

pub returns-clause-rounds : goal.returns-clause-rounds
returns-clause-rounds c = λ seed worker there. (drawn_rounds seed worker there).many
