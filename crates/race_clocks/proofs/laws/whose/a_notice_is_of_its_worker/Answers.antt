use Rattle.race_clocks.proofs.Whose.{own_notice}
use Rattle.race_clocks.proofs.laws.whose.a_notice_is_of_its_worker.Goals as goal

pub returns : goal.returns
returns c = own_notice
