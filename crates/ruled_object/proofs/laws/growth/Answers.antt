use Rattle.ruled_object.proofs.Growth.{grows_both, meets-snoc}
use Rattle.ruled_object.proofs.laws.growth.Goals as goal

pub returns-clause-both : goal.returns-clause-both
returns-clause-both g c start old mid new es fs from between to at_first then_on =
    let m = g.M.Machine in grows_both m.next m.HALTS start old mid new es fs from between to at_first then_on

pub returns-clause-halted : goal.returns-clause-halted
returns-clause-halted g c es last answer meets = meets-snoc es last answer meets
