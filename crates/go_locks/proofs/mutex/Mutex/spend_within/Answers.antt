use Rattle.std.proofs.Common.{false, ap, ◌∙◌}
use Rattle.protocols.specs.MutexStages.{mutex_stands}
use Rattle.ruled_object.specs.Standing.{stand_by}
use Rattle.go_locks.proofs.mutex.Mutex.spend_within.Goals as goal

pub returns : goal.returns
returns g c =
    let spent = c.spend.ensures in
    (record { of = spent.pass.0; stands = ap (stand_by false mutex_stands) spent.own ∙ c.requires.0.stands }, spent.pass.1)
