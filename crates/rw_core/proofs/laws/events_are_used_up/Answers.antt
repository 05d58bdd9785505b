use Rattle.rw_core.proofs.Runs.{keeps}
use Rattle.rw_core.proofs.UsedUp.{next-uses}
use Rattle.rw_core.proofs.laws.events_are_used_up.Goals as goal

pub returns : goal.returns
returns c state caller event valid =
    next-uses c.events_are_used_up.ensures state caller event valid
    (keeps (record { begins = c.validity.ensures.begins; goes_on = c.validity.ensures.goes_on }) state caller event valid)
