use Rattle.protocols.proofs.Gains.{gives_last}
use Rattle.protocols.proofs.laws.calls_give_what_they_may.Goals as goal

pub returns : goal.returns
returns g c stage deeds given spelt = let p = g.P.Protocol in gives_last p.event p.meaning p.gives c.laws.ensures.gives stage deeds given spelt
