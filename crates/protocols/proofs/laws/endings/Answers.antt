use Rattle.protocols.proofs.Endings.{ends}
use Rattle.protocols.proofs.laws.endings.Goals as goal

pub returns : goal.returns
returns g c stage deeds answer spelt = let p = g.P.Protocol in ends p.event p.meaning stage deeds answer spelt
