use Rattle.std.proofs.Common.{Ok, Err}
use Rattle.sync_model.specs.declared.answer.Answer.TheVariants.{Done, Halted}
use Rattle.protocols.proofs.Gains.{takes_last}
use Rattle.protocols.proofs.laws.calls_gain_at_their_end.Goals as goal

pub returns-clause-done : goal.returns-clause-done
returns-clause-done g c stage deeds outcome spelt = let p = g.P.Protocol in takes_last p.event p.meaning g.P.Machine.takes p.gains c.laws.ensures.gains stage deeds (Done (Ok outcome)) spelt

pub returns-clause-misused : goal.returns-clause-misused
returns-clause-misused g c stage deeds misuse spelt = let p = g.P.Protocol in takes_last p.event p.meaning g.P.Machine.takes p.gains c.laws.ensures.gains stage deeds (Done (Err misuse)) spelt

pub returns-clause-halted : goal.returns-clause-halted
returns-clause-halted g c stage deeds misuse spelt = let p = g.P.Protocol in takes_last p.event p.meaning g.P.Machine.takes p.gains c.laws.ensures.gains stage deeds (Halted misuse) spelt
