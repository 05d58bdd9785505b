use Rattle.std.proofs.Common.{◌∙◌}
use Rattle.go_waits.proofs.once.Once.halt.Goals as goal

pub returns-clause-pass : goal.returns-clause-pass
returns-clause-pass g c = (record { of = c.halt.ensures.pass.0; stands = c.halt.ensures.stands ∙ c.requires.pass.stands }, c.halt.ensures.pass.1)
