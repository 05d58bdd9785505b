use Rattle.command_line.proofs.Entering.{refused_alone}
use Rattle.command_line.proofs.laws.the_command_alone_refuses.Goals as goal

pub returns : goal.returns
returns c words none faultless = refused_alone words none faultless
