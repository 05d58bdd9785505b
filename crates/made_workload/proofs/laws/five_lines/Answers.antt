use Rattle.made_workload.proofs.Lines.{five_lines}
use Rattle.made_workload.proofs.laws.five_lines.Goals as goal

pub returns : goal.returns
returns c = five_lines
