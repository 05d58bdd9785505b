use Rattle.object_checks.proofs.FrontLemmas.{no_copies}
use Rattle.object_checks.proofs.journals.edge.counts_of.Goals as goal

pub loop-caller-init : goal.loop-caller-init
loop-caller-init c = no_copies c.args.front.now
