use Rattle.ruled_object.proofs.object.Object.unpark_all.Given as goal

abbrev pub decreases-loop-caller : goal.decreases-loop-caller
decreases-loop-caller g l = l.callers
