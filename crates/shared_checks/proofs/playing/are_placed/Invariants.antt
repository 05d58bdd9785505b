use Rattle.shared_checks.specs.Placing.{contents_of}
use Rattle.shared_checks.proofs.PlayedLemmas.{PlayedTo}
use Rattle.shared_checks.proofs.playing.are_placed.Given as goal

abbrev pub invariant-loop-one : goal.invariant-loop-one
invariant-loop-one l = PlayedTo (contents_of l.initial.objects) l.history l.lists l.placed l.one-index l.made (contents_of l.objects)
