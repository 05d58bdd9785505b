use Rattle.measure.proofs.run.time_of.Given as goal

abbrev pub invariant-loop-round : goal.invariant-loop-round
invariant-loop-round g l = record { is : g.M.Measured.has_pass l.object l.pass }
