use Rattle.measure.proofs.one_call.OnMeasured.fill.Given as goal

abbrev pub invariant-loop-key : goal.invariant-loop-key
invariant-loop-key g l = record { is : g.S.MapAndInt.has_caller l.self.shared l.caller }
