use Rattle.shared_plain.proofs.new.caller_with.Goals as goal

pub returns : goal.returns
returns c = λ i. record { note = record { pass = c.args.pass; callers = c.args.callers; spare = c.args.spare; stamp = record c.args.stamp.now { time = c.same.ensures i }; done = 0 } }
