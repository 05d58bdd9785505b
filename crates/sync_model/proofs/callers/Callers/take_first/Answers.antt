use Rattle.std.proofs.Common.{arith}
use Rattle.sync_model.proofs.CallersLemmas.{first_was_in, first_is_out, others_stay, fewer}
use Rattle.sync_model.proofs.callers.Callers.take_first.Goals as goal

pub returns-clause-taken : goal.returns-clause-taken
returns-clause-taken c = let n = c.args.self.now in let same = c.self.view_is in let some = c.if-self-eq0.false in
    rw c.self.view_is (first_was_in n (omega arith) (omega arith), first_is_out n (omega arith) (omega arith))

pub returns-clause-others : goal.returns-clause-others
returns-clause-others c = let n = c.args.self.now in let same = c.self.view_is in let some = c.if-self-eq0.false in rw c.self.view_is (λ other. others_stay n other (omega arith) (omega arith))

pub returns-clause-fewer : goal.returns-clause-fewer
returns-clause-fewer c = let n = c.args.self.now in let same = c.self.view_is in let some = c.if-self-eq0.false in rw c.self.view_is (fewer n (omega arith) (omega arith))
