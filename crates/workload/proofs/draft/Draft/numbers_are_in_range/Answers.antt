use Rattle.std.proofs.Common.{subst}
use Rattle.workload.specs.Readable.{IsReadable}
use Rattle.workload.proofs.XSyncCalls.{found_in_range}
use Rattle.workload.proofs.draft.Draft.numbers_are_in_range.Goals as goal

pub returns : goal.returns
returns c name found is = found_in_range c.args.self.now name found (subst (λ draft. IsReadable draft.plan) c.self.view_is c.self.invariant.readable) is
