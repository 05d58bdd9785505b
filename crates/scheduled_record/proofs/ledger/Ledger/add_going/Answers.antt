use Rattle.std.proofs.Common.{sym, ◌∙◌}
use Rattle.std.proofs.lemmas.Result.{on_ok_weaker}
use Rattle.scheduled_record.proofs.Adding.{going_adds, dormant_so}
use Rattle.scheduled_record.proofs.ledger.Ledger.add_going.Goals as goal

pub add_on_starts_if-requires-clause-dormant : goal.add_on_starts_if-requires-clause-dormant
add_on_starts_if-requires-clause-dormant c goes = dormant_so c.args.workload.now c.args.self.now c.args.worker c.requires.worker c.requires.of (sym c.waits-goes.ensures ∙ goes)

pub returns : goal.returns
returns c = on_ok_weaker c.add_on_starts_if.result (λ adds. going_adds c.args.workload.now c.args.self.now c.add_on_starts_if.new.self c.args.worker c.requires.worker c.waits-goes.result (sym c.waits-goes.ensures) adds) c.add_on_starts_if.ensures
