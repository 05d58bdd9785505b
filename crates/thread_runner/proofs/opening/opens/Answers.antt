use Rattle.std.proofs.Common.{sym, ◌∙◌}
use Rattle.thread_runner.proofs.WholeLines.{asks_first, comes_at_once, some_dormant}
use Rattle.thread_runner.proofs.opening.opens.Goals as goal

pub returns-then-not-is_dormant-clause-works : goal.returns-then-not-is_dormant-clause-works
returns-then-not-is_dormant-clause-works g c = comes_at_once c.args.site.now.catalog.workload.now c.args.worker.now.number c.moves.ensures.none _ (sym c.is_dormant.ensures.dormant ∙ c.if-not-is_dormant.true)

pub returns-then-not-is_dormant-clause-unmisused : goal.returns-then-not-is_dormant-clause-unmisused
returns-then-not-is_dormant-clause-unmisused g c = λ misuse is. absurd cc

pub wait_start_at-requires-clause-dormant : goal.wait_start_at-requires-clause-dormant
wait_start_at-requires-clause-dormant g c = some_dormant c.args.site.now.catalog.workload.now.dormant c.args.worker.now.number (sym c.is_dormant.ensures.dormant ∙ c.if-not-is_dormant.false)

pub returns-clause-works : goal.returns-clause-works
returns-clause-works g c = asks_first c.args.site.now.catalog.workload.now c.args.worker.now.number _ _ c.wait_start_at.result (sym c.is_dormant.ensures.dormant ∙ c.if-not-is_dormant.false) c.wait_start_at.ensures.works
