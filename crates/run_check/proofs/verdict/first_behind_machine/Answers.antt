use Rattle.std.proofs.Common.{refl, arith}
use Rattle.record_text.specs.Reads.{told_by}
use Rattle.record_clauses.specs.declared.clause.Clause.TheVariants.{Machine, Edge}
use Rattle.run_check.proofs.FoundVerdicts.{fails, stops_at}
use Rattle.run_check.proofs.verdict.first_behind_machine.Goals as goal

pub returns-else-branch : goal.returns-else-branch
returns-else-branch c =
    let (claim, found, journals, up) = c.requires.found in
    stops_at (told_by c.args.text.now) c.args.findings.now claim found Machine Edge (omega arith) refl up (fails _ c.if-branch.false (c.in_ok-keep_edges.ensures claim journals up))
