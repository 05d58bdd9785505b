use Rattle.run_check.proofs.JournalClauses.{edges_kept, edges_of}
use Rattle.object_checks.specs.JournalItems.{journals_in}
use Rattle.run_check.proofs.journals.keep_edges.Goals as goal

pub returns : goal.returns
returns c claim only up = (
  λ is. edges_of claim (journals_in c.args.journals.now) only up (c.in_ok-keep.ensures.0 is),
  λ edge. c.in_ok-keep.ensures.1 (edges_kept claim (journals_in c.args.journals.now) only edge),
)
