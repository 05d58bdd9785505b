use Rattle.std.proofs.Common.{◌≡◌, [], get_or, length}
use Rattle.run_cuts.specs.CallCuts.{call_cut}
use Rattle.run_cuts.specs.OneLine.{settles_by}
use Rattle.run_cuts.specs.StartsCuts.{closing_cut}
use Rattle.list_checks.proofs.SpellLines.{SoFar}
use Rattle.list_checks.proofs.spell.line.cut_script.Given as goal

abbrev pub invariant-loop-index : goal.invariant-loop-index
invariant-loop-index l = record {
  script : l.script ≡ get_or l.workload.scripts l.worker [];
  so : SoFar (settles_by l.workload) (closing_cut l.workload l.worker) (call_cut l.workload l.worker) l.script l.items l.fn.from l.fn.calls.items l.index l.progress.passes l.progress.at l.progress.before l.progress.replies l.progress.calls.items;
  room : l.progress.calls.room ≡ length l.items;
}
