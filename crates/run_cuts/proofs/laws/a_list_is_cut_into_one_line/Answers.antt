use Rattle.run_cuts.specs.CallCuts.{call_cut}
use Rattle.run_cuts.specs.OneLine.{settles_by}
use Rattle.run_cuts.specs.StartsCuts.{opening_cut, closing_cut}
use Rattle.run_cuts.proofs.CallCut.{calls_cut}
use Rattle.run_cuts.proofs.LineCut.{lines_cut}
use Rattle.run_cuts.proofs.StartsCut.{opening_cuts, closing_cuts}
use Rattle.run_cuts.proofs.laws.a_list_is_cut_into_one_line.Goals as goal

pub returns-clause-by : goal.returns-clause-by
returns-clause-by c plan worker opens closes cut opens_cut closes_cut cuts = lines_cut plan worker opens closes (settles_by plan) cut opens_cut closes_cut cuts

pub returns-clause-lines : goal.returns-clause-lines
returns-clause-lines c plan worker =
    lines_cut plan worker (opening_cut plan worker) (closing_cut plan worker) (settles_by plan) (call_cut plan worker) (opening_cuts plan worker) (closing_cuts plan worker) (calls_cut plan worker)
