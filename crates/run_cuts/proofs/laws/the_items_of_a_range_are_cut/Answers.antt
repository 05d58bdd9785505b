use Rattle.run_cuts.proofs.RangeCut.{range_cut}
use Rattle.run_cuts.proofs.laws.the_items_of_a_range_are_cut.Goals as goal

pub returns : goal.returns
returns c keys m begin = range_cut keys m begin
