use Rattle.kept_record.proofs.AsRecord.{keeps_fronts}
use Rattle.kept_record.proofs.laws.no_front_falls.Goals as goal

pub returns : goal.returns
returns c plan acts all = keeps_fronts plan acts all
