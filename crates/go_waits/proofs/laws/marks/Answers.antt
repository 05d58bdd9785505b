use Rattle.go_waits.proofs.OnceSpelling.{marks_by}
use Rattle.go_waits.proofs.laws.marks.Goals as goal

pub returns : goal.returns
returns g c = marks_by
