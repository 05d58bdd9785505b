use Rattle.thread_objects.proofs.SameKinds.{of_one_kind}
use Rattle.thread_objects.proofs.laws.passes_are_to_objects_of_one_kind.Goals as goal

pub returns : goal.returns
returns g c = λ home workers worker object other pass word seat same has. of_one_kind g.N.Note.at home workers worker object other pass word seat same has
