use Rattle.thread_objects.proofs.SameKinds.{column_seats}
use Rattle.thread_objects.proofs.laws.columns_are_of_passes_to_their_objects.Goals as goal

pub returns : goal.returns
returns g c = λ home workers count worker object column pass seated here. column_seats g.N.Note.at home workers count worker object column pass seated here
