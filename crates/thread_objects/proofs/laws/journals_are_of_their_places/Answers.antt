use Rattle.thread_objects.proofs.DeclaredJournals.{of_declared}
use Rattle.thread_objects.proofs.laws.journals_are_of_their_places.Goals as goal

pub returns : goal.returns
returns g c = λ home plan place kind object journal declared is. of_declared g.N.Note.at home plan place journal kind object declared is
