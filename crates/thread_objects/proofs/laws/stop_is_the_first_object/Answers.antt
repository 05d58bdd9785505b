use Rattle.thread_objects.proofs.Declared.{stop_is_first}
use Rattle.thread_objects.proofs.laws.stop_is_the_first_object.Goals as goal

pub returns : goal.returns
returns g c = λ home plan all declared. stop_is_first g.N.Note.at home plan all declared
