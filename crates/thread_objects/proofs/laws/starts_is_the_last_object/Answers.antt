use Rattle.thread_objects.proofs.Declared.{starts_is_last}
use Rattle.thread_objects.proofs.laws.starts_is_the_last_object.Goals as goal

pub returns : goal.returns
returns g c = λ home plan all declared waits. starts_is_last g.N.Note.at home plan all declared waits (c.parts_have_numbers_of_their_own.ensures.starts plan waits)
