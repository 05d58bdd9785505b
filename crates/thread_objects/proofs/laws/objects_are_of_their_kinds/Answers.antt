use Rattle.thread_objects.proofs.Declared.{declared_at, has_room, part_at}
use Rattle.thread_objects.proofs.laws.objects_are_of_their_kinds.Goals as goal

pub returns-clause-kind : goal.returns-clause-kind
returns-clause-kind g c = λ home plan objects place kind declared is. declared_at g.N.Note.at home plan objects declared place kind is

pub returns-clause-there : goal.returns-clause-there
returns-clause-there g c = λ home plan objects place kind declared is. has_room g.N.Note.at home plan objects declared place kind is

pub returns-clause-parts : goal.returns-clause-parts
returns-clause-parts g c = λ home plan objects place part declared is below.
    part_at g.N.Note.at home plan objects place part declared is below (c.parts_have_numbers_of_their_own.ensures.within plan place part is.0 is.1 is.2 below)
