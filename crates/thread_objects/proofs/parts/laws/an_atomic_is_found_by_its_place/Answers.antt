use Rattle.thread_objects.proofs.Finding.{atomic_has}
use Rattle.thread_objects.proofs.parts.laws.an_atomic_is_found_by_its_place.Goals as goal

pub returns : goal.returns
returns c plan types numbers place type call has at fits = (has.within place type at, atomic_has plan types numbers place type call has at fits)
