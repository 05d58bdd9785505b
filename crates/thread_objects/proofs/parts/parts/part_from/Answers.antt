use Rattle.thread_objects.proofs.PartWorking.{did_works}
use Rattle.thread_objects.proofs.parts.parts.part_from.Goals as goal

pub returns-clause-works : goal.returns-clause-works
returns-clause-works g c = λ event reply number. did_works _ _ _ _ _ _ _ _ _ c.a_note_counts_its_calls.ensures event reply number _ _ _ _ _ _ g.met.N.Note.counted _ c.requires.note c.call_within.ensures.note c.call_within.ensures.events
