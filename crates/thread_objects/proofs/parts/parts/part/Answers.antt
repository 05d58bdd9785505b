use Rattle.thread_objects.proofs.PartWorking.{did_works}
use Rattle.thread_objects.proofs.parts.parts.part.Goals as goal

pub returns-clause-works : goal.returns-clause-works
returns-clause-works g c = λ event reply number. did_works _ _ _ _ _ _ _ _ _ c.a_note_counts_its_calls.ensures event reply number _ _ _ _ _ _ g.met.N.Note.counted _ c.requires.note c.call_within_timed.ensures.note c.call_within_timed.ensures.events

pub returns-clause-called : goal.returns-clause-called
returns-clause-called g c = λ plan some. c.what_a_call_leaves.ensures.none plan _ _ c.call_within_timed.ensures.note.home c.call_within_timed.ensures.note.kept some
