use Rattle.thread_objects.proofs.Moving.{counted_of}
use Rattle.thread_objects.proofs.parts.laws.a_note_counts_its_calls.Goals as goal

pub returns : goal.returns
returns c own front worker counted is = counted_of own front counted worker is
