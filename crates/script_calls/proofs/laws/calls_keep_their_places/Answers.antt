use Rattle.script_calls.proofs.RunLemmas.{place_kept, place_next}
use Rattle.script_calls.proofs.laws.calls_keep_their_places.Goals as goal

pub returns-clause-place : goal.returns-clause-place
returns-clause-place g c = place_kept

pub returns-clause-next : goal.returns-clause-next
returns-clause-next g c = place_next
