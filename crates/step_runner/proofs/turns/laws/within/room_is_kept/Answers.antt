use Rattle.step_runner.proofs.WithinKeeps.{within_room}
use Rattle.step_runner.proofs.turns.laws.within.room_is_kept.Goals as goal

pub returns : goal.returns
returns c worker moment begun left call objects few room = within_room c.pools_have_room.ensures.goes_on worker moment begun left call objects few room
