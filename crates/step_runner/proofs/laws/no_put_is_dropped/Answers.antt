use Rattle.step_runner.specs.State.{start}
use Rattle.step_runner.specs.Turns.{after_items}
use Rattle.step_runner.proofs.PutsLeft.{Rooms, items_have_room, put_is_kept}
use Rattle.step_runner.proofs.laws.no_put_is_dropped.Goals as goal

abbrev rooms : goal.After-runs_go_on → Rooms
rooms c = record { begins = c.pools_have_room.ensures.begins; goes_on = c.room_is_kept.ensures; kept = c.pools_have_room.ensures.kept; further = record { left = c.runs_go_on.ensures.left; made = c.runs_go_on.ensures.made; few = c.runs_go_on.ensures.few } }

pub returns : goal.returns
returns c plan items worker place item p valid =
    put_is_kept (rooms c) plan worker (after_items plan items (start plan)) place item p
    (items_have_room (rooms c) plan (c.validity.ensures.goes_on plan) (c.validity.ensures.begins plan valid) items)
