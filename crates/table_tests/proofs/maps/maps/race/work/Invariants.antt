use Rattle.sync_model.specs.Shared.{IsCallerAt}
use Rattle.shared_table.specs.Notes.{own_by, IsNoteOf}
use Rattle.table_tests.proofs.maps.maps.race.work.Given as goal

abbrev pub invariant-loop-round : goal.invariant-loop-round
invariant-loop-round g l = IsCallerAt IsNoteOf own_by l.table l.caller

abbrev pub ghosts-own : goal.ghosts-own
ghosts-own g a = record { name = a.blank.name; parts = a.blank.parts }
