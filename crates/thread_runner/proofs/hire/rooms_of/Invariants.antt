-- The first calls have their rooms.
use Rattle.std.proofs.Common.{◌≡◌, take}
use Rattle.std.specs.Prelude.{vec_len}
use Rattle.thread_runner.specs.Sites.{AreRooms, ranges_in_calls}
use Rattle.thread_runner.proofs.hire.rooms_of.Given as goal

abbrev pub invariant-loop-index : goal.invariant-loop-index
invariant-loop-index l = record {
  roomy : AreRooms l.keys l.rooms.items;
  enough : ranges_in_calls (take l.index l.script) ≡ vec_len l.rooms;
}
