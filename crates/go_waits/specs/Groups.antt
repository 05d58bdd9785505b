-- What contracts see of a running WaitGroup and of the passes to it.
use Rattle.std.specs.Prelude.{◌≡◌, ℕ, ℤ, pos, true, false, List, All, replicate}
use Rattle.sync_model.specs.declared.journal.Entry.{Entry}
use Rattle.sync_model.specs.Front.{Front}
use Rattle.wait_cores.specs.declared.group.GroupEvent.{GroupEvent}
use Rattle.wait_cores.specs.declared.group.GroupPlace.TheVariants.{Out}
use Rattle.wait_cores.specs.declared.group.GroupReply.{GroupReply}
use Rattle.wait_cores.specs.GroupEdges.{group_releases, group_acquires}
use Rattle.wait_cores.specs.GroupMachine.{GroupState, next}
use Rattle.wait_cores.specs.GroupStanding.{waits_after}
use Rattle.ruled_object.specs.declared.pass.Pass.{Pass}
use Rattle.ruled_object.specs.Gathered as gathered
use Rattle.ruled_object.specs.Growth.{Placed, Grows, IsLawful}
use Rattle.ruled_object.specs.Passes as object
use Rattle.call_loop.specs.Between.{IsBetween, AreAllBetween, AreNewBetween}
use Rattle.go_waits.specs.declared.group.WaitGroup.{WaitGroup}

-- an entry of a group's journal
abbrev pub GroupMade : Type 0
GroupMade = Entry GroupEvent GroupReply

-- what was done on a group, in its one order
abbrev pub GroupJournal : Type 0
GroupJournal = List GroupMade

-- the pass of a caller
abbrev pub GroupPass : Type 0 → Type 0
GroupPass N = Pass GroupState N GroupEvent GroupReply

-- the state has this counter, and nobody waits
abbrev pub IsBegun : ℕ → ℤ → GroupState → Type 0
IsBegun callers counter state = (pos state.counter ≡ counter) × (state.places ≡ replicate callers Out)

module _ {N H : Type 0} where
  -- how many callers it has, and the state that its machine started from
  abbrev pub callers_of : WaitGroup N H → ℕ
  callers_of group = object.callers_of group.object

  abbrev pub start_of : WaitGroup N H → GroupState
  start_of group = object.start_of group.object

  -- it is the home of the note that the group was made with
  abbrev pub IsHomeOf : (H → N → Type 0) → WaitGroup N H → H → Type 0
  IsHomeOf at group home = object.IsHomeOf at group.object home

  -- it is the pass of a caller of this group that is between two calls: by its own entries it doesn't wait
  abbrev pub IsPassOf : WaitGroup N H → GroupPass N → Type 0
  IsPassOf group pass = IsBetween false waits_after group.object pass

  -- each of these is the pass of a caller of the group
  abbrev pub AreGroupPasses : WaitGroup N H → List (GroupPass N) → Type 0
  AreGroupPasses group passes = All (IsPassOf group) passes

  -- all passes of the group, in order of number, each between two calls
  abbrev pub AreAllPasses : WaitGroup N H → List (GroupPass N) → Type 0
  AreAllPasses group passes = AreAllBetween false waits_after group.object passes

  -- all passes of a new group, each good for so many calls. Nothing was done yet
  abbrev pub AreNew : WaitGroup N H → ℕ → List (GroupPass N) → Type 0
  AreNew group calls passes = AreNewBetween false waits_after group.object calls passes

  -- the caller made these entries, in order and no others; the fronts along them never fall
  abbrev pub GroupGrows : WaitGroup N H → GroupPass N → Front → List (Placed GroupEvent GroupReply) → GroupPass N → Front → Type 0
  GroupGrows group old from es new to = Grows next true (start_of group) old from es new to

  -- what a pass shows of the journal follows the machine, keeps the edge law, and has of its caller what the pass has
  abbrev pub IsGroupLawful : WaitGroup N H → GroupPass N → Type 0
  IsGroupLawful group pass = IsLawful next true group_releases group_acquires (start_of group) pass

  -- the caller halted the group by this entry
  abbrev pub GroupHalts : WaitGroup N H → GroupPass N → GroupMade → GroupPass N → Type 0
  GroupHalts group old e new = object.Adds next true group_releases group_acquires (start_of group) old e new

  -- the journal is all that the passes' callers did on the group
  abbrev pub IsGroupWhole : WaitGroup N H → GroupJournal → List (GroupPass N) → Type 0
  IsGroupWhole group journal passes = gathered.IsWhole next true group_releases group_acquires (start_of group) journal passes

  -- the same, and each pass has seen all of it
  abbrev pub IsGroupSeen : WaitGroup N H → GroupJournal → List (GroupPass N) → Type 0
  IsGroupSeen group journal passes = gathered.IsSeen next true group_releases group_acquires (start_of group) journal passes
