-- Which events `go` makes, on a wait group and on the starts, in order, and how it answers by them.
use Rattle.std.specs.Prelude.{ℕ, pos, List, Result, Ok, Err}
use Rattle.sync_types.specs.declared.misuse.Misuse.{Misuse}
use Rattle.sync_model.specs.declared.answer.Answer.{Answer}
use Rattle.sync_model.specs.declared.answer.Answer.TheVariants.{Done, Halted}
use Rattle.sync_model.specs.Front.{Front, SameCounts}
use Rattle.wait_cores.specs.declared.group.GroupEvent.{GroupEvent}
use Rattle.wait_cores.specs.declared.group.GroupReply.{GroupReply}
use Rattle.starts_core.specs.declared.starts.StartEvent.TheVariants.{Start}
use Rattle.ruled_object.specs.Growth.{Placed, MeetsHalt, deeds_of}
use Rattle.go_waits.specs.declared.group.WaitGroup.{WaitGroup}
use Rattle.go_waits.specs.declared.starts.Starts.{Starts}
use Rattle.go_waits.specs.GroupCalls.{Adds}
use Rattle.go_waits.specs.Groups.{GroupPass, GroupGrows}
use Rattle.go_waits.specs.StartCalls.{StartsDid, MakesStart}
use Rattle.go_waits.specs.Startings.{StartsPass}

module _ {N H : Type 0} (worker : ℕ) (group : WaitGroup N H) (starts : Starts N H) where
  -- what the addition of 1 did on the group, as an `add` does: its event, at its place, and it answered by that; and its caller learnt nothing
  abbrev pub AddsOne : GroupPass N → Front → Answer (Result Unit Misuse) → GroupPass N → Front → Type 0
  AddsOne old from answer new to = ((es : List (Placed GroupEvent GroupReply)) × GroupGrows group old from es new to × Adds (pos 1) (deeds_of es) answer × MeetsHalt es answer) × SameCounts to from

  -- what the start of the worker did, as a `start` does
  abbrev pub StartsOne : StartsPass N → Front → Answer Unit → StartsPass N → Front → Type 0
  StartsOne old from answer new to = StartsDid starts (MakesStart (Start worker)) old from answer new to × SameCounts to from

  -- `go`: the addition of 1, and behind it the start, with the front that the addition left. Where the addition is a misuse or halted, nobody is started.
  pub data Goes (old : GroupPass N) (held : StartsPass N) (from : Front) : Answer (Result Unit Misuse) → GroupPass N → StartsPass N → Front → Type 0 where
    misused : (misuse : Misuse) (new : GroupPass N) (to : Front) → AddsOne old from (Done (Err misuse)) new to → Goes old held from (Done (Err misuse)) new held to
    not_added : (misuse : Misuse) (new : GroupPass N) (to : Front) → AddsOne old from (Halted misuse) new to → Goes old held from (Halted misuse) new held to
    started : (new : GroupPass N) (between : Front) (told : StartsPass N) (to : Front) → AddsOne old from (Done (Ok tt)) new between → StartsOne held between (Done tt) told to → Goes old held from (Done (Ok tt)) new told to
    not_started : (misuse : Misuse) (new : GroupPass N) (between : Front) (told : StartsPass N) (to : Front) → AddsOne old from (Done (Ok tt)) new between → StartsOne held between (Halted misuse) told to
        → Goes old held from (Halted misuse) new told to
