-- The calls of a wait group, stage by stage.
use Rattle.std.specs.Prelude.{◌≡◌, ℕ, negsuc, Bool, true, false, replicate, Option, None, Result}
use Rattle.sync_types.specs.declared.misuse.Misuse.{Misuse}
use Rattle.wait_cores.specs.declared.group.GroupEvent.{GroupEvent}
use Rattle.wait_cores.specs.declared.group.GroupEvent.TheVariants as event
use Rattle.wait_cores.specs.declared.group.GroupReply.{GroupReply}
use Rattle.wait_cores.specs.declared.group.GroupReply.TheVariants as reply
use Rattle.wait_cores.specs.declared.group.GroupPlace.TheVariants.{Out}
use Rattle.wait_cores.specs.GroupMachine.{GroupState}
use Rattle.protocols.specs.declared.step.Step.{Step}
use Rattle.protocols.specs.declared.step.Step.TheVariants.{Finished, Misused, Waits, Never}
use Rattle.protocols.specs.declared.wait_group.GroupStage.{GroupStage}
use Rattle.protocols.specs.declared.wait_group.GroupStage.TheVariants as stage

-- the event that a stage makes: `done` adds -1
abbrev pub group_event : GroupStage → ℕ → GroupEvent
group_event (stage.Add delta) now = event.Add delta
group_event stage.Done now = event.Add (negsuc 0)
group_event stage.Wait now = event.Wait
group_event stage.Leave now = event.Leave

-- an addition is done, or a misuse
abbrev pub add_meaning : GroupReply → Step GroupStage (Unit {0})
add_meaning reply.Done = Finished tt
add_meaning (reply.Misused misuse) = Misused misuse
add_meaning reply.Queued = Never
add_meaning reply.Still = Never

-- a wait returns at once, or sleeps until it is released
abbrev pub wait_meaning : GroupReply → Step GroupStage (Unit {0})
wait_meaning reply.Done = Finished tt
wait_meaning reply.Queued = Waits stage.Leave
wait_meaning (reply.Misused misuse) = Never
wait_meaning reply.Still = Never

-- a caller that was released leaves, which is a misuse where the group is in use again; any other sleeps on
abbrev pub leave_meaning : GroupReply → Step GroupStage (Unit {0})
leave_meaning reply.Done = Finished tt
leave_meaning (reply.Misused misuse) = Misused misuse
leave_meaning reply.Still = Waits stage.Leave
leave_meaning reply.Queued = Never

abbrev pub group_meaning : GroupStage → GroupReply → Step GroupStage (Unit {0})
group_meaning (stage.Add delta) reply = add_meaning reply
group_meaning stage.Done reply = add_meaning reply
group_meaning stage.Wait reply = wait_meaning reply
group_meaning stage.Leave reply = leave_meaning reply

-- a caller that waits leaves, and does nothing else
abbrev pub group_allows : GroupState → Bool → GroupStage → Bool
group_allows start waits stage.Leave = waits
group_allows start true (stage.Add delta) = false
group_allows start true stage.Done = false
group_allows start true stage.Wait = false
group_allows start false (stage.Add delta) = true
group_allows start false stage.Done = true
group_allows start false stage.Wait = true

-- any call may be done or a misuse
abbrev pub group_gives : GroupStage → Result (Unit {0}) Misuse → Bool
group_gives stage given = true

-- what the calls knew that unblock a wait is known after its return
abbrev pub group_gains : GroupStage → (Unit {0}) → Bool
group_gains (stage.Add delta) outcome = false
group_gains stage.Done outcome = false
group_gains stage.Wait outcome = true
group_gains stage.Leave outcome = true

-- it begins with whatever counter, and nobody waits
abbrev pub GroupBegins : ℕ → GroupState → Type 0
GroupBegins callers state = state.places ≡ replicate callers Out

-- no event carries a moment
abbrev pub group_moment : GroupEvent → Option ℕ
group_moment event = None
