-- What the callers of a wait group can still do there without a call returning: come to wait.
use Rattle.std.specs.Prelude.{ℕ, sum_by}
use Rattle.wait_cores.specs.declared.group.GroupEvent.{GroupEvent}
use Rattle.wait_cores.specs.declared.group.GroupEvent.TheVariants as group
use Rattle.wait_cores.specs.declared.group.GroupPlace.{GroupPlace}
use Rattle.wait_cores.specs.declared.group.GroupPlace.TheVariants.{Out, Waiting, Released}
use Rattle.wait_cores.specs.declared.group.GroupReply.{GroupReply}
use Rattle.wait_cores.specs.declared.group.GroupReply.TheVariants as grouped
use Rattle.wait_cores.specs.GroupMachine.{GroupState}

-- one for a caller that doesn't wait, and may come to
abbrev pub left_at : GroupPlace → ℕ
left_at Out = 1
left_at Waiting = 0
left_at Released = 0

abbrev pub group_left : GroupState → ℕ
group_left state = sum_by left_at state.places

-- what an answer uses up of it: the caller waits
abbrev pub group_used : GroupReply → ℕ
group_used grouped.Done = 0
group_used grouped.Queued = 1
group_used (grouped.Misused misuse) = 0
group_used grouped.Still = 0

-- what the answer to an event gives back of it: the caller leaves
abbrev pub given_leaving : GroupReply → ℕ
given_leaving grouped.Done = 1
given_leaving (grouped.Misused misuse) = 1
given_leaving grouped.Queued = 0
given_leaving grouped.Still = 0

abbrev pub group_given : GroupEvent → GroupReply → ℕ
group_given (group.Add delta) reply = 0
group_given group.Wait reply = 0
group_given group.Leave reply = given_leaving reply
