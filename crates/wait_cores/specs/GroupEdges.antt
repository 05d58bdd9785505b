-- Which events of a wait group synchronize before which others, as the documentation of Go's `sync` says: an entry that releases
-- does so before each later one of the same object that acquires. An event that changes nothing, and a misuse, does neither.
use Rattle.std.specs.Prelude.{ℤ, pos, negsuc, Bool, true, false, ◌&&◌}
use Rattle.wait_cores.specs.declared.group.GroupEvent.{GroupEvent}
use Rattle.wait_cores.specs.declared.group.GroupEvent.TheVariants as group
use Rattle.wait_cores.specs.declared.group.GroupReply.{GroupReply}
use Rattle.wait_cores.specs.declared.group.GroupReply.TheVariants as grouped

-- the event was made at the group, and of a wait, it returns
abbrev pub is_done : GroupReply → Bool
is_done grouped.Done = true
is_done grouped.Queued = false
is_done (grouped.Misused misuse) = false
is_done grouped.Still = false

abbrev pub is_below_zero : ℤ → Bool
is_below_zero (pos number) = false
is_below_zero (negsuc number) = true

-- a call to Done, or to Add with a number below 0, synchronizes before the return of any Wait call that it unblocks
abbrev pub group_releases : GroupEvent → GroupReply → Bool
group_releases (group.Add delta) reply = is_below_zero delta && is_done reply
group_releases group.Wait reply = false
group_releases group.Leave reply = false

-- a wait returns at once, or with the leaving of a caller that was released
abbrev pub group_acquires : GroupEvent → GroupReply → Bool
group_acquires (group.Add delta) reply = false
group_acquires group.Wait reply = is_done reply
group_acquires group.Leave reply = is_done reply
