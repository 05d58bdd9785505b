-- Which events of Starts synchronize before which others. Go's memory model says that the `go` statement that starts a goroutine is
-- synchronized before the start of its execution: a start, before the going of a worker. That an end releases is a choice of this
-- profile. What `WaitGroup.Go` promises of the return of the function, the group's own events do.
use Rattle.std.specs.Prelude.{Bool, true, false}
use Rattle.starts_core.specs.declared.starts.StartEvent.{StartEvent}
use Rattle.starts_core.specs.declared.starts.StartEvent.TheVariants.{Start, End, Leave}
use Rattle.starts_core.specs.declared.starts.StartReply.{StartReply}
use Rattle.starts_core.specs.declared.starts.StartReply.TheVariants.{Done, Go, Never, Still}

-- the event was made
abbrev pub is_made : StartReply → Bool
is_made Done = true
is_made Go = false
is_made Never = false
is_made Still = false

-- the worker was started
abbrev pub goes : StartReply → Bool
goes Done = false
goes Go = true
goes Never = false
goes Still = false

-- a start and an end release
abbrev pub starts_releases : StartEvent → StartReply → Bool
starts_releases (Start worker) reply = is_made reply
starts_releases End reply = is_made reply
starts_releases Leave reply = false

-- a worker that goes acquires
abbrev pub starts_acquires : StartEvent → StartReply → Bool
starts_acquires (Start worker) reply = false
starts_acquires End reply = false
starts_acquires Leave reply = goes reply
