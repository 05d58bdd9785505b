-- Which events of a once synchronize before which others, as the documentation of Go's `sync` says: an entry that releases
-- does so before each later one of the same object that acquires. An event that changes nothing does neither.
use Rattle.std.specs.Prelude.{Bool, true, false}
use Rattle.wait_cores.specs.declared.once.OnceEvent.{OnceEvent}
use Rattle.wait_cores.specs.declared.once.OnceReply.{OnceReply}
use Rattle.wait_cores.specs.declared.once.OnceReply.TheVariants as onced

module _ {T : Type 0} where
  -- the return from the function synchronizes before the return of any call on the once
  abbrev pub once_releases : OnceEvent T → OnceReply T → Bool
  once_releases event onced.Ended = true
  once_releases event onced.Run = false
  once_releases event onced.Queued = false
  once_releases event (onced.Done kept) = false
  once_releases event (onced.Left kept) = false
  once_releases event onced.Still = false

  -- a call returns at once, or with the leaving of a caller that was released
  abbrev pub once_acquires : OnceEvent T → OnceReply T → Bool
  once_acquires event (onced.Done kept) = true
  once_acquires event (onced.Left kept) = true
  once_acquires event onced.Run = false
  once_acquires event onced.Queued = false
  once_acquires event onced.Ended = false
  once_acquires event onced.Still = false
