-- How a semaphore's weights are had, by its log.
use Rattle.std.specs.Prelude.{◌≡◌, ℕ, ◌+◌, ◌≤◌, ◌++◌}
use Rattle.sync_model.specs.declared.journal.Deed.TheVariants.{Event}
use Rattle.sema_core.specs.declared.event.SemaEvent.{SemaEvent}
use Rattle.sema_core.specs.declared.event.SemaReply.{SemaReply}
use Rattle.sema_core.specs.SemaLaws.{Log, state_after, asked, given_back, waited_for, arrived, ServesInOrder, IsSettled}
use Rattle.run_record.specs.declared.entered.ObjectEvent.TheVariants as event
use Rattle.run_record.specs.declared.entered.ObjectReply.TheVariants as reply
use Rattle.run_record.specs.Record.{ObjectEntry}

-- the entry is this event of a semaphore, and was answered this
abbrev pub IsOnSema : SemaEvent → SemaReply → ObjectEntry → Type 0
IsOnSema e answer entry = entry.deed ≡ Event (event.Sema e) (reply.Sema answer)

-- What the log of a semaphore of this size for so many callers shows, at each moment.
pub record ServesAll (callers size : ℕ) (log : Log) : Type 0 where
  -- no more is held than the size
  pub held : (earlier later : Log) → log ≡ earlier ++ later → (state_after callers size earlier).held ≤ size
  -- what was asked for is held, given back, or waited for
  pub counted : (earlier later : Log) → log ≡ earlier ++ later → (state_after callers size earlier).held + (given_back earlier + waited_for (state_after callers size earlier)) ≡ asked earlier
  -- of those who waited at an earlier moment and those who came since, a front part was granted, in order, and the others wait
  pub in_order : (earlier between later : Log) → log ≡ earlier ++ (between ++ later) → ServesInOrder (state_after callers size earlier) (arrived between) (state_after callers size (earlier ++ between))
  -- where somebody waits, the weight of the first in line doesn't fit beside what is held
  pub none_idle : (earlier later : Log) → log ≡ earlier ++ later → IsSettled (state_after callers size earlier)
